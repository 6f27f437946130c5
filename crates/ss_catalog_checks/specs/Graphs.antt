-- What is reached along the edges of a graph whose nodes are numbers.
use Rattle.std.specs.Prelude.{◌≡◌, ◌==◌, ◌&&◌, ◌<◌, ◌++◌, ℕ, Bool, true, false, cond, List, [], ◌∷◌, length, set, get_or}
use Rattle.std.specs.List.{list_any, fold}
use Rattle.ss_catalog_checks.specs.declared.graph.Edge.{Edge}

-- what is reached: the starts, and what an edge leads to from what is reached
pub data Reached (edge : ℕ → ℕ → Bool) (start : ℕ → Bool) : ℕ → Type 0 where
  at_once : {n : ℕ} → start n ≡ true → Reached edge start n
  onward : {n m : ℕ} → Reached edge start n → edge n m ≡ true → Reached edge start m

-- a number is in a list
abbrev pub is_among : List ℕ → ℕ → Bool
is_among ns n = list_any (λ m. n == m) ns

-- the edges of a graph that lists for each node where its edges lead
abbrev pub has_edge : List (List ℕ) → ℕ → ℕ → Bool
has_edge graph n m = is_among (get_or graph n []) m

-- the edge from one node to another
abbrev pub edge : ℕ → ℕ → Edge
edge n m = record { from = n; to = m }

-- an edge is the one from this node to that
abbrev pub joins : ℕ → ℕ → Edge → Bool
joins n m e = n == e.from && m == e.to

-- one of these edges is the one from this node to that
abbrev pub is_edge : List Edge → ℕ → ℕ → Bool
is_edge edges n m = list_any (joins n m) edges

-- no edge leads out of the graph
abbrev pub IsClosed : List (List ℕ) → ℕ → Type 0
IsClosed graph count = (n m : ℕ) → has_edge graph n m ≡ true → m < count

-- a graph has just these edges, and room for each node that they lead to
pub record IsGraphOf (edges : List Edge) (graph : List (List ℕ)) : Type 0 where
  pub has_these : (n m : ℕ) → has_edge graph n m ≡ is_edge edges n m
  pub closed : IsClosed graph (length graph)

-- the starts are nodes of the graph
abbrev pub StartsWithin : List ℕ → ℕ → Type 0
StartsWithin starts count = (n : ℕ) → is_among starts n ≡ true → n < count

-- these flags with those of these nodes set
abbrev pub with_flag : List Bool → List ℕ → List Bool
with_flag flags nodes = fold (λ fs n. set fs n true) flags nodes

-- a node, where its flag is there and not set
abbrev pub newly : List Bool → ℕ → List ℕ
newly flags n = cond (get_or flags n true) [] (n ∷ [])

-- those of these nodes whose flags are not set yet, where the flags are set one after the other
abbrev pub fresh : List Bool → List ℕ → List ℕ
fresh flags [] = []
fresh flags (n ∷ ns) = newly flags n ++ fresh (set flags n true) ns

-- the flags that are set are those of the nodes that are reached
abbrev pub FlagsReached : (ℕ → ℕ → Bool) → (ℕ → Bool) → List Bool → Type 0
FlagsReached edge start flags = (n : ℕ) → (get_or flags n false ≡ true → Reached edge start n) × (Reached edge start n → get_or flags n false ≡ true)
