-- The indexes of one table.
use Rattle.std.specs.Prelude.{◌≡◌, ℕ, Bool, List, [], ◌∷◌, map, IsSome}
use Rattle.std.specs.List.{AllByRecursion, list_all}
use Rattle.std.specs.FinMap as finite
use Rattle.ss_value.specs.Rows.{Row}
use Rattle.ss_index.specs.Pairs.{IndexValue, pair_of, agree_on, add_pair, drop_pair, with_pairs}
use Rattle.ss_index.specs.Parts.{MayJoin, joined, shell, IsLastShell, WasParted}

-- an index with the pair of a row in a slot once more
abbrev pub with_row : Row → ℕ → IndexValue → IndexValue
with_row row slot h = with_pairs h (add_pair h.pairs (pair_of h.columns row slot))

-- an index with the pair of a row in a slot once less
abbrev pub without_row : Row → ℕ → IndexValue → IndexValue
without_row row slot h = with_pairs h (drop_pair h.pairs (pair_of h.columns row slot))

-- each index with the pair of a row in a slot once more
abbrev pub with_rows : Row → ℕ → List IndexValue → List IndexValue
with_rows row slot hs = map (with_row row slot) hs

-- each index with the pair of a row in a slot once less
abbrev pub without_rows : Row → ℕ → List IndexValue → List IndexValue
without_rows row slot hs = map (without_row row slot) hs

-- whether two rows have the same pair in each index
abbrev pub agree_in : Row → Row → List IndexValue → Bool
agree_in a b hs = list_all (λ (h : IndexValue). agree_on h.columns a b) hs

-- an index has the pair of a row in a slot
abbrev pub HasPair : Row → ℕ → IndexValue → Type 0
HasPair row slot h = IsSome (finite.get h.pairs (pair_of h.columns row slot))

-- each index has the pair of a row in a slot
abbrev pub HavePair : Row → ℕ → List IndexValue → Type 0
HavePair row slot hs = AllByRecursion (HasPair row slot) hs

-- each index may take in its fellow, and there are as many
abbrev pub MayJoinAll : List IndexValue → List IndexValue → Type 0
MayJoinAll [] ks = ks ≡ []
MayJoinAll (i ∷ is) [] = ⊥
MayJoinAll (i ∷ is) (k ∷ ks) = MayJoin i k × MayJoinAll is ks

-- each index with the pairs and the parts of its fellow
abbrev pub joined_all : List IndexValue → List IndexValue → List IndexValue
joined_all [] ks = []
joined_all (i ∷ is) [] = i ∷ is
joined_all (i ∷ is) (k ∷ ks) = joined i k ∷ joined_all is ks

-- the shell of each
abbrev pub shells : List IndexValue → List IndexValue
shells ks = map shell ks

-- each is the shell of its fellow's last part, and there are as many
abbrev pub AreLastShells : List IndexValue → List IndexValue → Type 0
AreLastShells [] ks = ks ≡ []
AreLastShells (i ∷ is) [] = ⊥
AreLastShells (i ∷ is) (k ∷ ks) = IsLastShell i k × AreLastShells is ks

-- each has come apart
abbrev pub WereParted : List IndexValue → List IndexValue → List IndexValue → Type 0
WereParted [] news backs = (news ≡ []) × (backs ≡ [])
WereParted (old ∷ olds) [] backs = ⊥
WereParted (old ∷ olds) (new ∷ news) [] = ⊥
WereParted (old ∷ olds) (new ∷ news) (back ∷ backs) = WasParted old new back × WereParted olds news backs
