-- The parts that an index holds, and how indexes of several parts come together and apart.
use Rattle.std.specs.Prelude.{◌≡◌, ⊤, refl, ℕ, ◌+◌, ◌%◌, ◌==◌, not, Bool, false, cond, List, [], ◌∷◌, ◌++◌, map, None}
use Rattle.std.specs.List.{AllByRecursion, flat_map, fold, list_any, prefix_len, insert, remove}
use Rattle.std.specs.FinMap as finite
use Rattle.std.specs.Coded.{Coded, code_by, coded×, coded_ℕ, coded_list}
use Rattle.ss_value.specs.RowCodes.{coded_row}
use Rattle.ss_index.specs.Pairs.{Pair, Pairs, IndexValue, times, with_times, with_pairs}
use Rattle.ss_index.specs.declared.index_entry.IndexEntry.{IndexEntry}
use Rattle.ss_index.specs.Entries.{pair_in, pairs_in, Rises, is_before_pair}

-- the part of a slot
abbrev pub part_of : ℕ → ℕ
part_of slot = slot % 8

-- whether a part is one of these
abbrev pub holds : List ℕ → ℕ → Bool
holds parts part = list_any (λ p. p == part) parts

-- ---- one part

-- one part of an index: its number, and its pairs in their order, each as often as it occurs
pub record PartValue : Type 0 where
  pub part : ℕ
  pub listed : List Pair

-- how parts are compared
abbrev pub coded_part : Coded PartValue
coded_part = code_by (ℕ × List Pair) (coded× coded_ℕ (coded_list (coded× coded_row coded_ℕ)))
    (λ x. (x.part, x.listed)) (λ p. record { part = p.0; listed = p.1 }) (λ _. refl)

-- the part that contracts see for this number and these entries
abbrev pub part_value : ℕ → List IndexEntry → PartValue
part_value part entries = record { part = part; listed = map pair_in entries }

-- a part without a pair
abbrev pub empty_part : ℕ → PartValue
empty_part part = record { part = part; listed = [] }

-- a part with a pair once more, in its place
abbrev pub with_pair : Pair → PartValue → PartValue
with_pair p x = record { part = x.part; listed = insert x.listed (prefix_len (is_before_pair p) x.listed) p }

-- a part with a pair once less, if it is there
abbrev pub without_pair : Pair → PartValue → PartValue
without_pair p x = record { part = x.part; listed = remove x.listed (prefix_len (is_before_pair p) x.listed) }

-- ---- the parts of one index

-- the numbers of parts
abbrev pub numbers : List PartValue → List ℕ
numbers xs = map (λ x. x.part) xs

-- the pairs of all parts, part after part
abbrev pub listed_in : List PartValue → List Pair
listed_in xs = flat_map (λ x. x.listed) xs

-- the index that contracts see for these columns and parts, the first with the others
abbrev pub index_of : List ℕ → PartValue → List PartValue → IndexValue
index_of columns x xs = record { columns = columns; pairs = pairs_in (listed_in (x ∷ xs)); parts = numbers (x ∷ xs) }

-- the first of several parts, changed where none of the others has this number
abbrev pub change_first : ℕ → (PartValue → PartValue) → PartValue → List PartValue → PartValue
change_first part f x xs = cond (holds (numbers xs) part) x (f x)

-- parts with the one of this number changed, if one of them has it
abbrev pub change_part : ℕ → (PartValue → PartValue) → List PartValue → List PartValue
change_part part f [] = []
change_part part f (x ∷ xs) = cond (x.part == part) (f x ∷ xs) (x ∷ change_part part f xs)

-- the pairs of a part stand in their order
abbrev pub IsInOrder : PartValue → Type 0
IsInOrder x = Rises x.listed

-- of several parts, the one of this number was changed, or the first where none of the others has it
abbrev pub OneChanged : ℕ → (PartValue → PartValue) → PartValue → List PartValue → PartValue → List PartValue → Type 0
OneChanged part f x xs y ys = (y ≡ change_first part f x xs) × (ys ≡ change_part part f xs)

-- no number stands twice
abbrev pub AreApart : List ℕ → Type 0
AreApart [] = ⊤
AreApart (p ∷ ps) = (holds ps p ≡ false) × AreApart ps

-- each pair of a part has a slot of this part
abbrev pub HasItsOwn : PartValue → Type 0
HasItsOwn x = AllByRecursion (λ p. part_of p.1 ≡ x.part) x.listed

-- no pair of a part has a slot of one of these
abbrev pub HasNoneOf : List ℕ → PartValue → Type 0
HasNoneOf parts x = AllByRecursion (λ p. holds parts (part_of p.1) ≡ false) x.listed

-- the pairs of these parts stand in order and are dealt by their slots: those of a slot of another part stand there, and all that are left
-- stand in the first
pub record AreDealt (x : PartValue) (xs : List PartValue) : Type 0 where
  pub in_order : AllByRecursion IsInOrder (x ∷ xs)
  pub apart : AreApart (numbers (x ∷ xs))
  pub others : AllByRecursion HasItsOwn xs
  pub first : HasNoneOf (numbers xs) x

-- ---- several indexes

-- the pairs of two indexes, each as often as in both together
abbrev pub both_pairs : Pairs → Pairs → Pairs
both_pairs m n = fold (λ both p. with_times both p (times m p + times n p)) m (finite.keys n)

-- the pairs of the slots of one part
abbrev pub pairs_of : ℕ → Pairs → Pairs
pairs_of part pairs = finite.retain_keys pairs (λ p. part_of p.1 == part)

-- the pairs of the slots of all others
abbrev pub pairs_beside : ℕ → Pairs → Pairs
pairs_beside part pairs = finite.retain_keys pairs (λ p. not (part_of p.1 == part))

-- each pair has a slot of a part that the index holds
abbrev pub StandAtHome : IndexValue → Type 0
StandAtHome i = (p : Pair) → holds i.parts (part_of p.1) ≡ false → finite.get i.pairs p ≡ None

-- an index may take in another: one on the same columns and of one part alone, which it doesn't hold, all pairs of both
-- being at home
pub record MayJoin (i k : IndexValue) : Type 0 where
  pub columns : k.columns ≡ i.columns
  pub part : ℕ
  pub alone : k.parts ≡ part ∷ []
  pub fresh : holds i.parts part ≡ false
  pub home : StandAtHome i
  pub other_home : StandAtHome k

-- an index with the pairs and the parts of another
abbrev pub joined : IndexValue → IndexValue → IndexValue
joined i k = record { columns = i.columns; pairs = both_pairs i.pairs k.pairs; parts = i.parts ++ k.parts }

-- what is left of an index whose pairs are elsewhere: its columns and parts
abbrev pub shell : IndexValue → IndexValue
shell k = with_pairs k finite.empty

-- an index of two parts at least, and the shell of its last one
pub record IsLastShell (i back : IndexValue) : Type 0 where
  pub first : ℕ
  pub middle : List ℕ
  pub last : ℕ
  pub parts : i.parts ≡ first ∷ (middle ++ last ∷ [])
  pub emptied : back ≡ record { columns = i.columns; pairs = finite.empty; parts = last ∷ [] }

-- an index has come apart: the pairs of the slots of its last part are in one of that part alone
pub record WasParted (old new back : IndexValue) : Type 0 where
  pub last : ℕ
  pub parts : old.parts ≡ new.parts ++ last ∷ []
  pub rest : new ≡ record { columns = old.columns; pairs = pairs_beside last old.pairs; parts = new.parts }
  pub given : back ≡ record { columns = old.columns; pairs = pairs_of last old.pairs; parts = last ∷ [] }
