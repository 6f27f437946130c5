-- Tables with their indexes, one by one.
use Rattle.std.proofs.Common.{◌≡◌, zero, suc, List, [], ◌∷◌, refl, subst}
use Rattle.ss_table.specs.TableValue.{TableValue as Table}
use Rattle.ss_undo.specs.Holding.{HoldAll}
use Rattle.ss_undo.specs.Indexed.{Group, AreIndexed}

-- what the indexes of the first table hold, and those of all others
module _ (ts : List Table) (gs : List Group) (h : Table) (hs : List Table) (i : Group) (is : List Group) (tables : ts ≡ h ∷ hs) (indexes : gs ≡ i ∷ is) (all : AreIndexed ts [] gs) where
  apart : AreIndexed (h ∷ hs) [] (i ∷ is)
  apart = subst (λ (xs : List Table). AreIndexed xs [] (i ∷ is)) tables (subst (λ (xs : List Group). AreIndexed ts [] xs) indexes all)

  pub first_indexed : HoldAll h [] i
  first_indexed = apart 0 h i refl refl

  pub others_indexed : AreIndexed hs [] is
  others_indexed t x g there has = apart (suc t) x g there has

-- both together
pub all_indexed : (h : Table) (hs : List Table) (i : Group) (is : List Group) → HoldAll h [] i → AreIndexed hs [] is → AreIndexed (h ∷ hs) [] (i ∷ is)
all_indexed h hs i is one rest zero x g there has =
    let table : h ≡ x = cc in
    let group : i ≡ g = cc in
    subst (HoldAll x []) group (subst (λ (y : Table). HoldAll y [] i) table one)
all_indexed h hs i is one rest (suc t) x g there has = rest t x g there has
