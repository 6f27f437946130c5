-- What marks and a note know that met.
use Rattle.std.proofs.Common.{◌≡◌, List, [], ◌∷◌}
use Rattle.std.specs.List.{AllByRecursion}
use Rattle.ss_commitlog.specs.declared.rule.Item.{Item}
use Rattle.ss_commitlog.specs.Tokens.{Known, AllKnow}

-- each mark knows the note's list
pub know_one : (list : List Item) (ks ls : List Known) → AllKnow list ks ls → AllByRecursion (λ (k : Known). k.list ≡ list) ls
know_one list [] [] know = tt
know_one list [] (l ∷ ls) know = absurd know
know_one list (k ∷ ks) [] know = absurd know
know_one list (k ∷ ks) (l ∷ ls) know = ((know.0).list_is, know_one list ks ls know.1)
