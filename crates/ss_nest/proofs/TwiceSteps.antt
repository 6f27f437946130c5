-- What is there twice, one nest more.
use Rattle.std.proofs.Common.{◌≡◌, ◌∙◌, ◌<◌, ◌+◌, ◌∷◌, ◌++◌, [], ℕ, List, Bool, false, true, cond, length, get_or, take, drop, Option, Some, None, sym, ap}
use Rattle.std.specs.Option.{option_map}
use Rattle.std.proofs.lemmas.List.{take_more}
use Rattle.ss_lemmas.proofs.LoopItem.{next}
use Rattle.ss_model.specs.declared.catalog.Catalog.{Catalog}
use Rattle.ss_model.specs.declared.catalog.Nest.{Nest}
use Rattle.ss_catalog.specs.Checks.{procedure_name}
use Rattle.ss_nest.specs.Members.{again, or_next, all_members, is_taken, member_again, twice_behind}
use Rattle.ss_nest.proofs.Distinct.{all_with_one}

module _ (c : Catalog) (nests : List Nest) (i : ℕ) (nest : Nest) (h : i < length nests) (e : nest ≡ get_or nests i nest) where
  abbrev before : List Nest
  before = take i nests

  abbrev rest : List Nest
  rest = drop (i + 1) nests

  pub one_more : take (i + 1) nests ≡ before ++ nest ∷ []
  one_more = take_more nests i nest h ∙ ap (λ (n : Nest). before ++ n ∷ []) (sym e)

  pub members_more : all_members (take (i + 1) nests) ≡ all_members before ++ nest.members
  members_more = ap all_members one_more ∙ all_with_one before nest

  here : twice_behind c before (drop i nests) ≡ cond (is_taken c before nest.name) (Some nest.name) (or_next (member_again c before nest) (twice_behind c (before ++ nest ∷ []) rest))
  here = ap (twice_behind c before) (next nests i nest h e)

  -- a name that is taken is the first
  pub taken_first : is_taken c before nest.name ≡ true → twice_behind c before (drop i nests) ≡ Some nest.name
  taken_first taken = here ∙ ap (λ (b : Bool). cond b (Some nest.name) (or_next (member_again c before nest) (twice_behind c (before ++ nest ∷ []) rest))) taken

  by_members : is_taken c before nest.name ≡ false → twice_behind c before (drop i nests) ≡ or_next (member_again c before nest) (twice_behind c (before ++ nest ∷ []) rest)
  by_members free = here ∙ ap (λ (b : Bool). cond b (Some nest.name) (or_next (member_again c before nest) (twice_behind c (before ++ nest ∷ []) rest))) free

  -- and else a member that is there again
  pub member_first : is_taken c before nest.name ≡ false → (name : List ℕ) → option_map (procedure_name c) (again (all_members before) nest.members) ≡ Some name
      → twice_behind c before (drop i nests) ≡ Some name
  member_first free name found = by_members free ∙ ap (λ (o : Option (List ℕ)). or_next o (twice_behind c (before ++ nest ∷ []) rest)) found

  -- and else what is behind
  pub goes_on : is_taken c before nest.name ≡ false → option_map (procedure_name c) (again (all_members before) nest.members) ≡ None
      → twice_behind c before (drop i nests) ≡ twice_behind c (take (i + 1) nests) rest
  goes_on free none =
      by_members free ∙ ap (λ (o : Option (List ℕ)). or_next o (twice_behind c (before ++ nest ∷ []) rest)) none ∙ ap (λ (ns : List Nest). twice_behind c ns rest) (sym one_more)
