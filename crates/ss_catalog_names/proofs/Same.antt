-- Only which names are known matters, and not how they are listed.
use Rattle.std.proofs.Common.{◌≡◌, ℕ, sym, ap, ◌∙◌, refl, List, [], ◌∷◌, ◌++◌, map, Option, None, Some}
use Rattle.std.specs.Borrow.{Bor}
use Rattle.std.specs.List.{flat_map}
use Rattle.std.specs.Option.{option_or, option_copied}
use Rattle.ss_catalog_outline.specs.declared.types.PlacementOutline.{PlacementOutline}
use Rattle.ss_catalog_outline.specs.declared.types.PlacementOutline.TheVariants.{Part, By}
use Rattle.ss_catalog_outline.specs.declared.types.TableOutline.{TableOutline}
use Rattle.ss_catalog_outline.specs.declared.types.TouchOutline.{TouchOutline}
use Rattle.ss_catalog_outline.specs.declared.types.TouchOutline.TheVariants.{Part as TouchPart, Arg as TouchArg, Multi, All}
use Rattle.ss_catalog_outline.specs.declared.types.GivenOutline.{GivenOutline}
use Rattle.ss_catalog_outline.specs.declared.types.GivenOutline.TheVariants.{Value as GivenValue, Arg as GivenArg}
use Rattle.ss_catalog_outline.specs.declared.types.StepOutline.{StepOutline}
use Rattle.ss_catalog_outline.specs.declared.types.StepOutline.TheVariants.{Insert, ReturnAll, Sql, AbortIf, ForEach, Emit, Return}
use Rattle.ss_catalog_outline.specs.declared.types.ProcedureOutline.{ProcedureOutline}
use Rattle.ss_names.specs.Names.{itself, AreSameNames}
use Rattle.ss_catalog_outline.specs.Unknown.{Used, names_in, first_unknown, placement_uses, table_uses, Scope, touch_uses, given_uses, step_uses, procedure_uses}
use Rattle.ss_catalog_outline.proofs.CallerLemmas.{first_unknown_append, used_same, uses_same}

pub map_itself : (names : List (List ℕ)) → map itself names ≡ names
map_itself [] = refl
map_itself (n ∷ names) = ap (λ ns. n ∷ ns) (map_itself names)

-- both parts are alike
pub both : (us us' vs vs' : List Used) → first_unknown us ≡ first_unknown us' → first_unknown vs ≡ first_unknown vs' → first_unknown (us ++ vs) ≡ first_unknown (us' ++ vs')
both us us' vs vs' e f =
    first_unknown_append us vs ∙ ap (λ o. option_or o (first_unknown vs)) e ∙ ap (λ o. option_or (first_unknown us') o) f ∙ sym (first_unknown_append us' vs')

copied_or : (a b : Option (Bor (List ℕ))) → option_copied (option_or a b) ≡ option_or (option_copied a) (option_copied b)
copied_or None b = refl
copied_or (Some x) b = refl

-- the first of what two searches found
pub either : (us vs : List Used) (a b o : Option (Bor (List ℕ))) → o ≡ option_or a b → option_copied a ≡ first_unknown us → option_copied b ≡ first_unknown vs → option_copied o ≡ first_unknown (us ++ vs)
either us vs a b o is e f =
    ap option_copied is ∙ copied_or a b ∙ ap (λ c. option_or c (option_copied b)) e ∙ ap (λ c. option_or (first_unknown us) c) f ∙ sym (first_unknown_append us vs)

module _ (columns columns' key key' : List (List ℕ)) (c : AreSameNames columns columns') (k : AreSameNames key key') where
  placement_same : (p : PlacementOutline) → first_unknown (placement_uses key p) ≡ first_unknown (placement_uses key' p)
  placement_same (Part p) = refl
  placement_same (By name) = used_same itself key key' k (name ∷ [])

  pub table_same : (d : TableOutline) → first_unknown (table_uses columns key d) ≡ first_unknown (table_uses columns' key' d)
  table_same d =
      both (names_in itself columns d.key ++ placement_uses key d.placement) (names_in itself columns' d.key ++ placement_uses key' d.placement) (flat_map (names_in itself columns) d.indexes) (flat_map (names_in itself columns') d.indexes)
      (both (names_in itself columns d.key) (names_in itself columns' d.key) (placement_uses key d.placement) (placement_uses key' d.placement) (used_same itself columns columns' c d.key) (placement_same d.placement))
      (uses_same (names_in itself columns) (names_in itself columns') (used_same itself columns columns' c) d.indexes)

module _ (s t : Scope) (tables : AreSameNames s.tables t.tables) (streams : AreSameNames s.streams t.streams) (args : AreSameNames s.args t.args) (inputs : AreSameNames s.inputs t.inputs) where
  touch_same : (touch : TouchOutline) → first_unknown (touch_uses s touch) ≡ first_unknown (touch_uses t touch)
  touch_same (TouchArg name) = used_same itself s.args t.args args (name ∷ [])
  touch_same (TouchPart p) = refl
  touch_same (Multi parts) = refl
  touch_same All = refl

  given_same : (given : GivenOutline) → first_unknown (given_uses s given) ≡ first_unknown (given_uses t given)
  given_same (GivenValue v) = refl
  given_same (GivenArg name) = used_same itself s.args t.args args (name ∷ [])

  step_same : (step : StepOutline) → first_unknown (step_uses s step) ≡ first_unknown (step_uses t step)
  step_same (Insert table values) =
      both (names_in itself s.tables (table ∷ [])) (names_in itself t.tables (table ∷ [])) (flat_map (given_uses s) values) (flat_map (given_uses t) values) (used_same itself s.tables t.tables tables (table ∷ [])) (uses_same (given_uses s) (given_uses t) given_same values)
  step_same (ReturnAll table) = used_same itself s.tables t.tables tables (table ∷ [])
  step_same (ForEach stream body) = used_same itself s.inputs t.inputs inputs (stream ∷ [])
  step_same (Emit stream query) = used_same itself s.streams t.streams streams (stream ∷ [])
  step_same (Sql text) = refl
  step_same (AbortIf test code) = refl
  step_same (Return query) = refl

  pub procedure_same : (p : ProcedureOutline) → first_unknown (procedure_uses s p) ≡ first_unknown (procedure_uses t p)
  procedure_same p =
      both (names_in itself s.streams p.inputs ++ touch_uses s p.touch) (names_in itself t.streams p.inputs ++ touch_uses t p.touch) (flat_map (step_uses s) p.body) (flat_map (step_uses t) p.body)
      (both (names_in itself s.streams p.inputs) (names_in itself t.streams p.inputs) (touch_uses s p.touch) (touch_uses t p.touch) (used_same itself s.streams t.streams streams p.inputs) (touch_same p.touch))
      (uses_same (step_uses s) (step_uses t) step_same p.body)
