-- Where no window is refused, owners are streaming procedures.
use Rattle.std.proofs.Common.{◌≡◌, ◌<◌, ℕ, zero, suc, nat_lt, true, false, List, [], ◌∷◌, length, slice_get, Option, Some, None, arith, refl, ap, sym, subst, ◌∙◌}
use Rattle.std.proofs.lemmas.Bool.{and_parts, ltb-true}
use Rattle.std.proofs.lemmas.Option.{slice_get_within}
use Rattle.ss_lemmas.proofs.Bools.{some_same, neither_left, at_index}
use Rattle.ss_model.specs.declared.catalog.Catalog.{Catalog}
use Rattle.ss_model.specs.declared.catalog.ProcedureKind.{ProcedureKind}
use Rattle.ss_model.specs.declared.catalog.ProcedureKind.TheVariants.{Call as CallKind, Border, Interior}
use Rattle.ss_model.specs.declared.catalog.Procedure.{Procedure}
use Rattle.ss_model.specs.declared.catalog.WindowDef.{WindowDef}
use Rattle.ss_model.specs.CatalogForm.{numbers_in_range}
use Rattle.ss_model.specs.Contents.{window_owner, owner_from}
use Rattle.ss_model.specs.Database.{is_call, is_streaming}
use Rattle.ss_model.specs.Orders.{procedure_has}
use Rattle.ss_catalog_checks.specs.Owners.{is_call_procedure, is_named_outside, is_misowned, is_refused_window, refused_window}
use Rattle.ss_catalog_checks.proofs.Searches.{none_passes}

streams : (k : ProcedureKind) → is_call k ≡ false → is_streaming k ≡ true
streams CallKind e = absurd (cc)
streams Border e = refl
streams Interior e = refl

has_streaming : (ps : List Procedure) (q : ℕ) → q < length ps → procedure_has (λ p. is_call p.kind) (slice_get ps q) ≡ false → procedure_has (λ p. is_streaming p.kind) (slice_get ps q) ≡ true
has_streaming [] q l e = absurd (omega arith)
has_streaming (p ∷ ps) zero l e = streams p.kind e
has_streaming (p ∷ ps) (suc q) l e = has_streaming ps q (omega arith) e

module _ (catalog : Catalog) (numbers : numbers_in_range catalog ≡ true) (none : refused_window catalog ≡ None) where
  owned_by : (w q : ℕ) (o : Option WindowDef) → slice_get catalog.windows w ≡ o → owner_from o ≡ Some q → procedure_has (λ p. is_streaming p.kind) (slice_get catalog.procedures q) ≡ true
  owned_by w q None i e = absurd (cc)
  owned_by w q (Some d) i e =
      let within : w < length catalog.windows = slice_get_within catalog.windows w d i in
      let refused : is_refused_window catalog w ≡ false = none_passes (is_refused_window catalog) 0 (length catalog.windows) none w (omega arith) (omega arith) in
      let parts : is_misowned catalog w (Some d) ≡ false = sym (ap (is_misowned catalog w) i) ∙ refused in
      let call : is_call_procedure catalog d.owner ≡ false = neither_left _ (is_named_outside catalog d.owner w) parts in
      let there : d.owner < length catalog.procedures = ltb-true _ _ (at_index (λ d. nat_lt d.owner (length catalog.procedures)) catalog.windows ((and_parts _ _ ((and_parts _ _ ((and_parts _ _ numbers).0)).0)).1) w d i) in
      subst (λ q. procedure_has (λ p. is_streaming p.kind) (slice_get catalog.procedures q) ≡ true) (some_same d.owner q e) (has_streaming catalog.procedures d.owner there call)

  pub windows_owned : (w q : ℕ) → window_owner catalog w ≡ Some q → procedure_has (λ p. is_streaming p.kind) (slice_get catalog.procedures q) ≡ true
  windows_owned w q e = owned_by w q (slice_get catalog.windows w) refl e
