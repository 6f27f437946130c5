-- A text is no body of a procedure that a catalogue hasn't.
use Rattle.std.proofs.Common.{◌≡◌, ◌∙◌, ◌≤◌, ℕ, List, [], length, slice_get, Option, sym, ap}
use Rattle.std.specs.Prelude.{option_map, unwrap_or}
use Rattle.std.proofs.lemmas.Option.{slice_get_past}
use Rattle.ss_model.specs.declared.catalog.Body.{Body}
use Rattle.ss_model.specs.declared.catalog.Catalog.{Catalog}
use Rattle.ss_model.specs.declared.catalog.Procedure.{Procedure}
use Rattle.ss_catalog.specs.Checks.{procedure_name}
use Rattle.ss_nest.specs.Bodies.{IsNestedBodyOf}
use Rattle.ss_nest.specs.Outlines.{plain_value}
use Rattle.ss_nest.proofs.CallerLemmas.{found_name, named_there, plain_reads}
use Rattle.ss_recover.proofs.Written.{has_name}

-- the name of a procedure, by what is there
abbrev name_of : Option Procedure → List ℕ
name_of o = unwrap_or (option_map (λ (p : Procedure). p.name) o) []

-- the procedure that was found for it in the plain catalogue has no name
pub no_body_beyond : (c : Catalog) (q : ℕ) (text : List ℕ) → length c.procedures ≤ q → (b : Body) → IsNestedBodyOf c q text b → ⊥
no_body_beyond c q text beyond b is =
    let h = is.0.1 in
    let plain = h.is_from.plain in
    let there = named_there plain (procedure_name c q) h.number h.is_plain_one in
    let none : procedure_name c q ≡ [] = ap name_of (slice_get_past c.procedures q beyond) in
    has_name (plain_value h.whole) plain (plain_reads c h.whole h.is_from) h.number there.0 there.1
    (sym (ap name_of there.1) ∙ found_name plain (procedure_name c q) h.number h.is_plain_one ∙ none)
