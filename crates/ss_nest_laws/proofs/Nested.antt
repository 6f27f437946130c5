-- The nests of an accepted catalogue run as their members do.
use Rattle.std.proofs.Common.{◌≡◌, ℕ, List, [], get_or, map, refl, sym, ap, ◌∙◌, subst, Some}
use Rattle.std.proofs.lemmas.List.{length-map}
use Rattle.ss_value.specs.Rows.{Rows}
use Rattle.ss_model.specs.declared.catalog.Catalog.{Catalog}
use Rattle.ss_model.specs.declared.catalog.Nest.{Nest}
use Rattle.ss_model.specs.declared.catalog.Procedure.{Procedure}
use Rattle.ss_model.specs.Results.{and_behind}
use Rattle.ss_model.specs.Contents.{default_window}
use Rattle.ss_model.specs.Database.{BodyResult, apply, apply_step, only_when, is_ready, input_batches, stepped, stream_batches, run_procedure, split_value_for}
use Rattle.ss_model.specs.Nests.{NestsRunAsMembers, nest_procedure, inner_streams, nested_number, nested_window, nested_procedures, nested_texts, nested_spares, nested_catalog, joined_body, run_nest}
use Rattle.ss_nest_laws.specs.Steps.{NestsKeepTheirBodies, NestStepsRunMembers}
use Rattle.ss_lemmas.proofs.Bools.{second_of_two}
use Rattle.ss_nest_laws.proofs.Lists.{head_among}
use Rattle.ss_nest_laws.proofs.NestStatements.{Beside}
use Rattle.ss_nest_laws.proofs.NestRuns.{nest_runs}
use Rattle.ss_nest_laws.proofs.NestMembers.{member_of, all_later, in_order, inputs_apart}
use Rattle.ss_nest_laws.proofs.NestNumbers.{windows_at, nest_by_rows}
use Rattle.ss_nest_laws.proofs.Standing.{nest_stands, own_body}

-- what the catalogue with nests has in place of the catalogue's
abbrev beside_nests : (catalog : Catalog) (nests : List Nest) (text : List ℕ) → Beside catalog
beside_nests catalog nests text = record {
  windows = map (nested_window nests) catalog.windows;
  procedures = nested_procedures catalog nests 0 catalog.procedures;
  own_texts = nested_texts nests 0 catalog.own_texts;
  spares = nested_spares nests 0 catalog.spares;
  text = text;
  owner = λ n. (get_or (map (nested_window nests) catalog.windows) n default_window).owner;
  count = length-map catalog.windows (nested_window nests);
  windows_are = windows_at nests catalog.windows;
}

pub runs_as_members : NestsRunAsMembers
runs_as_members catalog accepted nests text are i nest is head first at_head first_is batches s fits =
    let may = are.each i nest is in
    let among_head = head_among nest.members head at_head in
    let (qs, order) = in_order catalog accepted nest.members may are.plain head first at_head first_is in
    subst (λ ms. run_procedure (nested_catalog catalog nests text) (nested_number nests head) (nest_procedure catalog nest first) [] batches s ≡ run_nest catalog ms batches s) (sym order)
    (nest_runs catalog (beside_nests catalog nests text) (second_of_two _ _ accepted.in_scope)
    (nested_number nests head) batches first.inputs (inner_streams catalog nest.members) (split_value_for first.touch []) fits
    (nest_procedure catalog nest first) head first qs refl
    (ap (joined_body catalog (and_behind first.inputs (inner_streams catalog nest.members)) (inner_streams catalog nest.members)) order) refl
    (nest_by_rows catalog nests text are.once i nest is head at_head may.by_rows)
    (member_of catalog accepted nest.members may are.plain head first at_head first_is head first first_is among_head) refl
    (inputs_apart catalog accepted head first first_is are.plain)
    (all_later catalog accepted nest.members may are.plain head first at_head first_is qs order)
    s)

pub keep_bodies : NestsKeepTheirBodies
keep_bodies catalog nests text are i nest is head first at_head first_is db =
    own_body catalog nests text are (record { place = i; nest = nest; stands = is; head = head; first = first; at_head = at_head; first_is = first_is }) db

pub steps_run_members : NestStepsRunMembers
unfolding apply
steps_run_members catalog accepted nests text are i nest is head first at_head first_is db r =
    let nested : Catalog = nested_catalog catalog nests text in
    let n : ℕ = nested_number nests head in
    let made : Procedure = nest_procedure catalog nest first in
    let batches : List Rows = input_batches db r first in
    ap (apply_step nested db n r)
    (nest_stands catalog nests text are (record { place = i; nest = nest; stands = is; head = head; first = first; at_head = at_head; first_is = first_is }))
    ∙ ap (λ (x : BodyResult). only_when (is_ready db n r first) (Some (stepped db n r made x)))
    (ap (λ (p : Procedure). run_procedure nested n p [] batches db.contents) (keep_bodies catalog nests text are i nest is head first at_head first_is db)
    ∙ runs_as_members catalog accepted nests text are i nest is head first at_head first_is batches db.contents (length-map first.inputs (λ s. get_or (stream_batches db s) r [])))
