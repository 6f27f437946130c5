use Rattle.std.proofs.Common.{◌≡◌, ◌∙◌, ap, refl, ℕ, List, map, Option}
use Rattle.std.specs.List.{flat_map}
use Rattle.ss_lemmas.proofs.Results.{if_ok}
use Rattle.ss_catalog_outline.specs.declared.types.TableOutline.{TableOutline}
use Rattle.ss_catalog_outline.specs.declared.types.StreamOutline.{StreamOutline}
use Rattle.ss_catalog_outline.specs.declared.types.ProcedureOutline.{ProcedureOutline}
use Rattle.ss_names.specs.Names.{is_among}
use Rattle.ss_catalog_outline.specs.Names.{table_name, stream_name}
use Rattle.ss_catalog_outline.specs.Unknown.{own_scope, own_procedure_uses, procedures_uses, first_unknown}
use Rattle.ss_catalog_outline.proofs.CallerLemmas.{uses_same}
use Rattle.ss_catalog_names.proofs.Same.{procedure_same}
use Rattle.ss_catalog_names.proofs.unknown.unknown_in_procedures.Goals as goal

pub returns : goal.returns
returns c =
    let o = c.args.outline.now in
    let ts = c.in_ok-tables.tables in
    let ss = c.in_ok-streams.streams in
    if_ok (λ (r : Option (List ℕ)). r ≡ first_unknown (flat_map (own_procedure_uses ts ss) c.as_slice-3.result.now)) (λ (r : Option (List ℕ)). r ≡ first_unknown (procedures_uses o))
    (λ r e. e ∙ ap (λ (l : List ProcedureOutline). first_unknown (flat_map (own_procedure_uses ts ss) l)) c.as_slice-3.ensures
    ∙ uses_same (own_procedure_uses ts ss) (own_procedure_uses (map table_name o.tables) (map stream_name o.streams))
    (λ p. procedure_same (own_scope ts ss p) (own_scope (map table_name o.tables) (map stream_name o.streams) p)
    (λ name. c.in_ok-tables.ensures name ∙ ap (λ (l : List TableOutline). is_among (map table_name l) name) c.as_slice.ensures)
    (λ name. c.in_ok-streams.ensures name ∙ ap (λ (l : List StreamOutline). is_among (map stream_name l) name) c.as_slice-2.ensures)
    (λ name. refl) (λ name. refl) p) o.procedures)
    c.unknown_in_each.result c.unknown_in_each.ensures
