use Rattle.std.proofs.Common.{◌≡◌, ◌∙◌, ℕ, slice_get, true, Some, sym, ap, subst}
use Rattle.ss_model.specs.declared.catalog.TableDef.{TableDef}
use Rattle.ss_standing.specs.ImageForm.{may_have, number_where}
use Rattle.ss_cmdlog.proofs.CallerLemmas.{read_so}
use Rattle.ss_snapshot.proofs.Readings.{behind_count, reads_so}
use Rattle.ss_snapshot.proofs.Chunks.{same_def}
use Rattle.ss_snapshot.proofs.reading.tables.table_into.Goals as goal

pub rows_into-requires-clause-may : goal.rows_into-requires-clause-may
rows_into-requires-clause-may c =
    let here : slice_get c.args.catalog.now.tables c.args.number ≡ Some c.at-table.result.now = ap (λ (n : ℕ). slice_get c.args.catalog.now.tables n) (sym c.from.ensures) ∙ c.at-table.ensures in
    λ other is.
    subst (λ (x : TableDef). may_have x.placement c.in_ok-count.count ≡ true) (same_def (slice_get c.args.catalog.now.tables c.args.number) c.at-table.result.now other here is) c.in_ok-count.ensures.may

pub returns-clause-read : goal.returns-clause-read
returns-clause-read c =
    let here : slice_get c.args.catalog.now.tables c.args.number ≡ Some c.at-table.result.now = ap (λ (n : ℕ). slice_get c.args.catalog.now.tables n) (sym c.from.ensures) ∙ c.at-table.ensures in
    λ other is.
    let counted : number_where 8 (may_have other.placement) c.args.bytes.now ≡ read_so c.in_ok-count.count c.in_ok-count.rest.now =
    subst (λ (x : TableDef). number_where 8 (may_have x.placement) c.args.bytes.now ≡ read_so c.in_ok-count.count c.in_ok-count.rest.now)
    (same_def (slice_get c.args.catalog.now.tables c.args.number) c.at-table.result.now other here is) c.in_ok-count.ensures.read in
    reads_so _ c.rows_into.result _ _ (behind_count other c.args.bytes.now c.in_ok-count.count c.in_ok-count.rest.now counted) (c.rows_into.ensures.read other is)
