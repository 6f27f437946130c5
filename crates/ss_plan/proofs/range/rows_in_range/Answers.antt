use Rattle.std.proofs.Common.{◌≡◌, ℕ, List, Bor, Option, Some, sym, ap, subst, ◌∙◌, slice_get}
use Rattle.ss_value.specs.Rows.{Row}
use Rattle.ss_model.specs.declared.catalog.TableDef.{TableDef}
use Rattle.ss_table.specs.TableValue.{TableValue}
use Rattle.ss_index.specs.Pairs.{slots_in}
use Rattle.ss_rows.specs.Sources.{Positioned}
use Rattle.ss_shard.proofs.CallerLemmas.{table_of}
use Rattle.ss_plan.specs.Seen.{row_is_seen, value_behind, seen_of, live_positions, live_of}
use Rattle.ss_plan.specs.Keys.{Finds}
use Rattle.ss_plan.specs.Found.{lent_rows, rows_seen_in, IsInKeyOrder}
use Rattle.ss_plan.specs.Ranges.{range_end}
use Rattle.ss_plan.specs.declared.bounds.RangeEnd.TheVariants.{Low, High}
use Rattle.ss_plan.proofs.Gathering.{found_by_range}
use Rattle.ss_plan.proofs.range.rows_in_range.Goals as goal

pub returns : goal.returns
returns c =
    let catalog = c.args.from.catalog.now in
    let split = value_behind c.args.from.split in
    let seen = row_is_seen catalog split c.args.table in
    let h = c.args.rows.now in
    let index = c.args.index.now in
    let def = c.at-def.result.now in
    let params = c.args.params.now in
    let test = c.args.test.now in
    let d = table_of catalog c.args.from.shard.now.tables c.requires.tables c.args.table h c.requires.there in
    let listed : Some def ≡ Some d.0 = sym (ap (slice_get catalog.tables) (sym c.from.ensures) ∙ c.at-def.ensures) ∙ d.1 in
    let same : def ≡ d.0 = cc in
    let key : c.as_slice-2.result.now ≡ h.key = c.as_slice-2.ensures ∙ ap (λ (d : TableDef). d.key) same ∙ sym (d.2).key in
    let low : c.in_ok-low.low ≡ range_end Low def.schema params test index.columns = c.in_ok-low.ensures ∙ ap (range_end Low def.schema params test) c.columns-columns.ensures in
    let high : c.in_ok-high.high ≡ range_end High def.schema params test index.columns = c.in_ok-high.ensures ∙ ap (range_end High def.schema params test) c.columns-columns.ensures in
    let slots : c.as_slice.result.now ≡ slots_in index.pairs (range_end Low def.schema params test index.columns) (range_end High def.schema params test index.columns) =
    c.as_slice.ensures ∙ c.in_ok-slots.ensures ∙ ap (λ low. slots_in index.pairs low c.in_ok-high.high) low ∙ ap (slots_in index.pairs (range_end Low def.schema params test index.columns)) high in
    let rows = c.in_ok-ordered.ordered.items in
    let gathered = c.in_ok-found.ensures ∙ ap (rows_seen_in seen h.live) slots in
    let by_key = subst (λ (key : List ℕ). IsInKeyOrder key (lent_rows c.in_ok-found.found.items) (lent_rows rows)) key c.in_ok-ordered.ensures in
    let of_range = subst (λ (found : Positioned). IsInKeyOrder h.key found (lent_rows rows)) gathered by_key in
    let enough = found_by_range seen h.live h.key c.rows_are_keyed.ensures.keyed c.rows_are_keyed.ensures.apart index c.requires.pairs def.schema params test (lent_rows rows) of_range in
    subst (λ (o : Option TableValue). Finds params test (seen_of catalog split c.args.table (live_positions (live_of o))) (lent_rows c.from_vec.result)) (sym c.requires.there)
    (subst (λ (rows : List (ℕ × Bor Row)). Finds params test (seen_of catalog split c.args.table (live_positions h.live)) (lent_rows rows)) (sym c.from_vec.ensures) enough)
