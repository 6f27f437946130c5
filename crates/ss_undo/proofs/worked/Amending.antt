-- A table with an index on its first column, in which a row is put in place of one that has its pair: the index holds what it held, before
-- and after a rollback, and what the rollback asks of the note holds.
use Rattle.std.proofs.Common.{◌≡◌, ◌∙◌, ℕ, List, [], ◌∷◌, pos, refl, sym, ap, subst, arith, None, Some}
use Rattle.std.specs.Option.{IfSome}
use Rattle.std.specs.List.{AllByRecursion}
use Rattle.std.specs.FinMap as finite
use Rattle.ss_value.specs.Rows.{Row}
use Rattle.ss_value.specs.Order.{row_cmp}
use Rattle.ss_value.specs.ValueOrder.{row_cmp_total}
use Rattle.ss_value.specs.declared.value.Value.TheVariants.{Int}
use Rattle.ss_table.specs.declared.route.Route.TheVariants.{Placed}
use Rattle.ss_table.specs.TableValue.{TableValue as Table, row_among, row_at, replace}
use Rattle.ss_table.specs.Steps.{WasReplaced}
use Rattle.ss_table.specs.Keyed.{AreKeyed, SlotsDiffer, StandsAtKey}
use Rattle.ss_index.specs.Pairs.{IndexValue}
use Rattle.ss_index.specs.Entries.{pairs_in}
use Rattle.ss_undo.specs.declared.change.Change.{Change}
use Rattle.ss_undo.specs.declared.change.Change.TheVariants.{Amended}
use Rattle.ss_undo.specs.ResultsFrom.{ResultsFrom}
use Rattle.ss_undo.specs.Holding.{HoldAll, all_pairs}
use Rattle.ss_undo.specs.Staying.{HaveSamePairs, HaveStayed}
use Rattle.ss_undo.proofs.Holding.{amend_leaves, amend_goes_back}

abbrev before : Row
before = Int (pos 1) ∷ Int (pos 2) ∷ []

abbrev after : Row
after = Int (pos 1) ∷ Int (pos 3) ∷ []

abbrev rows : List (Row × (ℕ × Row))
rows = (Int (pos 1) ∷ [], (5, before)) ∷ []

abbrev old : Table
old = record { key = 0 ∷ []; limit = None; live = finite.from_sorted rows; dead = finite.empty; route = Placed 0; parts = 0 ∷ [] }

abbrev new : Table
new = replace old 5 after

new_rows : finite.entries new.live ≡ (Int (pos 1) ∷ [], (5, after)) ∷ []
new_rows = finite.entries-insert row_cmp_total old.live (Int (pos 1) ∷ []) (5, after) ∙ ap (finite.put row_cmp (Int (pos 1) ∷ []) (5, after)) (finite.entries-from_sorted row_cmp rows tt)

there : row_at new.live 5 ≡ Some after
there = ap (λ es. row_among es 5) new_rows

abbrev was : WasReplaced old new 5 before
was = record { row = after; has_key = (omega arith, tt); same_key = refl; before = finite.get-from_sorted row_cmp rows (Int (pos 1) ∷ []) tt; there = there; is = refl }

abbrev indexes : List IndexValue
indexes = record { columns = 0 ∷ []; pairs = pairs_in (all_pairs (0 ∷ []) old []); parts = 0 ∷ [] } ∷ []

held : HoldAll old [] indexes
held = (record { pairs = refl; parts = refl }, tt)

leaves : HoldAll new [] indexes
leaves = amend_leaves old new 5 before [] indexes was (refl, tt) held

keyed : AreKeyed new
keyed = record {
  keyed = subst (AllByRecursion (StandsAtKey (0 ∷ []))) (sym new_rows) ((refl, (omega arith, tt)), tt);
  apart = subst SlotsDiffer (sym new_rows) (tt, tt);
}

goes_back : HoldAll (replace new 5 before) [] indexes
goes_back = amend_goes_back new 5 after before [] indexes keyed there refl (refl, tt) leaves

came : ResultsFrom (old ∷ []) (Amended 0 5 before ∷ []) (new ∷ [])
came = (new ∷ [], record { old = old; new = new; here = refl; step = was; is = refl }, refl)

stayed : HaveStayed (((0 ∷ []) ∷ []) ∷ []) (new ∷ []) (Amended 0 5 before ∷ [])
stayed = (subst (λ o. IfSome o (λ standing. HaveSamePairs before standing ((0 ∷ []) ∷ []))) (sym there) (refl, tt), tt)
