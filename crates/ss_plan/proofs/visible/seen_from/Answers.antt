use Rattle.std.proofs.Common.{◌≡◌, ℕ, [], ◌∷◌, ◌++◌, Option, Some, None, refl, sym, ap, ◌∙◌}
use Rattle.std.specs.Prelude.{is_some, not, false}
use Rattle.std.specs.Borrow.{Bor}
use Rattle.ss_value.specs.declared.value.Value.{Value}
use Rattle.ss_value.specs.Rows.{Row}
use Rattle.ss_model.specs.declared.catalog.Catalog.{Catalog}
use Rattle.ss_rows.specs.Sources.{Positioned, first_position}
use Rattle.ss_rows.proofs.CallerLemmas.{walked_row, walked_on, walked_falls}
use Rattle.ss_plan.specs.Seen.{row_is_seen, live_positions, seen_of, value_behind}
use Rattle.ss_plan.proofs.Filtered.{passes_first, passed_over}
use Rattle.ss_plan.proofs.visible.seen_from.Goals as goal

-- who is limited to no value sees all rows
all_seen : (catalog : Catalog) (table : ℕ) (ps : Positioned) → seen_of catalog None table ps ≡ ps
all_seen catalog table [] = refl
all_seen catalog table (p ∷ ps) = ap (λ (qs : Positioned). p ∷ qs) (all_seen catalog table ps)

all_seen_by : (catalog : Catalog) (split : Option (Bor Value)) (table : ℕ) (ps : Positioned) → is_some split ≡ false → seen_of catalog (value_behind split) table ps ≡ ps
all_seen_by catalog None table ps none = all_seen catalog table ps
all_seen_by catalog (Some value) table ps none = cc

pub returns-then-is_none : goal.returns-then-is_none
returns-then-is_none c = λ front back is from.
    let none : is_some c.args.split ≡ false = c.is_none.ensures ∙ ap not c.if-is_none.true in
    from ∙ ap first_position (sym (all_seen_by c.args.catalog.now c.args.split c.args.table back none))

pub returns-then-is_seen : goal.returns-then-is_seen
returns-then-is_seen c = λ front back is from.
    let live = live_positions c.args.rows.now.live in
    let q = λ (p : ℕ × Row). row_is_seen c.args.catalog.now (value_behind c.args.split) c.args.table p.1 in
    let i = c.loop-at.invariant front back is from in
    let r = walked_row live c.loop-at.at i.0 c.in-Some.slot i.1 i.2 c.in-Some.is in
    let on = ap (λ (row : Row). row_is_seen c.args.catalog.now (value_behind c.args.split) c.args.table row) (sym (c.row_in.ensures r.0 r.1 r.3)) ∙ sym c.is_seen.ensures ∙ c.if-is_seen.true in
    sym (passes_first q i.1 (c.in-Some.slot, r.0) r.1 r.2 on) ∙ ap first_position i.3

pub loop-at-smaller : goal.loop-at-smaller
loop-at-smaller c =
    let live = live_positions c.args.rows.now.live in
    let start = c.requires in
    let i = c.loop-at.invariant start.0 start.1 start.2 start.3 in
    walked_falls live c.loop-at.at i.0 c.in-Some.slot c.next_slot-next.result.0 i.1 i.2 c.in-Some.is c.next_slot-next.ensures

pub loop-at-preserved : goal.loop-at-preserved
loop-at-preserved c = λ front back is from.
    let live = live_positions c.args.rows.now.live in
    let q = λ (p : ℕ × Row). row_is_seen c.args.catalog.now (value_behind c.args.split) c.args.table p.1 in
    let i = c.loop-at.invariant front back is from in
    let s = walked_on live c.loop-at.at i.0 c.in-Some.slot c.next_slot-next.result.0 i.1 i.2 c.in-Some.is c.next_slot-next.ensures in
    let off = ap (λ (row : Row). row_is_seen c.args.catalog.now (value_behind c.args.split) c.args.table row) (sym (c.row_in.ensures s.0 s.1 s.3)) ∙ sym c.is_seen.ensures ∙ c.if-is_seen.false in
    (i.0 ++ (c.in-Some.slot, s.0) ∷ [], s.1, s.4, sym (passed_over q i.1 (c.in-Some.slot, s.0) s.1 s.2 off) ∙ i.3)
