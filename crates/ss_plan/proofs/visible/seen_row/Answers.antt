use Rattle.std.proofs.Common.{◌≡◌, ℕ, sym, ap, ◌∙◌, true≢false}
use Rattle.ss_value.specs.Rows.{Row}
use Rattle.ss_plan.specs.Seen.{row_is_seen, live_positions, value_behind}
use Rattle.ss_plan.proofs.Filtered.{passing, has_passing}
use Rattle.ss_plan.proofs.Slots.{row_is}
use Rattle.ss_plan.proofs.visible.seen_row.Goals as goal

pub returns-in-None-clause-some : goal.returns-in-None-clause-some
returns-in-None-clause-some c = λ row behind stands.
    let live = c.args.rows.now.live in
    let p = passing (λ p. row_is_seen c.args.catalog.now (value_behind c.args.split) c.args.table p.1) (live_positions live) (c.args.at, row) behind stands.0 stands.1 in
    let there = row_is live c.rows_are_keyed.ensures.apart c.args.at row p.1 (p.0, p.2) in
    let gone = c.in-None.ensures in
    cc

pub returns-then-is_seen-clause-some : goal.returns-then-is_seen-clause-some
returns-then-is_seen-clause-some c = λ row behind stands.
    let live = c.args.rows.now.live in
    let p = passing (λ p. row_is_seen c.args.catalog.now (value_behind c.args.split) c.args.table p.1) (live_positions live) (c.args.at, row) behind stands.0 stands.1 in
    let there = row_is live c.rows_are_keyed.ensures.apart c.args.at row p.1 (p.0, p.2) in
    c.in-Some.ensures ∙ there

pub returns-then-is_seen-clause-none : goal.returns-then-is_seen-clause-none
returns-then-is_seen-clause-none c = λ none.
    let live = c.args.rows.now.live in
    let q = λ (p : ℕ × Row). row_is_seen c.args.catalog.now (value_behind c.args.split) c.args.table p.1 in
    let has = has_passing q live c.args.at c.in-Some.row.now (sym c.in-Some.ensures) (sym c.is_seen.ensures ∙ c.if-is_seen.true) in
    absurd (true≢false (sym has ∙ none))

pub returns-else-is_seen-clause-some : goal.returns-else-is_seen-clause-some
returns-else-is_seen-clause-some c = λ row behind stands.
    let live = c.args.rows.now.live in
    let q = λ (p : ℕ × Row). row_is_seen c.args.catalog.now (value_behind c.args.split) c.args.table p.1 in
    let p = passing q (live_positions live) (c.args.at, row) behind stands.0 stands.1 in
    let there = row_is live c.rows_are_keyed.ensures.apart c.args.at row p.1 (p.0, p.2) in
    let same : c.in-Some.row.now ≡ row = (let e = c.in-Some.ensures ∙ there in cc) in
    absurd (true≢false (sym p.4 ∙ ap (λ (r : Row). row_is_seen c.args.catalog.now (value_behind c.args.split) c.args.table r) (sym same) ∙ sym c.is_seen.ensures ∙ c.if-is_seen.false))
