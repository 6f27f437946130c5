use Rattle.std.proofs.Common.{List, Bor, length, refl, sym, ap, ◌∙◌, subst, arith}
use Rattle.std.proofs.lemmas.List.{length_push}
use Rattle.std.specs.Option.{IsSome}
use Rattle.std.specs.FinMap as finmap
use Rattle.ss_value.specs.Rows.{Row}
use Rattle.ss_table.specs.Near.{without_hint}
use Rattle.ss_shard.proofs.Walking.{Walked, walk_begun, walk_ended, walk_at, walk_on, walk_within, stands_row, rows_of_entries}
use Rattle.ss_shard.proofs.rows.rows_in_order.Goals as goal

pub loop-at-init : goal.loop-at-init
loop-at-init c = walk_begun (finmap.entries c.args.table.now.live) (without_hint c.first_near-at.result) c.new-rows.result.items c.first_near-at.ensures c.new-rows.ensures.items

pub live_row-requires : goal.live_row-requires
live_row-requires c =
    let es = finmap.entries c.args.table.now.live in
    let s = walk_at es (without_hint c.loop-at.at) c.loop-at.rows.items c.loop-at.invariant c.in-Some.slot (ap without_hint c.in-Some.is) in
    subst (λ o. IsSome o) (sym (stands_row es c.rows_are_keyed.ensures.apart c.in-Some.slot c.loop-at.rows.items s)) refl

pub loop-at-preserved : goal.loop-at-preserved
loop-at-preserved c =
    let es = finmap.entries c.args.table.now.live in
    let s = walk_at es (without_hint c.loop-at.at) c.loop-at.rows.items c.loop-at.invariant c.in-Some.slot (ap without_hint c.in-Some.is) in
    let on = walk_on es c.rows_are_keyed.ensures.apart c.in-Some.slot c.loop-at.rows.items s c.live_row.result (without_hint c.after_near-at.result) c.live_row.ensures c.after_near-at.ensures in
    subst (Walked es (without_hint c.after_near-at.result)) (sym {A = List (Bor Row)} c.in_ok-push.ensures.items) on

pub loop-at-smaller : goal.loop-at-smaller
loop-at-smaller c =
    let es = finmap.entries c.args.table.now.live in
    let s = walk_at es (without_hint c.loop-at.at) c.loop-at.rows.items c.loop-at.invariant c.in-Some.slot (ap without_hint c.in-Some.is) in
    let within = walk_within es c.rows_are_keyed.ensures.apart c.in-Some.slot c.loop-at.rows.items s in
    let more = ap length c.in_ok-push.ensures.items ∙ length_push c.loop-at.rows.items c.live_row.result in
    omega (arith, within, more)

pub returns : goal.returns
returns c =
    walk_ended (finmap.entries c.args.table.now.live) (without_hint c.loop-at.at) c.loop-at.rows.items c.loop-at.invariant (ap without_hint c.in_default.is)
    ∙ sym (rows_of_entries c.args.table.now.live)
