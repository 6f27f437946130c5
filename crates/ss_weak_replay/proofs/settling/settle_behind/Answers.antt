use Rattle.std.proofs.Common.{◌≡◌, ◌+◌, ◌∙◌, List, [], ◌∷◌, length, length-append, arith, ap, sym}
use Rattle.ss_model.specs.declared.entry.Entry.TheVariants.{Step as StepEntry}
use Rattle.ss_model.specs.declared.entry.Listed.{Listed}
use Rattle.ss_model.specs.Replays.{after}
use Rattle.ss_weak_replay.proofs.SettledLists.{all_settled, count_of, next_valued, one_settled, passes, sees_now, sees_on, stands_now, takes_step}
use Rattle.ss_weak_replay.proofs.settling.settle_behind.Goals as goal

pub next_ranked-requires-clause-streams : goal.next_ranked-requires-clause-streams
next_ranked-requires-clause-streams g c =
    let (d, on) = c.requires.on in
    (sees_now c.args.catalog.now c.requires.accepted d c.args.so_far.now.list c.loop-procedure.so_far.list c.args.so_far.now.database c.loop-procedure.so_far.database c.args.first on (c.loop-procedure.invariant.far d on) c.cursors.result.now c.cursors.ensures).streams_many

pub returns-then-first-len-ge-LAST_PLACE-clause-settled : goal.returns-then-first-len-ge-LAST_PLACE-clause-settled
returns-then-first-len-ge-LAST_PLACE-clause-settled g c = λ d on.
    let catalog = c.args.catalog.now in
    let old = c.args.so_far.now in
    let now = c.loop-procedure.so_far in
    let far = c.loop-procedure.invariant.far d on in
    let seen = sees_now catalog c.requires.accepted d old.list now.list old.database now.database c.args.first on far c.cursors.result.now c.cursors.ensures in
    passes catalog c.requires.accepted d old.list now.list old.database now.database c.args.first on far c.loops_pass_last.ensures c.in-Some.procedure (sym (c.next_ranked.ensures.next (after catalog d far.steps) seen.far) ∙ c.in-Some.is)
    (omega (arith, c.if-first-len-ge-LAST_PLACE.true, c.len.ensures))

pub returns-then-first-len-ge-LAST_PLACE-clause-whole : goal.returns-then-first-len-ge-LAST_PLACE-clause-whole
returns-then-first-len-ge-LAST_PLACE-clause-whole g c =
    let catalog = c.args.catalog.now in
    let old = c.args.so_far.now in
    let now = c.loop-procedure.so_far in
    let i = c.loop-procedure.invariant in
    let (d, on) = c.requires.on in
    let far = i.far d on in
    record { committed = i.committed; number = i.number; stands = (after catalog d far.steps, far.replayed.stands, (stands_now catalog c.requires.accepted d old.list now.list old.database now.database c.args.first on far).on.whole) }

pub list_entry-requires-clause-takes : goal.list_entry-requires-clause-takes
list_entry-requires-clause-takes g c =
    let catalog = c.args.catalog.now in
    let old = c.args.so_far.now in
    let now = c.loop-procedure.so_far in
    let (d, on) = c.requires.on in
    let far = c.loop-procedure.invariant.far d on in
    (after catalog d far.steps, takes_step catalog c.requires.accepted d old.list now.list old.database now.database c.args.first on far (omega (arith, c.if-first-len-ge-LAST_PLACE.false, c.len.ensures)))

pub list_entry-requires-clause-value : goal.list_entry-requires-clause-value
list_entry-requires-clause-value g c = λ d takes.
    let catalog = c.args.catalog.now in
    let now = c.loop-procedure.so_far in
    let seen = sees_on catalog now.database d c.cursors.result.now takes.on c.cursors.ensures in
    next_valued catalog d c.in-Some.procedure c.cursor-batch.result (sym (c.next_ranked.ensures.next d seen.far) ∙ c.in-Some.is) (count_of catalog now.database d c.in-Some.procedure c.cursor-batch.result takes.on.stands c.cursor-batch.ensures)

pub loop-procedure-smaller : goal.loop-procedure-smaller
loop-procedure-smaller g c =
    let catalog = c.args.catalog.now in
    let old = c.args.so_far.now in
    let now = c.loop-procedure.so_far in
    let (d, on) = c.requires.on in
    let far = c.loop-procedure.invariant.far d on in
    let takes = takes_step catalog c.requires.accepted d old.list now.list old.database now.database c.args.first on far (omega (arith, c.if-first-len-ge-LAST_PLACE.false, c.len.ensures)) in
    let listed = c.in_ok-list_entry.ensures.listed (after catalog d far.steps) takes in
    let longer : length c.list_entry.new.so_far.list ≡ length now.list + 1 = ap (λ (l : List Listed). length l) listed.is ∙ length-append now.list (record { entry = StepEntry c.in-Some.procedure c.cursor-batch.result; outcome = listed.outcome } ∷ []) in
    omega (arith, longer, c.if-first-len-ge-LAST_PLACE.false, c.len.ensures)

pub loop-procedure-preserved : goal.loop-procedure-preserved
loop-procedure-preserved g c =
    let catalog = c.args.catalog.now in
    let old = c.args.so_far.now in
    let now = c.loop-procedure.so_far in
    let next = c.list_entry.new.so_far in
    let i = c.loop-procedure.invariant in
    record {
      far = λ d on.
          let far = i.far d on in
          let behind = after catalog d far.steps in
          let takes = takes_step catalog c.requires.accepted d old.list now.list old.database now.database c.args.first on far (omega (arith, c.if-first-len-ge-LAST_PLACE.false, c.len.ensures)) in
          let seen = sees_on catalog now.database behind c.cursors.result.now takes.on c.cursors.ensures in
          one_settled catalog c.requires.accepted d old.list now.list old.database now.database c.args.first on far c.in-Some.procedure c.cursor-batch.result next.list next.database (sym (c.next_ranked.ensures.next behind seen.far) ∙ c.in-Some.is)
          (count_of catalog now.database behind c.in-Some.procedure c.cursor-batch.result takes.on.stands c.cursor-batch.ensures) (c.in_ok-list_entry.ensures.listed behind takes);
      placed = (
          let (d, on) = c.requires.on in
          let far = i.far d on in
          let takes = takes_step catalog c.requires.accepted d old.list now.list old.database now.database c.args.first on far (omega (arith, c.if-first-len-ge-LAST_PLACE.false, c.len.ensures)) in
          let listed = c.in_ok-list_entry.ensures.listed (after catalog d far.steps) takes in
          let longer : length next.list ≡ length now.list + 1 = ap (λ (l : List Listed). length l) listed.is ∙ length-append now.list (record { entry = StepEntry c.in-Some.procedure c.cursor-batch.result; outcome = listed.outcome } ∷ []) in
          omega (arith, longer, c.if-first-len-ge-LAST_PLACE.false, c.len.ensures)
          );
      committed = c.in_ok-list_entry.ensures.committed;
      number = c.in_ok-list_entry.ensures.number ∙ i.number;
      dealt = c.in_ok-list_entry.ensures.dealt ∙ i.dealt;
    }

pub returns-clause-settled : goal.returns-clause-settled
returns-clause-settled g c = λ d on.
    let catalog = c.args.catalog.now in
    let old = c.args.so_far.now in
    let now = c.loop-procedure.so_far in
    let far = c.loop-procedure.invariant.far d on in
    let seen = sees_now catalog c.requires.accepted d old.list now.list old.database now.database c.args.first on far c.cursors.result.now c.cursors.ensures in
    all_settled catalog c.requires.accepted d old.list now.list old.database now.database c.args.first on far (sym (c.next_ranked.ensures.next (after catalog d far.steps) seen.far) ∙ c.in_default.is)

pub returns-clause-whole : goal.returns-clause-whole
returns-clause-whole g c =
    let catalog = c.args.catalog.now in
    let old = c.args.so_far.now in
    let now = c.loop-procedure.so_far in
    let i = c.loop-procedure.invariant in
    let (d, on) = c.requires.on in
    let far = i.far d on in
    record { committed = i.committed; number = i.number; stands = (after catalog d far.steps, far.replayed.stands, (stands_now catalog c.requires.accepted d old.list now.list old.database now.database c.args.first on far).on.whole) }

pub returns-then-first-len-ge-LAST_PLACE-clause-behind : goal.returns-then-first-len-ge-LAST_PLACE-clause-behind
returns-then-first-len-ge-LAST_PLACE-clause-behind g c =
    let (d, on) = c.requires.on in
    let far = c.loop-procedure.invariant.far d on in
    (far.steps, far.is)

pub returns-clause-behind : goal.returns-clause-behind
returns-clause-behind g c =
    let (d, on) = c.requires.on in
    let far = c.loop-procedure.invariant.far d on in
    (far.steps, far.is)
