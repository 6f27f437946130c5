use Rattle.std.proofs.Common.{◌≡◌, ◌∙◌, ℕ, true, sym, arith}
use Rattle.std.specs.Int.{IsBitSet}
use Rattle.ss_sched.proofs.CallerLemmas.{marks_more, marks_same}
use Rattle.ss_commitlog.specs.Reading.{ready_there}
use Rattle.ss_commitlog.proofs.reading.ready_set.Goals as goal
use Rattle.ss_commitlog.proofs.reading.ready_set.Goals.{then-is_ready_there, else-is_ready_there}

pub loop-q-preserved : goal.loop-q-preserved
loop-q-preserved c = λ db far.
    let n = c.loop-q.q in
    let ready : ℕ → Type 0 = λ i. ready_there c.args.catalog.now db c.args.homes.now c.args.p i ≡ true in
    let is = c.is_ready_there.ensures db far in
    elim c.if-is_ready_there.branch [
      | then-is_ready_there w ↦ rw w.set-is (marks_more (IsBitSet c.loop-q.set) (IsBitSet w.insert.new.self) ready n (c.loop-q.invariant db far) (sym is ∙ w.if-is_ready_there.true) w.insert.ensures)
      | else-is_ready_there w ↦ rw w.set-is (marks_same (IsBitSet c.loop-q.set) ready n (c.loop-q.invariant db far) (λ t. let f = w.if-is_ready_there.false in cc))
    ]

pub returns : goal.returns
returns c = λ db far q. (
  λ has. (let known = (c.loop-q.invariant db far q).0 has in let done = c.loop-q-test.false in let below = known.0 in (omega arith, known.1)),
  λ is. (c.loop-q.invariant db far q).1 (let done = c.loop-q-test.false in let below = is.0 in omega arith, is.1),
)
