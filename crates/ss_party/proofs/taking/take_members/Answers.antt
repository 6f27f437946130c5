use Rattle.std.proofs.Common.{◌≡◌, ◌+◌, ◌≤◌, sym, subst, arith, vec_len, vec_capacity}
use Rattle.std.specs.Int.{IsBitSet}
use Rattle.ss_party.specs.Turns.{IsGathered}
use Rattle.ss_party.proofs.Gathering.{IsGatheredBelow, one_more, passed_over, all_gathered}
use Rattle.ss_party.proofs.taking.take_members.Goals as goal
use Rattle.ss_party.proofs.taking.take_members.Goals.{then-has, else-has}

pub loop-p-preserved : goal.loop-p-preserved
loop-p-preserved g c =
    let tag = g.T.Tagged.tag in
    let bays = c.args.table.now.shared.table_id in
    let i = c.loop-p.invariant in
    elim c.if-has.branch [
      | then-has w ↦
          (let q = w.push_reserved.ensures in
          let more = one_more tag bays c.args.set c.loop-p.p c.loop-p.list.items w.take_when_full.result i.taken (c.has.ensures.0 w.if-has.true) w.take_when_full.ensures in
          record {
            taken = subst (λ v. IsGatheredBelow tag bays c.args.set (c.loop-p.p + 1) v.items) (sym w.list-is) (subst (IsGatheredBelow tag bays c.args.set (c.loop-p.p + 1)) (sym q.items) more);
            room = subst (λ v. vec_len v ≤ c.loop-p.p + 1) (sym w.list-is) (let a = q.len in let b = i.room in omega arith);
            enough = subst (λ v. bays.slots ≤ vec_capacity v) (sym w.list-is) (let a = q.capacity in let b = i.enough in omega arith);
          })
      | else-has w ↦
          (let out : IsBitSet c.args.set c.loop-p.p → ⊥ = λ b. let yes = c.has.ensures.1 b in let no = w.if-has.false in absurd cc in
          record {
            taken = subst (λ v. IsGatheredBelow tag bays c.args.set (c.loop-p.p + 1) v.items) (sym w.list-is) (passed_over tag bays c.args.set c.loop-p.p c.loop-p.list.items i.taken out);
            room = subst (λ v. vec_len v ≤ c.loop-p.p + 1) (sym w.list-is) (let b = i.room in omega arith);
            enough = subst (λ v. bays.slots ≤ vec_capacity v) (sym w.list-is) i.enough;
          })
    ]

pub returns : goal.returns
returns g c =
    let tag = g.T.Tagged.tag in
    let bays = c.args.table.now.shared.table_id in
    let slots : c.slot_count-p-end.result ≡ bays.slots = c.slot_count-p-end.ensures in
    let end = c.loop-p-test.false in
    let all = all_gathered tag bays c.args.set c.loop-p.p c.loop-p.list.items c.loop-p.invariant.taken (λ p b. let h = c.requires.members p b in omega arith) in
    subst (IsGathered tag bays c.args.set) (sym c.from_vec.ensures) all
