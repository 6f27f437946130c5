use Rattle.std.proofs.Common.{◌≡◌, ◌∙◌, ◌+◌, ◌-◌, List, [], ◌∷◌, ◌++◌, length, take, ap, arith, length-append, subst, sym}
use Rattle.ss_model.specs.declared.entry.Listed.{Listed}
use Rattle.ss_weak_replay.specs.WeakReplaying.{asked_listed}
use Rattle.ss_weak_replay.proofs.AskedLists.{one_taken}
use Rattle.ss_weak_replay.proofs.asked.first_asked.Goals as goal

pub loop-listed-preserved-then-is_asked : goal.loop-listed-preserved-then-is_asked
loop-listed-preserved-then-is_asked c =
    let i = c.loop-listed.invariant in
    let asked = c.loop-listed.asked.items in
    let l = c.in-Some.listed in
    let rest = c.next.new.self.rest.items in
    let all = take c.args.most (asked_listed c.args.list) in
    let whole : asked ++ take (c.args.most - length asked) (asked_listed (l ∷ rest)) ≡ all =
    subst (λ (xs : List Listed). asked ++ take (c.args.most - length asked) (asked_listed xs) ≡ all) c.in-Some.ensures.steps.0 i.first in
    let more = one_taken asked l rest c.args.most all (omega (arith, c.if-len-most.true, c.len.ensures)) (sym c.is_asked.ensures ∙ c.if-is_asked.true) whole in
    let many : length c.add.new.self.items ≡ length asked + 1 = ap (λ (xs : List Listed). length xs) c.add.ensures.items ∙ length-append asked (l ∷ []) in
    record {
      first = subst (λ (xs : List Listed). xs ++ take (c.args.most - length xs) (asked_listed rest) ≡ all) (sym c.add.ensures.items) more;
      few = omega (arith, many, c.if-len-most.true, c.len.ensures);
      room = omega (arith, many, i.room, c.add.ensures.room);
    }
