use Rattle.std.proofs.Common.{◌≡◌, ◌+◌, ◌∙◌, ℕ, None, IfSome, IfNone, refl, sym, subst, true≢false}
use Rattle.std.specs.declared.option.Option.{Option}
use Rattle.ss_settle.specs.Members.{NoneBelow}
use Rattle.ss_settle.specs.Ranking.{IsFirstRanked, IsSooner}
use Rattle.ss_settle.proofs.Ranked.{at_first, at_first_none, first_low, passed_none, passed_some, taken}
use Rattle.ss_settle.proofs.ranking.first_ranked.Goals as goal
use Rattle.ss_settle.proofs.ranking.first_ranked.Goals.{then-has, else-has}

pub loop-q-init : goal.loop-q-init
loop-q-init c = record {
  some = at_first c.args.ranks.now c.args.set c.args.found c.args.found refl c.requires;
  none = at_first_none c.args.ranks.now c.args.set c.args.found c.args.found refl;
}

pub loop-q-preserved : goal.loop-q-preserved
loop-q-preserved c =
    let was = c.loop-q.invariant in
    elim c.if-has.branch [
      | then-has w ↦ record {
        some = subst (λ (o : Option ℕ). IfSome o (IsFirstRanked c.args.ranks.now (c.loop-q.q + 1) c.args.set c.args.found)) (sym w.first-is)
            (taken c.args.ranks.now c.args.set c.args.found c.loop-q.q c.loop-q.first was.some was.none c.loop-q-test.true (c.has.ensures.0 w.if-has.true) w.sooner.result
            (subst (λ (x : ℕ). IsSooner c.args.ranks.now c.loop-q.first x w.sooner.result) w.from.ensures w.sooner.ensures));
        none = subst (λ (o : Option ℕ). IfNone o (NoneBelow (c.loop-q.q + 1) c.args.set × (c.args.found ≡ None))) (sym w.first-is) tt;
      }
      | else-has w ↦ record {
        some = subst (λ (o : Option ℕ). IfSome o (IsFirstRanked c.args.ranks.now (c.loop-q.q + 1) c.args.set c.args.found)) (sym w.first-is)
            (passed_some c.args.ranks.now c.args.set c.args.found c.loop-q.q c.loop-q.first was.some was.none (λ has. true≢false (sym (c.has.ensures.1 has) ∙ w.if-has.false)));
        none = subst (λ (o : Option ℕ). IfNone o (NoneBelow (c.loop-q.q + 1) c.args.set × (c.args.found ≡ None))) (sym w.first-is)
            (passed_none c.args.ranks.now c.args.set c.args.found c.loop-q.q c.loop-q.first was.some was.none (λ has. true≢false (sym (c.has.ensures.1 has) ∙ w.if-has.false)));
      }
    ]

pub sooner-requires-clause-found : goal.sooner-requires-clause-found
sooner-requires-clause-found c = first_low c.args.ranks.now c.args.set c.args.found c.loop-q.q c.loop-q.first c.loop-q.invariant.some c.loop-q.invariant.none
