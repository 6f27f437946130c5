use Rattle.std.proofs.Common.{◌≡◌, ◌∙◌, List, Result, Err, sym, ap, subst, arith}
use Rattle.std.proofs.lemmas.Result.{err_from_is_err_and}
use Rattle.ss_commitlog.specs.declared.placed.Unlisted.{Unlisted}
use Rattle.ss_commitlog.specs.declared.rule.Item.{Item}
use Rattle.ss_settle.specs.Settlings.{SettledTo}
use Rattle.ss_settle.specs.Wholes.{MayBeWhole}
use Rattle.ss_settle.proofs.WholeList.{ended_with}
use Rattle.ss_settle.proofs.SettledLists.{few_ran, ran_on, settles_on, stood_still, stopped, went_on}
use Rattle.ss_settle.proofs.settling.settle_counted.Goals as goal

pub returns-in_default-clause-in_order : goal.returns-in_default-clause-in_order
returns-in_default-clause-in_order g c =
    settles_on g.I.Life.catalog g.I.Life.parts g.I.Life.opening c.args.hand.now.marks c.loop.hand.marks c.ready_in_hand.new.hand.marks c.loop.steps c.ready_in_hand.ensures.marks c.loop.invariant.3.far

pub returns-in_err-step_told-clause-settled : goal.returns-in_err-step_told-clause-settled
returns-in_err-step_told-clause-settled g c =
    let told = c.step_told in
    let e = err_from_is_err_and c.from_residual.result c.from_residual.ensures.1 in
    let same : c.from_residual.result ≡ Err c.in_err-step_told.field-0.0 = e.1 ∙ ap (λ (x : Unlisted). Err x) e.2 in
    subst (λ (r : Result (Unit {0}) Unlisted). (list : List Item) → MayBeWhole g.I.Life.catalog g.I.Life.parts g.I.Life.opening list told.new.hand.marks → SettledTo g.I.Life.catalog g.I.Life.parts g.I.Life.opening g.I.Life.limit list r) (sym same)
    (ended_with g.I.Life.catalog g.I.Life.parts c.args.works.now.some g.I.Life.opening c.ready_in_hand.new.hand told.new.hand told.ensures.in_hand g.I.Life.first g.I.Life.limit c.in-Some-ready_in_hand.procedure c.in-Some-ready_in_hand.ensures.some
    c.in_err-step_told.field-0.0 c.in_err-step_told.ensures.stepped)

pub returns-in_err-step_told-clause-in_order : goal.returns-in_err-step_told-clause-in_order
returns-in_err-step_told-clause-in_order g c =
    let looked = c.ready_in_hand in
    let told = c.step_told in
    let was = went_on g.I.Life.catalog g.I.Life.parts g.I.Life.opening c.args.hand.now.marks c.loop.hand.marks looked.new.hand.marks c.loop.steps looked.ensures.marks c.loop.invariant.3 in
    stopped g.I.Life.catalog g.I.Life.parts c.args.works.now.some g.I.Life.opening c.args.hand.now.marks looked.new.hand.marks told.new.hand.marks looked.ensures.in_hand.roles told.ensures.in_hand.roles g.I.Life.first g.I.Life.limit
    c.in-Some-ready_in_hand.procedure c.in-Some-ready_in_hand.ensures.some c.loop.steps was c.in_err-step_told.field-0.0 c.in_err-step_told.ensures.stepped

pub overflow_add-steps : goal.overflow_add-steps
overflow_add-steps g c =
    let looked = c.ready_in_hand in
    let told = c.step_told in
    let was = went_on g.I.Life.catalog g.I.Life.parts g.I.Life.opening c.args.hand.now.marks c.loop.hand.marks looked.new.hand.marks c.loop.steps looked.ensures.marks c.loop.invariant.3 in
    let few = few_ran g.I.Life.catalog g.I.Life.parts c.args.works.now.some g.I.Life.opening c.args.hand.now.marks looked.new.hand.marks told.new.hand.marks looked.ensures.in_hand.roles told.ensures.in_hand.roles g.I.Life.first g.I.Life.limit
    c.in-Some-ready_in_hand.procedure c.in-Some-ready_in_hand.ensures.some c.loop.steps was c.in_ok-step_told.field-0 (sym c.is_some.ensures ∙ c.if-is_some.true) c.in_ok-step_told.ensures.stepped in
    omega (arith, few)

pub loop-preserved-then-is_some : goal.loop-preserved-then-is_some
loop-preserved-then-is_some g c =
    let looked = c.ready_in_hand in
    let told = c.step_told in
    let was = went_on g.I.Life.catalog g.I.Life.parts g.I.Life.opening c.args.hand.now.marks c.loop.hand.marks looked.new.hand.marks c.loop.steps looked.ensures.marks c.loop.invariant.3 in (
      tt,
      tt,
      told.ensures.in_hand,
      ran_on g.I.Life.catalog g.I.Life.parts c.args.works.now.some g.I.Life.opening c.args.hand.now.marks looked.new.hand.marks told.new.hand.marks looked.ensures.in_hand.roles told.ensures.in_hand.roles g.I.Life.first g.I.Life.limit
          c.in-Some-ready_in_hand.procedure c.in-Some-ready_in_hand.ensures.some c.loop.steps was c.in_ok-step_told.field-0 (sym c.is_some.ensures ∙ c.if-is_some.true) c.in_ok-step_told.ensures.stepped,
    )

pub loop-preserved : goal.loop-preserved
loop-preserved g c =
    let looked = c.ready_in_hand in
    let told = c.step_told in
    let was = went_on g.I.Life.catalog g.I.Life.parts g.I.Life.opening c.args.hand.now.marks c.loop.hand.marks looked.new.hand.marks c.loop.steps looked.ensures.marks c.loop.invariant.3 in (
      tt,
      tt,
      told.ensures.in_hand,
      stood_still g.I.Life.catalog g.I.Life.parts c.args.works.now.some g.I.Life.opening c.args.hand.now.marks looked.new.hand.marks told.new.hand.marks looked.ensures.in_hand.roles told.ensures.in_hand.roles g.I.Life.first g.I.Life.limit
          c.in-Some-ready_in_hand.procedure c.in-Some-ready_in_hand.ensures.some c.loop.steps was c.in_ok-step_told.field-0 (sym c.is_some.ensures ∙ c.if-is_some.false) c.in_ok-step_told.ensures.stepped,
    )
