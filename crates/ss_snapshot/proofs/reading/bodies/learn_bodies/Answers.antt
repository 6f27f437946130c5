use Rattle.std.proofs.Common.{◌<◌, length, refl, subst, arith}
use Rattle.ss_snapshot.specs.declared.reading.fields.PartError.{PartError}
use Rattle.ss_snapshot.specs.Bodies.{text_of}
use Rattle.ss_snapshot.specs.Parts.{Refuses}
use Rattle.ss_snapshot.proofs.BodiesRead.{furthest_grown, grown_on, none_learnt, one_learnt, stopped_at_cut, stopped_at_end, stopped_at_none}
use Rattle.ss_snapshot.proofs.reading.bodies.learn_bodies.Goals as goal

pub loop-procedure-init : goal.loop-procedure-init
loop-procedure-init c = none_learnt (length c.args.catalog.now.procedures) c.args.catalog.now c.args.bytes.now c.requires.own c.requires.accepted

pub returns-in-Err-Foreign-clause-furthest : goal.returns-in-Err-Foreign-clause-furthest
returns-in-Err-Foreign-clause-furthest c =
    let old = c.args.catalog.now in
    let n = length old.procedures in
    let now = c.loop-procedure.catalog in
    let i = c.loop-procedure.procedure in
    let there : i < n = omega (arith, c.loop-procedure-test.true, c.in-Ok.ensures, c.len.ensures) in
    furthest_grown c.a_nested_value_has_one_answer.ensures.catalog n old now c.args.bytes.now refl c.loop-procedure.invariant.grown
    (stopped_at_cut n old now i c.args.bytes.now c.loop-procedure.rest.now c.loop-procedure.invariant there _
    (subst (λ (e : PartError). Refuses e (text_of c.loop-procedure.rest.now)) c.in-Err-Foreign.field-0-is c.in-Err-Foreign.ensures))

pub returns-in_err-learn_body-clause-grown : goal.returns-in_err-learn_body-clause-grown
returns-in_err-learn_body-clause-grown c = grown_on c.args.catalog.now c.loop-procedure.catalog c.learn_body.new.catalog c.loop-procedure.invariant.grown c.learn_body.ensures.grown

pub returns-then-not-branch-clause-grown : goal.returns-then-not-branch-clause-grown
returns-then-not-branch-clause-grown c = grown_on c.args.catalog.now c.loop-procedure.catalog c.learn_body.new.catalog c.loop-procedure.invariant.grown c.learn_body.ensures.grown

pub returns-then-not-branch-clause-furthest : goal.returns-then-not-branch-clause-furthest
returns-then-not-branch-clause-furthest c =
    let old = c.args.catalog.now in
    let n = length old.procedures in
    let now = c.loop-procedure.catalog in
    let new = c.learn_body.new.catalog in
    let i = c.loop-procedure.procedure in
    let there : i < n = omega (arith, c.loop-procedure-test.true, c.in-Ok.ensures, c.len.ensures) in
    furthest_grown c.a_nested_value_has_one_answer.ensures.catalog n old new c.args.bytes.now refl (grown_on old now new c.loop-procedure.invariant.grown c.learn_body.ensures.grown)
    (stopped_at_none n old now i c.args.bytes.now c.loop-procedure.rest.now c.loop-procedure.invariant there new c.learn_body.ensures.grown c.in-Ok-text_in.read.0.now c.in-Ok-text_in.read.1.now
    c.in-Ok-text_in.ensures (c.in_ok-learn_body.ensures.none c.if-not-branch.true))

pub loop-procedure-preserved : goal.loop-procedure-preserved
loop-procedure-preserved c =
    let old = c.args.catalog.now in
    let n = length old.procedures in
    let now = c.loop-procedure.catalog in
    let new = c.learn_body.new.catalog in
    let i = c.loop-procedure.procedure in
    let there : i < n = omega (arith, c.loop-procedure-test.true, c.in-Ok.ensures, c.len.ensures) in
    one_learnt n old now i c.args.bytes.now c.loop-procedure.rest.now c.loop-procedure.invariant there new c.learn_body.ensures.grown c.in-Ok-text_in.read.0.now c.in-Ok-text_in.read.1.now
    c.in-Ok-text_in.ensures (c.in_ok-learn_body.ensures.has c.if-not-branch.false)

pub returns-clause-furthest : goal.returns-clause-furthest
returns-clause-furthest c =
    let old = c.args.catalog.now in
    let n = length old.procedures in
    let now = c.loop-procedure.catalog in
    furthest_grown c.a_nested_value_has_one_answer.ensures.catalog n old now c.args.bytes.now refl c.loop-procedure.invariant.grown
    (stopped_at_end n old now c.loop-procedure.procedure c.args.bytes.now c.loop-procedure.rest.now c.loop-procedure.invariant (omega (arith, c.loop-procedure-test.false, c.in-Ok.ensures, c.len.ensures)))
