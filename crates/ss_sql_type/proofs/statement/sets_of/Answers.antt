use Rattle.std.proofs.Common.{◌≡◌, ◌+◌, drop, ◌∙◌, ap, ℕ, Option}
use Rattle.ss_sql_type.specs.Refusals.{least_of}
use Rattle.ss_sql_type.specs.Statements.{has, typed_set, set_faults, set_column, with_column}
use Rattle.ss_lemmas.proofs.LoopItem.{next}
use Rattle.ss_sql_type.proofs.Steps.{mapped_step, set_step}
use Rattle.ss_sql_type.proofs.statement.sets_of.Goals as goal

pub loop-set-preserved : goal.loop-set-preserved
loop-set-preserved c =
    let i = c.loop-set.set-index in
    let reach = c.args.names.now in
    let x = c.set-item.result in
    let split = next c.args.sets.now i x c.loop-set-test.true c.set-item.is in
    let grown : (n : ℕ) → has c.add_column.new.earlier.keys n ≡ has (with_column c.loop-set.earlier.keys (set_column reach x)) n = λ n. c.in_ok-add_column.ensures n ∙ ap (λ (o : Option ℕ). has (with_column c.loop-set.earlier.keys o) n) c.set_column.ensures in
    let noted : c.set_of.new.found ≡ least_of c.loop-set.found (set_faults reach c.args.key.now c.loop-set.earlier.keys x) = c.in_ok-to.ensures.faults in
    record {
      typed = mapped_step (typed_set reach) c.args.sets.now i x c.loop-set.typed c.push.new.self c.in_ok-to.to c.loop-set-test.true c.set-item.is c.loop-set.invariant.typed c.in_ok-to.ensures.ok c.in_ok-push.ensures.ok;
      faults = set_step reach c.args.key.now c.loop-set.earlier.keys c.add_column.new.earlier.keys c.loop-set.found c.set_of.new.found (drop i c.args.sets.now) (drop (i + 1) c.args.sets.now) x split grown noted ∙ c.loop-set.invariant.faults;
    }
