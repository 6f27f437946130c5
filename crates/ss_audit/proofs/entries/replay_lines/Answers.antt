use Rattle.std.proofs.Common.{◌≡◌, ◌+◌, ℕ, [], drop, sym, ap, arith}
use Rattle.std.proofs.lemmas.List.{drop_all}
use Rattle.std.proofs.lemmas.Result.{err_from_is_err_and}
use Rattle.ss_lemmas.proofs.LoopItem.{next}
use Rattle.ss_model.specs.Database.{empty_database}
use Rattle.ss_audit_laws.specs.Checks.{Turns, replayed}
use Rattle.ss_audit.specs.Clients.{number_of}
use Rattle.ss_audit.proofs.Numbers.{each_same}
use Rattle.ss_audit.proofs.Running.{one_less, stops_there}
use Rattle.ss_audit.proofs.entries.replay_lines.Goals as goal

pub loop-at-init : goal.loop-at-init
loop-at-init g c =
    let catalog = c.args.catalog.now in
    record {
      committed = c.requires.committed;
      left = record {
        d = empty_database catalog;
        on = c.requires.opening;
        same =
            ap (λ (turns : Turns). replayed catalog c.args.asked.now.requests.now turns (empty_database catalog) 0 c.args.lines.now)
            (each_same (number_of c.zeros-turns.result) (λ (client : ℕ). 0) c.zeros-turns.ensures);
      };
    }

pub run_line-requires-clause-on : goal.run_line-requires-clause-on
run_line-requires-clause-on g c = let left = c.loop-at.invariant.left in (left.d, left.on)

pub loop-at-preserved : goal.loop-at-preserved
loop-at-preserved g c =
    let all = c.args.lines.now in
    let i = c.loop-at.at in
    let l = c.index-lines-at.result in
    let here = next all i l c.loop-at-test.true c.index-lines-at.is in
    let left = rw here at c.loop-at.invariant.left in
    record {
      committed = c.in_ok-run_line.ensures.committed;
      left = one_less c.args.catalog.now c.args.asked.now.requests.now all c.loop-at.behind c.run_line.new.behind i l (drop (i + 1) all) left (c.in_ok-run_line.ensures.ran left.d left.on);
    }

pub returns-in_err-run_line-clause-broken : goal.returns-in_err-run_line-clause-broken
returns-in_err-run_line-clause-broken g c =
    let all = c.args.lines.now in
    let i = c.loop-at.at in
    let l = c.index-lines-at.result in
    let here = next all i l c.loop-at-test.true c.index-lines-at.is in
    let left = rw here at c.loop-at.invariant.left in
    let p = err_from_is_err_and c.from_residual.result c.from_residual.ensures.1 in
    rw (p.1, p.2) (stops_there c.args.catalog.now c.args.asked.now.requests.now all c.loop-at.behind i l (drop (i + 1) all) left _ (c.in_err-run_line.ensures.broken left.d left.on))

pub returns-clause-ok : goal.returns-clause-ok
returns-clause-ok g c =
    let none : drop c.loop-at.at c.args.lines.now ≡ [] = drop_all c.loop-at.at c.args.lines.now (omega (arith, c.loop-at-test.false)) in
    let left = rw none at c.loop-at.invariant.left in
    (left.d, left.on.on, sym left.same)
