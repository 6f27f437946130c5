use Rattle.std.proofs.Common.{sym, subst}
use Rattle.ss_window.specs.WindowValue.{WindowValue}
use Rattle.ss_window.proofs.CallerLemmas.{settled_again}
use Rattle.ss_undo.specs.Windows.{IsCommittedWindow}
use Rattle.ss_undo.proofs.Windows.{final_set}
use Rattle.ss_undo.proofs.completion.commit_window.Goals as goal

pub returns-in-Some-clause-ended : goal.returns-in-Some-clause-ended
returns-in-Some-clause-ended c =
    final_set c.args.windows.now c.from.result c.args.window c.in-Some.window.now c.commit.new.self c.from.ensures c.in-Some.ensures.item
    (subst (λ (h : WindowValue). IsCommittedWindow h) (sym c.commit.ensures) (settled_again c.in-Some.window.now c.invariant_holds.ensures))
