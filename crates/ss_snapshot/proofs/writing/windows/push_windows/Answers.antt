use Rattle.std.proofs.Common.{sym, subst, arith}
use Rattle.ss_snapshot.proofs.Pieces.{spelled_none, spelled_more, spelled_all, spelled_as}
use Rattle.std.proofs.lemmas.List.Elements.{All-from_recursion}
use Rattle.ss_undo.specs.Windows.{IsCommittedWindow}
use Rattle.ss_window.specs.WindowValue.{WindowValue}
use Rattle.ss_shard.specs.Windows.{kept_part}
use Rattle.ss_standing.specs.FitsImage.{FitsWindow}
use Rattle.ss_standing.specs.Image.{window_bytes}
use Rattle.ss_snapshot.proofs.writing.windows.push_windows.Goals as goal

pub loop-window-init : goal.loop-window-init
loop-window-init c = spelled_none (λ (h : WindowValue). window_bytes (kept_part h)) (λ (h : WindowValue). FitsWindow (kept_part h)) c.args.out.now.items

pub push_window-requires : goal.push_window-requires
push_window-requires c =
    subst IsCommittedWindow (sym c.window-item.is)
    (All-from_recursion IsCommittedWindow c.args.windows.now c.requires c.loop-window.window-index c.window-item.result c.loop-window-test.true)

pub loop-window-preserved : goal.loop-window-preserved
loop-window-preserved c =
    spelled_more (λ (h : WindowValue). window_bytes (kept_part h)) (λ (h : WindowValue). FitsWindow (kept_part h)) c.args.out.now.items c.args.windows.now c.loop-window.window-index c.window-item.result c.loop-window.out.items c.push_window.new.out.items c.loop-window-test.true c.window-item.is c.loop-window.invariant
    c.in_ok-push_window.ensures.spelled c.in_ok-push_window.ensures.fits

pub returns : goal.returns
returns c =
    let all = spelled_as (window_bytes) (FitsWindow) kept_part c.args.out.now.items c.loop-window.out.items c.args.windows.now
    (spelled_all (λ (h : WindowValue). window_bytes (kept_part h)) (λ (h : WindowValue). FitsWindow (kept_part h)) c.args.out.now.items c.args.windows.now c.loop-window.window-index c.loop-window.out.items (omega (arith, c.loop-window-test.false)) c.loop-window.invariant) in
    record { spelled = all.spelled; fits = all.fits }
