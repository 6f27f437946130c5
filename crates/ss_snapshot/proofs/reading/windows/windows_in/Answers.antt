use Rattle.std.proofs.Common.{◌≡◌, ◌+◌, List, [], ◌∷◌, ◌++◌, sym, subst, arith, rules}
use Rattle.std.proofs.lemmas.Result.{err_from_is_err_and}
use Rattle.ss_window.specs.WindowValue.{WindowValue}
use Rattle.ss_snapshot.proofs.Eaches.{AreRead, all_windows, item_here, no_windows, one_window, sound_here, window_refused}
use Rattle.ss_snapshot.proofs.reading.windows.windows_in.Goals as goal

pub window_in-requires : goal.window_in-requires
window_in-requires c =
    let ws = c.args.windows.now in
    let i = c.loop-window.window-index in
    sound_here ws i c.loop-window.restored c.args.bytes.now c.loop-window.rest.now c.loop-window.invariant c.window-item.result (item_here ws i c.window-item.result c.loop-window-test.true c.window-item.is)

pub loop-window-init : goal.loop-window-init
loop-window-init c =
    subst (λ (hs : List WindowValue). AreRead c.args.windows.now 0 hs c.args.bytes.now c.args.bytes.now) (sym c.new-restored.ensures) (no_windows c.args.windows.now c.args.bytes.now c.requires)

pub loop-window-preserved : goal.loop-window-preserved
loop-window-preserved c =
    let ws = c.args.windows.now in
    let i = c.loop-window.window-index in
    let pushed : c.push.new.self ≡ c.loop-window.restored ++ c.in_ok-window.window ∷ [] = search rules in
    subst (λ (hs : List WindowValue). AreRead ws (i + 1) hs c.args.bytes.now c.in_ok-window.behind.now) (sym pushed)
    (one_window ws i c.loop-window.restored c.args.bytes.now c.loop-window.rest.now c.loop-window.invariant c.window-item.result (item_here ws i c.window-item.result c.loop-window-test.true c.window-item.is)
    c.in_ok-window.window c.in_ok-window.behind.now c.in_ok-window.ensures.read c.in_ok-window.ensures.restored)

pub returns-clause-read : goal.returns-clause-read
returns-clause-read c =
    (all_windows c.args.windows.now c.loop-window.window-index c.loop-window.restored c.args.bytes.now c.loop-window.rest.now c.loop-window.invariant (omega arith)).0

pub returns-clause-restored : goal.returns-clause-restored
returns-clause-restored c =
    (all_windows c.args.windows.now c.loop-window.window-index c.loop-window.restored c.args.bytes.now c.loop-window.rest.now c.loop-window.invariant (omega arith)).1

pub returns-in_err-window-clause-read : goal.returns-in_err-window-clause-read
returns-in_err-window-clause-read c =
    let p = err_from_is_err_and c.from_residual.result c.from_residual.ensures.1 in
    let ws = c.args.windows.now in
    let i = c.loop-window.window-index in
    rw (p.1, p.2)
    (window_refused ws i c.loop-window.restored c.args.bytes.now c.loop-window.rest.now c.loop-window.invariant c.window-item.result (item_here ws i c.window-item.result c.loop-window-test.true c.window-item.is)
    c.in_err-window.field-0.0 c.in_err-window.ensures.read)
