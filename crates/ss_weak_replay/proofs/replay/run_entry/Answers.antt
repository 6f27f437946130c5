use Rattle.std.proofs.Common.{◌≡◌, ◌+◌, ◌∙◌, ℕ, List, [], ◌∷◌, ◌++◌, append_assoc, append-nil, length, length-append, arith, ap, subst, sym}
use Rattle.ss_lemmas.proofs.Results.{if_ok}
use Rattle.ss_model.specs.declared.entry.Listed.{Listed}
use Rattle.ss_model.specs.Replays.{database_after}
use Rattle.ss_replay.specs.Replaying.{DoesNotReplay}
use Rattle.ss_weak_replay.proofs.Replaying.{can_take, runs_on, stands_one, stops_at}
use Rattle.ss_weak_replay.proofs.replay.run_entry.Goals as goal

pub returns-then-not-replays-clause-runs : goal.returns-then-not-replays-clause-runs
returns-then-not-replays-clause-runs g c = λ d on.
    let catalog = c.args.catalog.now in
    let old = c.args.so_far.now in
    let stops : DoesNotReplay catalog d (c.args.first + length old.list) c.args.entry = subst (λ (n : ℕ). DoesNotReplay catalog d (c.args.first + n) c.args.entry) c.len.ensures (c.replays.ensures.stops c.if-not-replays.true d on.on) in
    stops_at catalog c.requires.accepted d c.args.entry old.list old.database c.args.first on c.settling_terminates.ensures stops

pub list_entry-requires-clause-takes : goal.list_entry-requires-clause-takes
list_entry-requires-clause-takes g c =
    let (d, on) = c.requires.on in
    (d, can_take c.args.catalog.now d c.args.so_far.now.database _ on (omega (arith, c.replays.ensures.placed c.if-not-replays.false, c.len.ensures)))

pub settle_behind-requires-clause-whole : goal.settle_behind-requires-clause-whole
settle_behind-requires-clause-whole g c =
    let catalog = c.args.catalog.now in
    let old = c.args.so_far.now in
    let mid = c.list_entry.new.so_far in
    let (d, on) = c.requires.on in
    let takes = can_take catalog d old.database (c.args.first + length old.list) on (omega (arith, c.replays.ensures.placed c.if-not-replays.false, c.len.ensures)) in
    let one = stands_one catalog c.requires.accepted d c.args.entry old.list old.database c.args.first on mid.list mid.database (c.in_ok-list_entry.ensures.listed d takes) in
    record { committed = c.in_ok-list_entry.ensures.committed; number = c.in_ok-list_entry.ensures.number ∙ c.requires.whole.number; stands = (database_after catalog d c.args.entry, one.on.stands, one.on.whole) }

pub settle_behind-requires-clause-placed : goal.settle_behind-requires-clause-placed
settle_behind-requires-clause-placed g c =
    let catalog = c.args.catalog.now in
    let old = c.args.so_far.now in
    let (d, on) = c.requires.on in
    let takes = can_take catalog d old.database (c.args.first + length old.list) on (omega (arith, c.replays.ensures.placed c.if-not-replays.false, c.len.ensures)) in
    let listed = c.in_ok-list_entry.ensures.listed d takes in
    let longer : length c.list_entry.new.so_far.list ≡ length old.list + 1 = ap (λ (l : List Listed). length l) listed.is ∙ length-append old.list (record { entry = c.args.entry; outcome = listed.outcome } ∷ []) in
    omega (arith, longer, c.replays.ensures.placed c.if-not-replays.false, c.len.ensures)

pub settle_behind-requires-clause-on : goal.settle_behind-requires-clause-on
settle_behind-requires-clause-on g c =
    let catalog = c.args.catalog.now in
    let old = c.args.so_far.now in
    let mid = c.list_entry.new.so_far in
    let (d, on) = c.requires.on in
    let takes = can_take catalog d old.database (c.args.first + length old.list) on (omega (arith, c.replays.ensures.placed c.if-not-replays.false, c.len.ensures)) in
    (database_after catalog d c.args.entry, stands_one catalog c.requires.accepted d c.args.entry old.list old.database c.args.first on mid.list mid.database (c.in_ok-list_entry.ensures.listed d takes))

pub returns-clause-runs : goal.returns-clause-runs
returns-clause-runs g c =
    let catalog = c.args.catalog.now in
    let old = c.args.so_far.now in
    let mid = c.list_entry.new.so_far in
    let new = c.settle_behind.new.so_far in
    if_ok _ _
    (
    λ all settled d on.
    let takes = can_take catalog d old.database (c.args.first + length old.list) on (omega (arith, c.replays.ensures.placed c.if-not-replays.false, c.len.ensures)) in
    let listed = c.in_ok-list_entry.ensures.listed d takes in
    let one = stands_one catalog c.requires.accepted d c.args.entry old.list old.database c.args.first on mid.list mid.database listed in
    runs_on catalog c.requires.accepted d c.args.entry old.list old.database c.args.first on mid.list mid.database listed new.list new.database all (settled (database_after catalog d c.args.entry) one)
    )
    c.settle_behind.result c.settle_behind.ensures.settled

pub returns-then-not-replays-clause-behind : goal.returns-then-not-replays-clause-behind
returns-then-not-replays-clause-behind g c = ([], sym (append-nil c.args.so_far.now.list))

pub returns-clause-behind : goal.returns-clause-behind
returns-clause-behind g c =
    let catalog = c.args.catalog.now in
    let old = c.args.so_far.now in
    let (d, on) = c.requires.on in
    let takes = can_take catalog d old.database (c.args.first + length old.list) on (omega (arith, c.replays.ensures.placed c.if-not-replays.false, c.len.ensures)) in
    let listed = c.in_ok-list_entry.ensures.listed d takes in
    let last : List Listed = record { entry = c.args.entry; outcome = listed.outcome } ∷ [] in
    if_ok _ _
    (
    λ all behind.
    let (rest, is) = behind in
    (last ++ rest, is ∙ ap (λ (l : List Listed). l ++ rest) listed.is ∙ append_assoc old.list last rest)
    )
    c.settle_behind.result c.settle_behind.ensures.behind
