use Rattle.std.proofs.Common.{◌≡◌, ◌∙◌, ◌+◌, ℕ, List, [], ◌++◌, length, map, arith, ap, append-nil, length-append, subst, sym}
use Rattle.std.proofs.lemmas.List.{nil_from_length}
use Rattle.ss_model.specs.declared.entry.Entry.{Entry}
use Rattle.ss_model.specs.declared.entry.Listed.{Listed}
use Rattle.ss_model.specs.Replays.{after}
use Rattle.ss_model_laws.proofs.CallerLemmas.{whole_after}
use Rattle.ss_replay.specs.Replaying.{DoesNotReplay}
use Rattle.ss_replay.proofs.Replaying.{one_replayed, replayed_more, stands_behind, stops_next, takes_next}
use Rattle.ss_replay.proofs.entries.replay_on.Goals as goal

pub replays-requires-clause-on : goal.replays-requires-clause-on
replays-requires-clause-on g c =
    let i = c.loop-entry.invariant in
    let list = c.loop-entry.list.items in
    let (d, on) = c.requires.on in
    (after c.args.catalog.now d list, (stands_behind c.args.catalog.now c.requires.accepted c.args.database.now c.loop-entry.database c.args.first d list on (i.replayed d on)).on)

pub replay_entry-requires-clause-takes : goal.replay_entry-requires-clause-takes
replay_entry-requires-clause-takes g c =
    let i = c.loop-entry.invariant in
    let list = c.loop-entry.list.items in
    let (d, on) = c.requires.on in
    (after c.args.catalog.now d list, takes_next c.args.catalog.now c.requires.accepted c.args.database.now c.loop-entry.database c.args.first d list on (i.replayed d on) (omega (arith, c.replays.ensures.placed c.if-not-replays.false, c.len-in-loop-entry.ensures)))

pub replay_entry-requires-clause-value : goal.replay_entry-requires-clause-value
replay_entry-requires-clause-value g c = λ d takes. c.replays.ensures.value c.if-not-replays.false d takes.on

pub loop-entry-preserved : goal.loop-entry-preserved
loop-entry-preserved g c =
    let catalog = c.args.catalog.now in
    let i = c.loop-entry.invariant in
    let list = c.loop-entry.list.items in
    let rest = c.next.new.self.rest.items in
    let left = subst (λ (rest : List Entry). map (λ (l : Listed). l.entry) list ++ rest ≡ c.args.entries) c.in-Some.ensures.steps.0 i.left in
    let shorter = ap (λ (rest : List Entry). length rest) c.in-Some.ensures.steps.0 in
    record {
      left = rw c.add.ensures.items (one_replayed list _ rest c.args.entries left);
      replayed = λ d on.
          let so_far = i.replayed d on in
          let next = takes_next catalog c.requires.accepted c.args.database.now c.loop-entry.database c.args.first d list on so_far (omega (arith, c.replays.ensures.placed c.if-not-replays.false, c.len-in-loop-entry.ensures)) in
          rw c.add.ensures.items (replayed_more catalog c.requires.accepted d list c.in-Some.entry c.in-Ok-replay_entry.outcome c.loop-entry.database c.replay_entry.new.database so_far (c.in-Ok-replay_entry.ensures.outcome (after catalog d list) next) (c.in-Ok-replay_entry.ensures.stands (after catalog d list) next));
      placed = (let longer : length c.add.new.self.items ≡ length list + 1 = ap (λ (l : List Listed). length l) c.add.ensures.items ∙ length-append list _ in omega (arith, longer, c.replays.ensures.placed c.if-not-replays.false, c.len-in-loop-entry.ensures));
      committed = c.in-Ok-replay_entry.ensures.committed;
      number = c.in-Ok-replay_entry.ensures.number ∙ i.number;
      dealt = c.in-Ok-replay_entry.ensures.dealt ∙ i.dealt;
      room = (let room = i.room in let one = c.add.ensures.room in omega (arith, shorter));
    }

pub returns-then-not-replays-clause-foreign : goal.returns-then-not-replays-clause-foreign
returns-then-not-replays-clause-foreign g c = λ d on.
    let catalog = c.args.catalog.now in
    let i = c.loop-entry.invariant in
    let list = c.loop-entry.list.items in
    let rest = c.next.new.self.rest.items in
    let left = subst (λ (rest : List Entry). map (λ (l : Listed). l.entry) list ++ rest ≡ c.args.entries) c.in-Some.ensures.steps.0 i.left in
    let so_far = i.replayed d on in
    let behind = stands_behind catalog c.requires.accepted c.args.database.now c.loop-entry.database c.args.first d list on so_far in
    let stops = c.replays.ensures.stops c.if-not-replays.true (after catalog d list) behind.on in
    rw c.into_seq.ensures (stops_next catalog c.requires.accepted d c.args.first list c.in-Some.entry rest c.args.entries c.loop-entry.database so_far left i.placed (subst (λ (n : ℕ). DoesNotReplay catalog (after catalog d list) (c.args.first + n) c.in-Some.entry) c.len-in-loop-entry.ensures stops))

pub returns-clause-entries : goal.returns-clause-entries
returns-clause-entries g c =
    let list = c.loop-entry.list.items in
    let rest = c.loop-entry.entry-iterator.rest in
    let none : rest.items ≡ [] = nil_from_length rest.items (omega (arith, rest.ok.0, c.in-None.ensures.steps.0)) in
    rw c.into_seq-2.ensures (sym (append-nil (map (λ (l : Listed). l.entry) list)) ∙ ap (λ (rest : List Entry). map (λ (l : Listed). l.entry) list ++ rest) (sym none) ∙ c.loop-entry.invariant.left)

pub returns-clause-whole : goal.returns-clause-whole
returns-clause-whole g c =
    let catalog = c.args.catalog.now in
    let i = c.loop-entry.invariant in
    let list = c.loop-entry.list.items in
    let (d, on) = c.requires.on in
    record { committed = i.committed; number = i.number; stands = (after catalog d list, (i.replayed d on).stands, whole_after catalog c.requires.accepted d list on.on.whole) }
