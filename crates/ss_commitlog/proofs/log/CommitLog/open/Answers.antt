use Rattle.std.proofs.Common.{◌≡◌, ◌+◌, ◌∙◌, ap, sym, subst, [], List}
use Rattle.atomic_table.specs.Table.{Me}
use Rattle.ss_model.specs.declared.entry.Listed.{Listed}
use Rattle.ss_model.specs.Replays.{after}
use Rattle.ss_commitlog.specs.declared.role.Role.TheVariants.{Part, Client, Disk}
use Rattle.ss_commitlog.specs.declared.rule.View.{View}
use Rattle.ss_commitlog.specs.declared.rule.Opening.{Opening}
use Rattle.ss_commitlog.specs.Committing.{IsFlow}
use Rattle.ss_commitlog.specs.Meaning.{listed_of}
use Rattle.ss_partition.specs.Homes.{homes_of}
use Rattle.ss_commitlog.specs.Rule.{numbered, reader, opening_view}
use Rattle.ss_commitlog.specs.Tokens.{at_opening, known}
use Rattle.ss_commitlog.proofs.Dealt.{log_alone, nothing_legal, at_first, parts_enough, parts_given, behind_parts, clients_enough, clients_given, behind_clients, notes_enough, notes_given, behind_notes, disk_enough, disk_is, behind_disk}
use Rattle.ss_commitlog.proofs.log.CommitLog.open.Goals as goal

pub give_back-requires-clause-roles : goal.give_back-requires-clause-roles
give_back-requires-clause-roles g c =
    let is = subst (λ (o : Opening). c.args.blank.seat.me ≡ (opening_view o, [])) c.requires.blank.0 c.args.blank.view_is in
    parts_enough c.args.opening c.args.blank.seat.me is

pub give_back-requires-clause-legal : goal.give_back-requires-clause-legal
give_back-requires-clause-legal g c =
    let is = subst (λ (o : Opening). c.args.blank.seat.me ≡ (opening_view o, [])) c.requires.blank.0 c.args.blank.view_is in
    nothing_legal _ _ _ _ _ _ _ _ (at_first c.args.opening c.args.blank.seat.me is)

pub give_back-requires-2-clause-roles : goal.give_back-requires-2-clause-roles
give_back-requires-2-clause-roles g c =
    let is = subst (λ (o : Opening). c.args.blank.seat.me ≡ (opening_view o, [])) c.requires.blank.0 c.args.blank.view_is in
    clients_enough c.args.opening c.args.blank.seat.me is c.give_back.new.seat.me c.give_back.ensures.seat.1

pub give_back-requires-2-clause-legal : goal.give_back-requires-2-clause-legal
give_back-requires-2-clause-legal g c =
    let is = subst (λ (o : Opening). c.args.blank.seat.me ≡ (opening_view o, [])) c.requires.blank.0 c.args.blank.view_is in
    nothing_legal _ _ _ _ _ _ _ _ (behind_parts c.args.opening c.args.blank.seat.me is c.give_back.new.seat.me c.give_back.ensures.seat.1)

pub give_back-requires-3-clause-roles : goal.give_back-requires-3-clause-roles
give_back-requires-3-clause-roles g c =
    let is = subst (λ (o : Opening). c.args.blank.seat.me ≡ (opening_view o, [])) c.requires.blank.0 c.args.blank.view_is in
    notes_enough c.args.opening c.args.blank.seat.me is c.give_back.new.seat.me c.give_back.ensures.seat.1 c.give_back-2.new.seat.me c.give_back-2.ensures.seat.1

pub give_back-requires-3-clause-legal : goal.give_back-requires-3-clause-legal
give_back-requires-3-clause-legal g c =
    let is = subst (λ (o : Opening). c.args.blank.seat.me ≡ (opening_view o, [])) c.requires.blank.0 c.args.blank.view_is in
    nothing_legal _ _ _ _ _ _ _ _ (behind_clients c.args.opening c.args.blank.seat.me is c.give_back.new.seat.me c.give_back.ensures.seat.1 c.give_back-2.new.seat.me c.give_back-2.ensures.seat.1)

pub give_one-disk-requires-clause-roles : goal.give_one-disk-requires-clause-roles
give_one-disk-requires-clause-roles g c =
    let is = subst (λ (o : Opening). c.args.blank.seat.me ≡ (opening_view o, [])) c.requires.blank.0 c.args.blank.view_is in
    disk_enough c.args.opening c.args.blank.seat.me is c.give_back.new.seat.me c.give_back.ensures.seat.1 c.give_back-2.new.seat.me c.give_back-2.ensures.seat.1 c.give_back-3.new.seat.me c.give_back-3.ensures.seat.1

pub give_one-disk-requires-clause-legal : goal.give_one-disk-requires-clause-legal
give_one-disk-requires-clause-legal g c =
    let is = subst (λ (o : Opening). c.args.blank.seat.me ≡ (opening_view o, [])) c.requires.blank.0 c.args.blank.view_is in
    nothing_legal _ _ _ _ _ _ _ _
    (behind_notes c.args.opening c.args.blank.seat.me is c.give_back.new.seat.me c.give_back.ensures.seat.1 c.give_back-2.new.seat.me c.give_back-2.ensures.seat.1 c.give_back-3.new.seat.me c.give_back-3.ensures.seat.1)

pub invariant_of-desk : goal.invariant_of-desk
invariant_of-desk g c =
    let catalog = g.I.Life.catalog in
    let db = g.I.Life.opening in
    let is = subst (λ (o : Opening). c.args.blank.seat.me ≡ (opening_view o, [])) c.requires.blank.0 c.args.blank.view_is in
    let seat = c.give_one-disk.new.seat in
    let alone = behind_disk c.args.opening c.args.blank.seat.me is c.give_back.new.seat.me c.give_back.ensures.seat.1 c.give_back-2.new.seat.me c.give_back-2.ensures.seat.1 c.give_back-3.new.seat.me c.give_back-3.ensures.seat.1 seat.me c.give_one-disk.ensures.seat.1 in
    let none_yet = sym c.new.ensures in
    let numbers = c.requires.numbers in
    record {
      opening = c.requires.opening;
      bounds = record { first_is = numbers.0; limit_is = numbers.1; small = c.requires.small; few = c.requires.few };
      log_seat = record {
        table_is = c.give_one-disk.ensures.seat.0;
        same = ap (λ (m : Me Listed View). listed_of m.0.now.known) alone ∙ none_yet;
        log = log_alone c.args.opening.first seat.me alone;
      };
      legal = nothing_legal catalog g.I.Life.parts g.I.Life.clients g.I.Life.limit db _ _ seat.me alone;
      flow = subst (λ (l : List Listed). IsFlow catalog g.I.Life.parts (after catalog db l) c.args.streams.streams c.args.counts c.in_ok-room.room.homes) none_yet (record {
        streams_are = c.requires.streams;
        counts_are = c.requires.counts;
        homes_are = c.in_ok-room.ensures.homes ∙ (λ i. homes_of (c.requires.catalog i) (numbers.2 i));
      });
    }

pub returns-clause-parts : goal.returns-clause-parts
returns-clause-parts g c =
    let is = subst (λ (o : Opening). c.args.blank.seat.me ≡ (opening_view o, [])) c.requires.blank.0 c.args.blank.view_is in
    let n = c.requires.numbers in
    c.from_vec.ensures ∙ (c.give_back.ensures.tokens ∙ (parts_given c.args.opening c.args.blank.seat.me is ∙ (λ i. at_opening (n.0 i) (numbered Part 0 (n.2 i) []))))

pub returns-clause-clients : goal.returns-clause-clients
returns-clause-clients g c =
    let is = subst (λ (o : Opening). c.args.blank.seat.me ≡ (opening_view o, [])) c.requires.blank.0 c.args.blank.view_is in
    let n = c.requires.numbers in
    c.from_vec-2.ensures ∙ (c.give_back-2.ensures.tokens ∙ (clients_given c.args.opening c.args.blank.seat.me is c.give_back.new.seat.me c.give_back.ensures.seat.1 ∙ (λ i. at_opening (n.0 i) (numbered Client 0 (n.3 i) []))))

pub returns-clause-notes : goal.returns-clause-notes
returns-clause-notes g c =
    let is = subst (λ (o : Opening). c.args.blank.seat.me ≡ (opening_view o, [])) c.requires.blank.0 c.args.blank.view_is in
    let n = c.requires.numbers in
    c.from_vec-3.ensures ∙ (c.give_back-3.ensures.tokens
    ∙ (notes_given c.args.opening c.args.blank.seat.me is c.give_back.new.seat.me c.give_back.ensures.seat.1 c.give_back-2.new.seat.me c.give_back-2.ensures.seat.1 ∙ (λ i. at_opening (n.0 i) (numbered reader 0 (n.2 i + n.3 i) []))))

pub returns-clause-disk : goal.returns-clause-disk
returns-clause-disk g c =
    let is = subst (λ (o : Opening). c.args.blank.seat.me ≡ (opening_view o, [])) c.requires.blank.0 c.args.blank.view_is in
    let n = c.requires.numbers in
    disk_is c.args.opening c.args.blank.seat.me is c.give_back.new.seat.me c.give_back.ensures.seat.1 c.give_back-2.new.seat.me c.give_back-2.ensures.seat.1 c.give_back-3.new.seat.me c.give_back-3.ensures.seat.1 c.give_one-disk.result c.give_one-disk.ensures.token
    ∙ (λ i. known Disk [] (n.0 i) 0)
