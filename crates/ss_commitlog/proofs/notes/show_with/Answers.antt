use Rattle.std.proofs.Common.{rules, ◌≡◌, ◌∙◌, sym, [], ◌∷◌, ◌++◌, length}
use Rattle.ss_commitlog.proofs.Meeting.{all_taken, looks_at, took_log, took_none}
use Rattle.ss_commitlog.proofs.MeetingWith.{both_continue, left_legal, left_roles, log_left, marks_told, note_told, see_alike, with_legal, with_roles}
use Rattle.ss_commitlog.proofs.notes.show_with.Goals as goal

pub load-requires : goal.load-requires
load-requires g c =
    let t = all_taken c.args.seat.now.me c.take_in_lent.new.seat.me c.take_in_all.new.seat.me c.args.note.now c.args.tokens.now.items c.take_in_lent.ensures.1 c.take_in_all.ensures.seat.1 in
    let ks = c.args.tokens.now.items ++ c.args.note.now ∷ [] in
    (c.take_in_all.ensures.seat.0 ∙ sym c.requires.table.0, search rules, looks_at _ _ _ _ (took_log ks _ _ c.requires.log t) (took_none ks _ _ c.requires.log t))

pub give_back-requires-clause-roles : goal.give_back-requires-clause-roles
give_back-requires-clause-roles g c =
    let ks = c.args.tokens.now.items in
    let t = all_taken c.args.seat.now.me c.take_in_lent.new.seat.me c.take_in_all.new.seat.me c.args.note.now ks c.take_in_lent.ensures.1 c.take_in_all.ensures.seat.1 in
    let count : c.len-count.result ≡ length ks = search rules in
    with_roles ks c.args.note.now c.args.seat.now.me c.take_in_all.new.seat.me c.load.new.seat.me c.requires.log t c.load.ensures.2.0 c.len-count.result count

pub give_back-requires-clause-legal : goal.give_back-requires-clause-legal
give_back-requires-clause-legal g c =
    let ks = c.args.tokens.now.items in
    let t = all_taken c.args.seat.now.me c.take_in_lent.new.seat.me c.take_in_all.new.seat.me c.args.note.now ks c.take_in_lent.ensures.1 c.take_in_all.ensures.seat.1 in
    with_legal ks c.args.note.now c.args.seat.now.me c.take_in_all.new.seat.me c.load.new.seat.me c.requires.log t c.load.ensures.2.0
    g.I.Life.catalog g.I.Life.parts g.I.Life.clients g.I.Life.limit g.I.Life.opening c.requires.legal

pub give_one-requires-clause-roles : goal.give_one-requires-clause-roles
give_one-requires-clause-roles g c =
    let ks = c.args.tokens.now.items in
    let t = all_taken c.args.seat.now.me c.take_in_lent.new.seat.me c.take_in_all.new.seat.me c.args.note.now ks c.take_in_lent.ensures.1 c.take_in_all.ensures.seat.1 in
    let count : c.len-count.result ≡ length ks = search rules in
    left_roles ks c.args.note.now c.args.seat.now.me c.take_in_all.new.seat.me c.load.new.seat.me c.requires.log t c.load.ensures.2.0 c.len-count.result c.give_back.new.seat.me count c.give_back.ensures.seat.1

pub give_one-requires-clause-legal : goal.give_one-requires-clause-legal
give_one-requires-clause-legal g c =
    let ks = c.args.tokens.now.items in
    let t = all_taken c.args.seat.now.me c.take_in_lent.new.seat.me c.take_in_all.new.seat.me c.args.note.now ks c.take_in_lent.ensures.1 c.take_in_all.ensures.seat.1 in
    let count : c.len-count.result ≡ length ks = search rules in
    left_legal ks c.args.note.now c.args.seat.now.me c.take_in_all.new.seat.me c.load.new.seat.me c.requires.log t c.load.ensures.2.0 c.len-count.result c.give_back.new.seat.me count c.give_back.ensures.seat.1
    g.I.Life.catalog g.I.Life.parts g.I.Life.clients g.I.Life.limit g.I.Life.opening c.requires.legal

pub returns-clause-log : goal.returns-clause-log
returns-clause-log g c =
    let ks = c.args.tokens.now.items in
    let t = all_taken c.args.seat.now.me c.take_in_lent.new.seat.me c.take_in_all.new.seat.me c.args.note.now ks c.take_in_lent.ensures.1 c.take_in_all.ensures.seat.1 in
    let count : c.len-count.result ≡ length ks = search rules in
    (c.give_one.ensures.seat.0, log_left ks c.args.note.now c.args.seat.now.me c.take_in_all.new.seat.me c.load.new.seat.me c.requires.log t c.load.ensures.2.0 c.len-count.result c.give_back.new.seat.me c.give_one.new.seat.me count c.give_back.ensures.seat.1 c.give_one.ensures.seat.1)

pub returns-clause-tokens : goal.returns-clause-tokens
returns-clause-tokens g c =
    let ks = c.args.tokens.now.items in
    let t = all_taken c.args.seat.now.me c.take_in_lent.new.seat.me c.take_in_all.new.seat.me c.args.note.now ks c.take_in_lent.ensures.1 c.take_in_all.ensures.seat.1 in
    let count : c.len-count.result ≡ length ks = search rules in (
      marks_told ks c.args.note.now c.args.seat.now.me c.take_in_all.new.seat.me c.load.new.seat.me c.requires.log t c.load.ensures.2.0 c.len-count.result c.give_back.new.tokens.items count c.give_back.ensures.tokens c.load.ensures.2.1,
      (both_continue ks c.args.note.now c.args.seat.now.me c.take_in_all.new.seat.me c.load.new.seat.me c.requires.log t c.load.ensures.2.0 g.I.Life.catalog g.I.Life.parts c.requires.legal.recorded c.load.ensures.2.1).0,
    )

pub returns-clause-note : goal.returns-clause-note
returns-clause-note g c =
    let ks = c.args.tokens.now.items in
    let t = all_taken c.args.seat.now.me c.take_in_lent.new.seat.me c.take_in_all.new.seat.me c.args.note.now ks c.take_in_lent.ensures.1 c.take_in_all.ensures.seat.1 in
    let count : c.len-count.result ≡ length ks = search rules in (
      note_told ks c.args.note.now c.args.seat.now.me c.take_in_all.new.seat.me c.load.new.seat.me c.requires.log t c.load.ensures.2.0 c.len-count.result c.give_back.new.seat.me c.give_one.result count c.give_back.ensures.seat.1 c.give_one.ensures.token c.load.ensures.2.1,
      (both_continue ks c.args.note.now c.args.seat.now.me c.take_in_all.new.seat.me c.load.new.seat.me c.requires.log t c.load.ensures.2.0 g.I.Life.catalog g.I.Life.parts c.requires.legal.recorded c.load.ensures.2.1).1,
    )

pub returns-clause-see : goal.returns-clause-see
returns-clause-see g c =
    let ks = c.args.tokens.now.items in
    let t = all_taken c.args.seat.now.me c.take_in_lent.new.seat.me c.take_in_all.new.seat.me c.args.note.now ks c.take_in_lent.ensures.1 c.take_in_all.ensures.seat.1 in
    let count : c.len-count.result ≡ length ks = search rules in
    see_alike ks c.args.note.now c.args.seat.now.me c.take_in_all.new.seat.me c.load.new.seat.me c.requires.log t c.load.ensures.2.0 c.len-count.result c.give_back.new.seat.me c.give_one.result c.give_back.new.tokens.items count c.give_back.ensures.seat.1 c.give_one.ensures.token c.give_back.ensures.tokens
