use Rattle.std.proofs.Common.{rules, refl, sym, ◌∙◌, ◌≡◌, subst, length}
use Rattle.ss_commitlog.specs.Tokens.{AllKnow}
use Rattle.ss_commitlog.proofs.Meeting.{looks_at, took_log, took_none, took_list, took_continue, req_roles, req_legal, log_kept, now_known}
use Rattle.ss_commitlog.proofs.hands.show_all.Goals as goal

pub load-requires : goal.load-requires
load-requires g c =
    let t = c.take_in_all.ensures.seat in
    let ks = c.args.tokens.now.items in
    (t.0 ∙ sym c.requires.table.0, search rules, looks_at _ _ _ _ (took_log ks _ _ c.requires.log t.1) (took_none ks _ _ c.requires.log t.1))

pub give_back-requires-clause-roles : goal.give_back-requires-clause-roles
give_back-requires-clause-roles g c =
    let t = c.take_in_all.ensures.seat in
    let ks = c.args.tokens.now.items in
    let count : c.len-count.result ≡ length ks = search rules in
    req_roles ks c.args.seat.now.me c.take_in_all.new.seat.me c.load.new.seat.me c.take_in_all.new.seat.me.0.now c.args.seat.now.me.0.now.known _ c.requires.log t.1 c.load.ensures.2.0 refl (took_list ks _ _ c.requires.log t.1) refl refl count

pub give_back-requires-clause-legal : goal.give_back-requires-clause-legal
give_back-requires-clause-legal g c =
    let t = c.take_in_all.ensures.seat in
    let ks = c.args.tokens.now.items in
    let count : c.len-count.result ≡ length ks = search rules in
    req_legal ks c.args.seat.now.me c.take_in_all.new.seat.me c.load.new.seat.me c.take_in_all.new.seat.me.0.now c.args.seat.now.me.0.now.known _ c.requires.log t.1 c.load.ensures.2.0 refl (took_list ks _ _ c.requires.log t.1) refl refl count g.I.Life.catalog g.I.Life.parts g.I.Life.clients g.I.Life.limit g.I.Life.opening c.requires.legal

pub returns-clause-log : goal.returns-clause-log
returns-clause-log g c =
    let t = c.take_in_all.ensures.seat in
    let ks = c.args.tokens.now.items in
    let count : c.len-count.result ≡ length ks = search rules in
    log_kept ks c.args.seat.now.me c.take_in_all.new.seat.me c.load.new.seat.me c.take_in_all.new.seat.me.0.now c.args.seat.now.me.0.now.known _ c.requires.log t.1 c.load.ensures.2.0 refl (took_list ks _ _ c.requires.log t.1) refl refl count c.give_back.new.seat.me c.give_back.ensures.seat.1

pub returns-clause-tokens : goal.returns-clause-tokens
returns-clause-tokens g c =
    let t = c.take_in_all.ensures.seat in
    let ks = c.args.tokens.now.items in
    let count : c.len-count.result ≡ length ks = search rules in
    let all = now_known ks c.args.seat.now.me c.take_in_all.new.seat.me c.load.new.seat.me c.take_in_all.new.seat.me.0.now c.args.seat.now.me.0.now.known _ c.requires.log t.1 c.load.ensures.2.0 refl (took_list ks _ _ c.requires.log t.1) refl refl count c.load.ensures.2.1 in
    (subst (AllKnow c.args.seat.now.me.0.now.known ks) (sym c.give_back.ensures.tokens) all, took_continue ks _ _ c.requires.log t.1 g.I.Life.catalog g.I.Life.parts c.requires.legal.recorded c.load.ensures.2.1)
