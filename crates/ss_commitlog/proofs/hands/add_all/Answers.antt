use Rattle.std.proofs.Common.{rules, refl, sym, ap, ◌∙◌, ◌≡◌, ◌+◌, subst, List, length}
use Rattle.ss_commitlog.specs.declared.rule.Item.{Item}
use Rattle.ss_commitlog.specs.Rule.{with_listed}
use Rattle.ss_commitlog.specs.Tokens.{AllKnow, added, roles_of}
use Rattle.ss_commitlog.proofs.Meeting.{adds_at, took_log, took_none, took_list, took_continue, took_added, req_roles, req_legal, log_kept, now_known}
use Rattle.ss_commitlog.proofs.hands.add_all.Goals as goal

pub compare_exchange_with-requires : goal.compare_exchange_with-requires
compare_exchange_with-requires g c =
    let t = c.take_in_all.ensures.seat in
    let ks = c.args.tokens.now.items in
    let list = took_list ks _ _ c.requires.log t.1 in (
      t.0 ∙ sym c.requires.table.0,
      search rules,
      adds_at _ _ _ _ _ c.args.listed.now (took_log ks _ _ c.requires.log t.1) (took_none ks _ _ c.requires.log t.1)
          (c.requires.place.0 ∙ ap (λ (l : List Item). c.args.table.now.shared.key.first + length l) (sym list)),
    )

pub give_back-requires-clause-roles : goal.give_back-requires-clause-roles
give_back-requires-clause-roles g c =
    let t = c.take_in_all.ensures.seat in
    let ks = c.args.tokens.now.items in
    let e = c.args.listed.now in
    let a = c.compare_exchange_with.ensures.2 e refl in
    let count : c.len-count.result ≡ length ks = search rules in
    let list = took_added ks _ _ c.requires.log t.1 e in
    req_roles ks c.args.seat.now.me c.take_in_all.new.seat.me c.compare_exchange_with.new.seat.me (with_listed c.take_in_all.new.seat.me.0.now e) (added c.args.seat.now.me.0.now.known (roles_of ks) e) _ c.requires.log t.1 a.0 refl list refl refl count

pub give_back-requires-clause-legal : goal.give_back-requires-clause-legal
give_back-requires-clause-legal g c =
    let t = c.take_in_all.ensures.seat in
    let ks = c.args.tokens.now.items in
    let e = c.args.listed.now in
    let a = c.compare_exchange_with.ensures.2 e refl in
    let count : c.len-count.result ≡ length ks = search rules in
    let list = took_added ks _ _ c.requires.log t.1 e in
    let more = c.requires.more (took_continue ks _ _ c.requires.log t.1 g.I.Life.catalog g.I.Life.parts c.requires.legal.recorded a.1) in
    req_legal ks c.args.seat.now.me c.take_in_all.new.seat.me c.compare_exchange_with.new.seat.me (with_listed c.take_in_all.new.seat.me.0.now e) (added c.args.seat.now.me.0.now.known (roles_of ks) e) _ c.requires.log t.1 a.0 refl list refl refl count g.I.Life.catalog g.I.Life.parts g.I.Life.clients g.I.Life.limit g.I.Life.opening more

pub returns-clause-log : goal.returns-clause-log
returns-clause-log g c =
    let t = c.take_in_all.ensures.seat in
    let ks = c.args.tokens.now.items in
    let e = c.args.listed.now in
    let a = c.compare_exchange_with.ensures.2 e refl in
    let count : c.len-count.result ≡ length ks = search rules in
    let list = took_added ks _ _ c.requires.log t.1 e in
    log_kept ks c.args.seat.now.me c.take_in_all.new.seat.me c.compare_exchange_with.new.seat.me (with_listed c.take_in_all.new.seat.me.0.now e) (added c.args.seat.now.me.0.now.known (roles_of ks) e) _ c.requires.log t.1 a.0 refl list refl refl count c.give_back.new.seat.me c.give_back.ensures.seat.1

pub returns-clause-tokens : goal.returns-clause-tokens
returns-clause-tokens g c =
    let t = c.take_in_all.ensures.seat in
    let ks = c.args.tokens.now.items in
    let e = c.args.listed.now in
    let a = c.compare_exchange_with.ensures.2 e refl in
    let count : c.len-count.result ≡ length ks = search rules in
    let list = took_added ks _ _ c.requires.log t.1 e in
    let all = now_known ks c.args.seat.now.me c.take_in_all.new.seat.me c.compare_exchange_with.new.seat.me (with_listed c.take_in_all.new.seat.me.0.now e) (added c.args.seat.now.me.0.now.known (roles_of ks) e) _ c.requires.log t.1 a.0 refl list refl refl count a.1 in
    (subst (AllKnow (added c.args.seat.now.me.0.now.known (roles_of ks) e) ks) (sym c.give_back.ensures.tokens) all, took_continue ks _ _ c.requires.log t.1 g.I.Life.catalog g.I.Life.parts c.requires.legal.recorded a.1)
