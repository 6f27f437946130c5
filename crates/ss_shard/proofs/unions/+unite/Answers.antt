use Rattle.std.proofs.Common.{List, [], ◌∷◌, ◌++◌, sym, subst, rules}
use Rattle.ss_shard.specs.ShardValue.{ShardValue}
use Rattle.ss_shard.specs.Unions.{AreApart, WereUnited, AreStillApart}
use Rattle.ss_shard.proofs.InTurn.{one_more, may_absorb, apart_on, united, may_release, still}
use Rattle.ss_shard.proofs.unions.+unite.Goals as goal

pub absorb-requires-clause-may : goal.absorb-requires-clause-may
absorb-requires-clause-may t c =
    let a = subst (λ (l : List ShardValue). AreApart c.args.catalog.now c.args.parts c.requires.apart.0 c.args.shard.now l) c.in-Some.ensures.cases.0 c.requires.apart.1 in
    (c.requires.apart.0, may_absorb c.args.catalog.now c.args.parts c.requires.apart.0 c.args.shard.now c.in-Some.other.now c.in-Some.behind.now a)

pub unite-requires : goal.unite-requires
unite-requires t c =
    let catalog = c.args.catalog.now in
    let n = c.args.parts in
    let held = c.requires.apart.0 in
    let other = c.in-Some.other.now in
    let others = c.in-Some.behind.now in
    let a = subst (λ (l : List ShardValue). AreApart catalog n held c.args.shard.now l) c.in-Some.ensures.cases.0 c.requires.apart.1 in
    let b = c.in_ok-absorb.ensures.ok held (may_absorb catalog n held c.args.shard.now other others a) in
    (search rules, (c.requires.accepted, (c.requires.some, (held ++ other.number ∷ [], apart_on catalog n held c.args.shard.now other others a c.absorb.new.self c.absorb.new.other b, one_more held other.number))))

pub release-requires-clause-may : goal.release-requires-clause-may
release-requires-clause-may t c =
    let catalog = c.args.catalog.now in
    let n = c.args.parts in
    let held = c.requires.apart.0 in
    let shard = c.args.shard.now in
    let other = c.in-Some.other.now in
    let others = c.in-Some.behind.now in
    let a = subst (λ (l : List ShardValue). AreApart catalog n held shard l) c.in-Some.ensures.cases.0 c.requires.apart.1 in
    let b = c.in_ok-absorb.ensures.ok held (may_absorb catalog n held shard other others a) in
    let on = apart_on catalog n held shard other others a c.absorb.new.self c.absorb.new.other b in
    let s = c.in-Err.ensures.err (held ++ other.number ∷ []) (one_more held other.number) on in
    (held, may_release catalog n held shard other others a c.absorb.new.self c.absorb.new.other b c.unite.new.shard c.unite.new.others s c.requires.apart.2)

pub returns-in-Err-clause-err : goal.returns-in-Err-clause-err
returns-in-Err-clause-err t c = λ held some apart.
    let catalog = c.args.catalog.now in
    let n = c.args.parts in
    let shard = c.args.shard.now in
    let other = c.in-Some.other.now in
    let others = c.in-Some.behind.now in
    let was = c.in-Some.ensures.cases.0 in
    let a = subst (λ (l : List ShardValue). AreApart catalog n held shard l) was apart in
    let b = c.in_ok-absorb.ensures.ok held (may_absorb catalog n held shard other others a) in
    let on = apart_on catalog n held shard other others a c.absorb.new.self c.absorb.new.other b in
    let s = c.in-Err.ensures.err (held ++ other.number ∷ []) (one_more held other.number) on in
    let r = c.release.ensures held (may_release catalog n held shard other others a c.absorb.new.self c.absorb.new.other b c.unite.new.shard c.unite.new.others s some) in
    subst (λ (l : List ShardValue). AreStillApart catalog n held shard l c.release.new.self (c.release.new.back ∷ c.unite.new.others)) (sym was)
    (still catalog n held shard other others a c.absorb.new.self c.absorb.new.other b c.unite.new.shard c.unite.new.others s c.release.new.self c.release.new.back r)

pub returns-in-Ok-clause-ok : goal.returns-in-Ok-clause-ok
returns-in-Ok-clause-ok t c = λ held apart.
    let catalog = c.args.catalog.now in
    let n = c.args.parts in
    let shard = c.args.shard.now in
    let other = c.in-Some.other.now in
    let others = c.in-Some.behind.now in
    let was = c.in-Some.ensures.cases.0 in
    let a = subst (λ (l : List ShardValue). AreApart catalog n held shard l) was apart in
    let b = c.in_ok-absorb.ensures.ok held (may_absorb catalog n held shard other others a) in
    let on = apart_on catalog n held shard other others a c.absorb.new.self c.absorb.new.other b in
    let w = c.in-Ok.ensures.ok (held ++ other.number ∷ []) on in
    subst (λ (l : List ShardValue). WereUnited catalog n held shard l c.unite.new.shard (c.absorb.new.other ∷ c.unite.new.others)) (sym was)
    (united catalog n held shard other others a c.absorb.new.self c.absorb.new.other b c.unite.new.shard c.unite.new.others w)
