use Rattle.std.proofs.Common.{◌≡◌, [], sym, ap}
use Rattle.ss_table.specs.TableValue.{TableValue}
use Rattle.ss_table.proofs.Released.{lent_more, self_kept, back_kept, own_again, parted}
use Rattle.ss_table.proofs.table.Table.release.Goals as goal

pub unreachable-requires : goal.unreachable-requires
unreachable-requires c =
    let t = c.self.inside in
    absurd (lent_more t.first t.others c.args.self.now c.args.back.now (ap (λ (x : TableValue). x.parts) c.self.view_is) c.requires.lent c.in-None.ensures.none.0)

pub invariant_of-self : goal.invariant_of-self
invariant_of-self c =
    let t = c.self.inside in
    let o = c.back.inside in
    self_kept t.limit o.limit t.route o.route t.first t.others c.pop.new.self c.in-Some.part o.first o.others c.args.self.now c.args.back.now c.self.invariant c.self.view_is c.back.view_is c.in-Some.ensures.some c.requires.lent c.requires.settled

pub invariant_of-back : goal.invariant_of-back
invariant_of-back c =
    let t = c.self.inside in
    let o = c.back.inside in
    back_kept t.limit o.limit t.route o.route t.first t.others c.pop.new.self c.in-Some.part o.first o.others c.args.self.now c.args.back.now c.self.invariant c.self.view_is c.back.view_is c.in-Some.ensures.some c.requires.lent c.requires.settled

pub returns-clause-parted : goal.returns-clause-parted
returns-clause-parted c =
    let t = c.self.inside in
    let o = c.back.inside in
    parted t.limit o.limit t.route o.route t.first t.others c.pop.new.self c.in-Some.part o.first o.others c.args.self.now c.args.back.now c.self.invariant c.self.view_is c.back.view_is c.in-Some.ensures.some c.requires.lent c.requires.settled

pub returns-clause-limits : goal.returns-clause-limits
returns-clause-limits c = (ap (λ (x : TableValue). x.limit) c.self.view_is, ap (λ (x : TableValue). x.limit) c.back.view_is)

pub returns-clause-own : goal.returns-clause-own
returns-clause-own c =
    let t = c.self.inside in
    let o = c.back.inside in
    own_again t.limit o.limit t.route o.route t.first t.others c.pop.new.self c.in-Some.part o.first o.others c.args.self.now c.args.back.now c.self.invariant c.self.view_is c.back.view_is c.in-Some.ensures.some c.requires.lent c.requires.settled
