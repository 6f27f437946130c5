use Rattle.ss_index.proofs.Dealing.{has_others, released}
use Rattle.ss_index.proofs.index.Index.release.Goals as goal

pub unreachable-requires : goal.unreachable-requires
unreachable-requires c =
    let s = c.self.inside in
    has_others s.columns s.first s.others.items c.args.self.now c.args.back.now c.self.view_is c.requires c.in_default.ensures.none

pub returns : goal.returns
returns c =
    let s = c.self.inside in
    let b = c.back.inside in
    (released s.columns b.columns s.first c.in-Some.part b.first s.others.items c.pop_part.new.others.items b.others.items c.args.self.now c.args.back.now c.self.invariant c.self.view_is c.back.view_is c.requires c.in-Some.ensures.some).2

pub invariant_of-self : goal.invariant_of-self
invariant_of-self c =
    let s = c.self.inside in
    let b = c.back.inside in
    (released s.columns b.columns s.first c.in-Some.part b.first s.others.items c.pop_part.new.others.items b.others.items c.args.self.now c.args.back.now c.self.invariant c.self.view_is c.back.view_is c.requires c.in-Some.ensures.some).0

pub invariant_of-back : goal.invariant_of-back
invariant_of-back c =
    let s = c.self.inside in
    let b = c.back.inside in
    (released s.columns b.columns s.first c.in-Some.part b.first s.others.items c.pop_part.new.others.items b.others.items c.args.self.now c.args.back.now c.self.invariant c.self.view_is c.back.view_is c.requires c.in-Some.ensures.some).1
