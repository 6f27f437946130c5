use Rattle.std.proofs.Common.{◌<◌, ℕ, Option, IfSome, subst}
use Rattle.ss_engine.specs.Least.{IsLeastIn}
use Rattle.ss_engine.proofs.Touching.{just_here, least_is, never_none}
use Rattle.ss_engine.proofs.engine.Engine.touched.Goals as goal

pub unreachable-requires : goal.unreachable-requires
unreachable-requires g c =
    let just = just_here g.I.Life.catalog c.self.inside.catalog g.I.Life.parts c.self.inside.parts c.args.entry.now c.touch_set-set.result c.self.invariant.catalog_is c.self.invariant.parts_are c.touch_set-set.ensures in
    never_none g.I.Life.catalog c.self.invariant.accepted g.I.Life.parts c.self.invariant.some c.args.entry.now c.touch_set-set.result c.self.inside.parts c.least_of.result just c.requires c.self.invariant.parts_are
    c.least_of.ensures.none c.in_default.is

pub returns : goal.returns
returns g c =
    let just = just_here g.I.Life.catalog c.self.inside.catalog g.I.Life.parts c.self.inside.parts c.args.entry.now c.touch_set-set.result c.self.invariant.catalog_is c.self.invariant.parts_are c.touch_set-set.ensures in
    let found = subst (λ (o : Option ℕ). IfSome o (λ p. (p < c.self.inside.parts) × IsLeastIn c.touch_set-set.result p)) c.in-Some.is c.least_of.ensures.some in
    record { least = least_is g.I.Life.catalog g.I.Life.parts c.args.entry.now c.touch_set-set.result just c.in-Some.least found.1; set = just; below = subst (λ (n : ℕ). c.in-Some.least < n) c.self.invariant.parts_are found.0 }
