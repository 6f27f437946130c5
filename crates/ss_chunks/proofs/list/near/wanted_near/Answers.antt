use Rattle.std.proofs.Common.{sym, ◌∙◌}
use Rattle.ss_chunks.proofs.Nearby.{near}
use Rattle.ss_chunks.proofs.list.near.wanted_near.Goals as goal

pub returns-in-Some : goal.returns-in-Some
returns-in-Some g c =
    near (g.W.Wanted.wants c.args.wanted.now) c.args.items.now c.split_at.result.0.now c.split_at-2.result.1.now c.min-high.result c.min-low.result c.in-Some.at c.split_at.ensures.front c.split_at-2.ensures.back (sym c.wanted_in.ensures ∙ c.in-Some.is)
