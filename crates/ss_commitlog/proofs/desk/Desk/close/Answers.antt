use Rattle.std.proofs.Common.{sym, subst, List}
use Rattle.ss_model.specs.Replays.{Replays}
use Rattle.ss_model.specs.Orders.{Orders}
use Rattle.ss_commitlog.specs.Tokens.{Known, AllSaw}
use Rattle.ss_commitlog.proofs.Desks.{replays_now, orders_now}
use Rattle.ss_commitlog.proofs.desk.Desk.close.Goals as goal

pub returns-clause-legal : goal.returns-clause-legal
returns-clause-legal g c =
    let same = c.into_seq.ensures in (
      subst (Replays g.I.Life.catalog g.I.Life.opening) (sym same) (replays_now _ _ _ _ _ _ _ _ _ _ _ _ _ _ c.self.invariant),
      subst (Orders g.I.Life.catalog g.I.Life.opening) (sym same) (orders_now _ _ _ _ _ _ _ _ _ _ _ _ _ _ c.self.invariant),
    )

pub returns-clause-seen : goal.returns-clause-seen
returns-clause-seen g c = subst (λ (ks : List Known). AllSaw c.args.note ks) c.into_vec.ensures c.end_all.ensures.seen
