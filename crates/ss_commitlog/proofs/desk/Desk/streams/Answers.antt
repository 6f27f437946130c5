use Rattle.std.proofs.Common.{◌∙◌, subst, List}
use Rattle.ss_lemmas.proofs.Results.{if_ok}
use Rattle.ss_model.specs.Replays.{after}
use Rattle.ss_stream.specs.OfDatabase.{AreStreamsOf}
use Rattle.ss_commitlog.specs.declared.rule.Item.{Item}
use Rattle.ss_commitlog.specs.Meaning.{listed_of}
use Rattle.ss_commitlog.proofs.Desks.{flow_now}
use Rattle.ss_commitlog.proofs.desk.Desk.streams.Goals as goal

pub returns-clause-streams : goal.returns-clause-streams
returns-clause-streams g c =
    let are = (flow_now _ _ _ _ _ _ _ _ _ _ _ _ _ _ c.self.invariant).streams_are in
    let now = subst (λ (list : List Item). AreStreamsOf g.I.Life.catalog (after g.I.Life.catalog g.I.Life.opening (listed_of list)) c.self.inside.streams.streams) c.self.view_is are in
    if_ok _ _ (λ copy same. same ∙ now) c.duplicate.result c.duplicate.ensures
