use Rattle.std.proofs.Common.{◌≡◌, ◌∙◌, map, rules}
use Rattle.ss_model.proofs.CallerLemmas.{few_procedures}
use Rattle.ss_snapshot.specs.Streams.{as_kept}
use Rattle.ss_snapshot.proofs.ResumedStreams.{are_made, can_be_made}
use Rattle.ss_snapshot.proofs.reading.resumed.resumed_streams.Goals as goal

pub consumers-requires : goal.consumers-requires
consumers-requires c = few_procedures c.args.catalog.now c.requires.accepted.form

pub resume-requires : goal.resume-requires
resume-requires c =
    let lent : c.as_slice.result.now ≡ c.in_ok-takers.takers = search rules in
    can_be_made c.args.catalog.now c.requires.accepted (map as_kept c.args.streams) c.args.counts.now c.as_slice.result.now c.in_ok-lists.lists
    (lent ∙ c.in_ok-takers.ensures) c.in_ok-lists.ensures c.requires.kept.0 c.requires.kept.1

pub returns : goal.returns
returns c =
    let lent : c.as_slice.result.now ≡ c.in_ok-takers.takers = search rules in
    λ d are.
    are_made c.args.catalog.now c.requires.accepted (map as_kept c.args.streams) c.args.counts.now c.as_slice.result.now c.in_ok-lists.lists
    (lent ∙ c.in_ok-takers.ensures) c.in_ok-lists.ensures d are c.in-Ok.made.streams c.in-Ok.ensures.ok
