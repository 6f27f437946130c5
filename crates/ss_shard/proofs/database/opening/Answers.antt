use Rattle.ss_model.specs.Database.{empty_database}
use Rattle.ss_model.proofs.CallerLemmas.{few_procedures}
use Rattle.ss_shard.proofs.OpeningLemmas.{sound_windows}
use Rattle.ss_shard.proofs.database.opening.Goals as goal

pub blanks-requires-clause-sound : goal.blanks-requires-clause-sound
blanks-requires-clause-sound c = sound_windows c.args.catalog.now c.requires.accepted

pub empty_streams-requires : goal.empty_streams-requires
empty_streams-requires c = few_procedures c.args.catalog.now c.requires.accepted.form

pub returns-clause-stands : goal.returns-clause-stands
returns-clause-stands c = record {
  shard = c.in-Ok.ensures.ok.holds (empty_database c.args.catalog.now) c.in_ok-shards.ensures.hold;
  streams = c.in_ok-streams.ensures;
}

pub returns-clause-whole : goal.returns-clause-whole
returns-clause-whole c = λ whole. record {
  committed = c.in-Ok.ensures.ok.whole_is.parts.committed;
  number = c.in-Ok.ensures.ok.whole_is.number;
  stands = (empty_database c.args.catalog.now, returns-clause-stands c, whole);
}
