use Rattle.std.proofs.Common.{◌∙◌, option_map, ap, sym}
use Rattle.ss_replay.specs.Replaying.{CanTake}
use Rattle.ss_replay.proofs.CallerLemmas.{no_value}
use Rattle.ss_model.specs.Database.{apply}
use Rattle.ss_audit.proofs.Running.{has_run}
use Rattle.ss_audit.proofs.entries.run_entry.Goals as goal

pub has_value-requires-clause-on : goal.has_value-requires-clause-on
has_value-requires-clause-on g c = (c.requires.on.0, c.requires.on.3.on)

pub replay_entry-requires-clause-takes : goal.replay_entry-requires-clause-takes
replay_entry-requires-clause-takes g c =
    let on = c.requires.on in
    (on.0, record { on = on.3.on; place = on.1; had = on.3.had; few = on.2 })

pub replay_entry-requires-clause-value : goal.replay_entry-requires-clause-value
replay_entry-requires-clause-value g c = λ d takes. sym (c.has_value.ensures d takes.on) ∙ c.if-not-has_value.false

pub returns-then-not-has_value-clause-outcome : goal.returns-then-not-has_value-clause-outcome
returns-then-not-has_value-clause-outcome g c = λ d place few on.
    ap (option_map (λ a. a.outcome)) (no_value (apply c.args.catalog.now d c.args.entry.now) (sym (c.has_value.ensures d on.on) ∙ c.if-not-has_value.true))

pub returns-clause-outcome : goal.returns-clause-outcome
returns-clause-outcome g c = λ d place few on.
    let takes : CanTake c.args.catalog.now c.args.database.now d = record { on = on.on; place = place; had = on.had; few = few } in
    has_run c.args.catalog.now c.requires.accepted d place c.args.database.now c.replay_entry.new.database c.args.entry.now c.in_ok-outcome.outcome on (c.in_ok-outcome.ensures.outcome d takes) (c.in_ok-outcome.ensures.stands d takes)
