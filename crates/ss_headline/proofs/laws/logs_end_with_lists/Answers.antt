use Rattle.ss_cmdlog.specs.Logged.{logged}
use Rattle.ss_cmdlog.specs.Store.{entries_of}
use Rattle.ss_standing.specs.Standing.{listed_entries}
use Rattle.ss_standing.proofs.CallerLemmas.{end_behind}
use Rattle.ss_fronts.specs.Fronts.{mode_of}
use Rattle.ss_headline.proofs.laws.logs_end_with_lists.Goals as goal

pub returns-clause-ends : goal.returns-clause-ends
returns-clause-ends c = λ recovery every opened now list seen behind stands.
    record { stood = now; stands = stands; ends = end_behind every (entries_of now) (entries_of opened) (logged (mode_of recovery) (listed_entries list)) behind.entries }

pub returns-clause-near : goal.returns-clause-near
returns-clause-near c = λ recovery every first list now seen ends stands near. (ends, record { stood = now; stands = stands; near = near })
