use Rattle.std.proofs.Common.{◌∙◌, ap}
use Rattle.ss_model.specs.declared.catalog.Catalog.{Catalog}
use Rattle.ss_model.specs.declared.entry.Entry.TheVariants.{Step as StepEntry}
use Rattle.ss_model.specs.Database.{apply}
use Rattle.ss_model.specs.Nests.{nested_number}
use Rattle.serde_json.specs.Written.{compact_text}
use Rattle.ss_nest.specs.Outlines.{plain_value}
use Rattle.ss_nest.proofs.AreNests.{are_nests}
use Rattle.ss_nest.proofs.OneAnswer.{known_of, plain_of}
use Rattle.ss_nest_runs.proofs.laws.nests_that_are_read_run_as_members.Goals as goal

pub returns-clause-may_be : goal.returns-clause-may_be
returns-clause-may_be c d catalog reads =
    let plain = plain_of d reads.plain reads.nests (known_of d reads.plain reads.nests reads.passes) in
    let accepted = c.what_reads_is_accepted.ensures (plain_value d) plain.outline reads.plain plain.passes plain.limits in
    (accepted, are_nests d reads.plain reads.nests accepted reads.passes)

pub returns-clause-run : goal.returns-clause-run
returns-clause-run c d catalog reads i nest is head first h f db r =
    let may_be = returns-clause-may_be c d catalog reads in
    ap (λ (k : Catalog). apply k db (StepEntry (nested_number reads.nests head) r)) reads.joined
    ∙ c.nest_steps_run_members.ensures reads.plain may_be.0 reads.nests (compact_text d) may_be.1 i nest is head first h f db r
