use Rattle.ss_model.specs.Accepted.{Accepted}
use Rattle.ss_model.specs.AcceptedBodies.{OtherBodies}
use Rattle.ss_nest.specs.Reads.{WasNested}
use Rattle.ss_run_bench.proofs.Fitting.{EachFits}
use Rattle.ss_run_bench.proofs.input.requests_at.Given as goal

abbrev pub invariant-loop-line : goal.invariant-loop-line
invariant-loop-line l = record {
  accepted : Accepted l.catalog;
  was_read : WasNested l.catalog;
  spares : OtherBodies l.catalog;
  fit : EachFits l.catalog l.requests;
}
