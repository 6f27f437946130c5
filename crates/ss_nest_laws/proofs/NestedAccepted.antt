-- A catalogue with nests is accepted.
use Rattle.std.proofs.Common.{List, ℕ}
use Rattle.ss_model.specs.declared.catalog.Catalog.{Catalog}
use Rattle.ss_model.specs.declared.catalog.Nest.{Nest}
use Rattle.ss_model.specs.Accepted.{Accepted, AcceptedStructure, StreamsEndWell}
use Rattle.ss_model.specs.AcceptedBodies.{AcceptedFrame}
use Rattle.ss_model.specs.Nests.{AreNests, NestedIsAccepted, nested_catalog}
use Rattle.ss_model_laws.proofs.AcceptedBodies.{joined}
use Rattle.ss_nest_laws.proofs.NestFrame.{nested_frame}
use Rattle.ss_nest_laws.proofs.NestFits.{own_bodies, other_bodies}
use Rattle.ss_nest_laws.proofs.NestSql.{triggers_typed, triggers_in_scope}
use Rattle.ss_nest_laws.proofs.NestParts.{no_arg, somewhere, owned, ranks, forward}
use Rattle.ss_nest_laws.proofs.NestStreams.{wired, inner_streams_end, fed, taken, one_consumer, no_trigger}
use Rattle.ss_nest_laws.proofs.NestLevels.{levels, one_workflow}

module _ (catalog : Catalog) (accepted : Accepted catalog) (nests : List Nest) (text : List ℕ) (are : AreNests catalog nests) where
  abbrev nested : Catalog
  nested = nested_catalog catalog nests text

  streams : StreamsEndWell nested
  streams = record {
    wired = wired catalog accepted nests text are;
    inner = inner_streams_end catalog accepted nests text are;
    fed = fed catalog accepted nests text are;
    taken = taken catalog accepted nests text are;
    one_consumer = one_consumer catalog accepted nests text are;
    no_trigger = no_trigger catalog accepted nests text are;
    one_workflow = one_workflow catalog accepted nests text are;
  }

  structure : AcceptedStructure nested
  structure = record {
    no_arg = no_arg catalog accepted nests text are;
    somewhere = somewhere catalog accepted nests text are;
    keyed = accepted.structure.keyed;
    owned = owned catalog accepted nests text are;
    streams = streams;
    levels = levels catalog accepted nests text are;
    ranks = ranks catalog accepted nests text are;
    batches_forward = forward catalog accepted nests text are;
  }

  frame : AcceptedFrame nested
  frame = record {
    form = nested_frame catalog accepted nests text are;
    triggers_typed = triggers_typed catalog accepted nests text are;
    triggers_in_scope = triggers_in_scope catalog accepted nests text are;
    structure = structure;
  }

pub nested_accepted : NestedIsAccepted
nested_accepted catalog accepted nests text are =
    joined (nested_catalog catalog nests text) (frame catalog accepted nests text are) (own_bodies catalog accepted nests text are) (other_bodies catalog accepted nests text are)
