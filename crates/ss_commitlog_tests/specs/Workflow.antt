-- A small workflow: a stream with one border procedure on part 0, and a call procedure on part 1.
use Rattle.std.specs.Prelude.{codes, List, [], ◌∷◌}
use Rattle.ss_value.specs.declared.schema.ColType.TheVariants.{Int as IntColumn}
use Rattle.ss_model.specs.declared.catalog.Catalog.{Catalog}
use Rattle.ss_model.specs.declared.catalog.ProcedureKind.TheVariants.{Call as CallKind, Border}
use Rattle.ss_model.specs.declared.catalog.Procedure.{Procedure}
use Rattle.ss_model.specs.declared.catalog.StreamDef.{StreamDef}
use Rattle.ss_model.specs.declared.catalog.Touch.TheVariants.{Part}
use Rattle.ss_model.specs.declared.entry.Entry.TheVariants.{Call, Push, Step}
use Rattle.ss_model.specs.declared.entry.Outcome.TheVariants.{Done}
use Rattle.ss_model.specs.declared.entry.Listed.{Listed}
use Rattle.ss_model.specs.declared.entry.Emitted.{Emitted}

abbrev pub stream : StreamDef
stream = record { name = codes "s"; schema = record { name = codes "x"; kind = IntColumn } ∷ [] }

-- the border procedure, which takes the stream and does nothing
abbrev pub taker : Procedure
taker = record { name = codes "a"; kind = Border; args = []; inputs = 0 ∷ []; inner = []; touch = Part 0; body = [] }

-- the call procedure, which does nothing either
abbrev pub note : Procedure
note = record { name = codes "note"; kind = CallKind; args = []; inputs = []; inner = []; touch = Part 1; body = [] }

abbrev pub workflow : Catalog
workflow = record { tables = []; streams = stream ∷ []; windows = []; triggers = []; procedures = taker ∷ note ∷ []; own_texts = []; spares = []; text = [] }

-- client 0 pushes an empty batch
abbrev pub push : Listed
push = record { entry = Push 0 0 0 (codes "k") 0 []; outcome = Done [] }

-- its batch
abbrev pub pushed : List Emitted
pushed = record { stream = 0; rows = [] } ∷ []

-- the border procedure takes it
abbrev pub step : Listed
step = record { entry = Step 0 0; outcome = Done [] }

-- client 1 calls
abbrev pub call : Listed
call = record { entry = Call 1 0 1 []; outcome = Done [] }
