-- What a body leaves, as a result of the definitions.
use Rattle.ss_model.specs.Database.{BodyResult}
use Rattle.ss_model_computed.specs.State.{contents_of}
use Rattle.ss_model_computed.specs.declared.bodies.runs.BodyResult.{BodyResult as HeldResult}

-- the result that one of the program is
abbrev pub body_result_of : HeldResult → BodyResult
body_result_of r = record { contents = contents_of r.contents; outcome = r.outcome; emitted = r.emitted }
