-- What an evaluation that stops says of its meaning.
use Rattle.std.specs.Prelude.{◌≡◌, Err}
use Rattle.ss_model.specs.declared.run_error.RunError.{RunError}
use Rattle.ss_model.specs.declared.run_error.RunError.TheVariants.{NoMemory, Abort}
use Rattle.ss_model.specs.Results.{OrAbort}

-- an abort is the meaning; out of memory says nothing of it
abbrev pub StopsAs : {A : Type 0} → OrAbort A → RunError → Type 0
StopsAs meaning NoMemory = Unit {0}
StopsAs meaning (Abort reason) = meaning ≡ Err reason
