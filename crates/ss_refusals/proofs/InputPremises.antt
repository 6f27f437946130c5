-- The premises of the laws of an input.
use Rattle.std.proofs.Common.{[], refl, arith}
use Rattle.ss_refusals.specs.declared.input.InputError.TheVariants.{NoCatalog}
use Rattle.ss_refusals.specs.Inputs.{HasRefusal}

-- the empty input has a refusal: the catalogue is missing
pub nothing_is_refused : HasRefusal [] NoCatalog
nothing_is_refused = record { first = ((omega arith), refl); says = refl }
