-- The procedures in which a trigger runs.
use Rattle.std.specs.Prelude.{◌==◌, ℕ, Bool, false, Option, Some, None}
use Rattle.ss_model.specs.declared.catalog.Catalog.{Catalog}
use Rattle.ss_model.specs.declared.catalog.On.{On}
use Rattle.ss_model.specs.declared.catalog.On.TheVariants.{Stream as OnStream, Window as OnWindow}
use Rattle.ss_model.specs.Contents.{window_owner}
use Rattle.ss_model.specs.Orders.{procedure_emits}

-- an owner is this procedure
abbrev pub is_owner : ℕ → Option ℕ → Bool
is_owner q None = false
is_owner q (Some owner) = owner == q

-- a trigger that waits for this runs in each procedure that emits to the stream, or in the owner of the window
abbrev pub runs_in : Catalog → On → ℕ → Bool
runs_in catalog (OnStream s) q = procedure_emits catalog q s
runs_in catalog (OnWindow w) q = is_owner q (window_owner catalog w)
