-- Which triggers run.
use Rattle.std.specs.Prelude.{Bool}
use Rattle.ss_model.specs.declared.catalog.On.{On}
use Rattle.ss_model.specs.declared.catalog.On.TheVariants.{Stream as OnStream, Window as OnWindow}
use Rattle.ss_model.specs.Statements.{is_on_window, is_on_stream}

-- whether a trigger that waits for the second is set off by the first
abbrev pub waits_for : On → On → Bool
waits_for (OnStream n) on = is_on_stream n on
waits_for (OnWindow n) on = is_on_window n on
