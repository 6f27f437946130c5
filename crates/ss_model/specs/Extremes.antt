-- When a value replaces the best one so far.
use Rattle.std.specs.Prelude.{Bool}
use Rattle.std.specs.declared.cmp.Ordering.{Ordering}
use Rattle.std.specs.Ordering.{is_lt, is_gt}
use Rattle.ss_model.specs.declared.extreme.Extreme.{Extreme}
use Rattle.ss_model.specs.declared.extreme.Extreme.TheVariants.{Least, Greatest}

-- whether a value replaces another one that it compares so with: a lesser one for the least, a greater one for the greatest
abbrev pub beats : Extreme → Ordering → Bool
beats Least = is_lt
beats Greatest = is_gt
