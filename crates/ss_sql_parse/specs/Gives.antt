-- What a function answers is what reading gives, unless memory ran out.
use Rattle.std.specs.Prelude.{ℕ, ◌≡◌, Result, Ok, Err}
use Rattle.ss_sql_parse.specs.declared.stop.Stop.{Stop}
use Rattle.ss_sql_parse.specs.declared.stop.Stop.TheVariants as stop

-- a function stopped as reading does, with as many tokens left; or out of memory, which says nothing of reading
abbrev pub Fails : {Y : Type 0} → Stop → Result Y ℕ → Type 0
Fails stop.Memory read = Unit {0}
Fails (stop.Left n) read = read ≡ Err n

-- a function gave what reading gives, or stopped as reading does
abbrev pub Gives : {X Y : Type 0} → (X → Y) → Result X Stop → Result Y ℕ → Type 0
Gives view (Ok x) read = read ≡ Ok (view x)
Gives view (Err e) read = Fails e read
