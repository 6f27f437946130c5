-- The homes of all procedures.
use Rattle.std.specs.Prelude.{ℕ, List, map}
use Rattle.ss_model.specs.declared.catalog.Catalog.{Catalog}
use Rattle.ss_model.specs.Partitions.{home_of}
use Rattle.ss_model.specs.Settling.{procedure_numbers}

-- the home of each procedure
abbrev pub homes_of : Catalog → ℕ → List ℕ
homes_of catalog parts = map (home_of catalog parts) (procedure_numbers catalog)
