-- How the store of a run is had again behind a crash.
use Rattle.std.specs.Prelude.{ℕ, List}
use Rattle.ss_model.specs.declared.entry.Listed.{Listed}
use Rattle.ss_model.specs.Database.{Database}

-- Where the history of a run on a weak store begins: the place and the database that the store is read as at the opening, and the list
-- that its calls and pushes led to. The run's own list stands behind that one.
pub record Origin : Type 0 where
  pub place : ℕ
  pub db : Database
  pub known : List Listed

-- by the whole list, or by what clients asked for behind an origin
pub data Recovery : Type 0 where
  Strong : Recovery
  Weak : Origin → Recovery
