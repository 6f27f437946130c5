-- Where the live rows of every table stand.
use Rattle.std.specs.Prelude.{◌≡◌, ℕ, ◌%◌, List, ◌∷◌, Some}
use Rattle.std.specs.FinMap as finite
use Rattle.ss_value.specs.Rows.{Row}
use Rattle.ss_table.specs.TableValue.{TableValue}
use Rattle.ss_table.specs.Routes.{part_of, place_among, place_of}
use Rattle.ss_table.specs.Parts.{AreApart}

-- a table has a part at least, and no part twice; the slot of each live row is of one of its parts, the one in which the row's key is at home
pub record ArePlaced (h : TableValue) : Type 0 where
  pub first : ℕ
  pub rest : List ℕ
  pub parts : h.parts ≡ first ∷ rest
  pub apart : AreApart 0 h.parts h.parts
  pub slots : (key : Row) (slot : ℕ) (row : Row) → finite.get h.live key ≡ Some (slot, row) → place_among h.parts (slot % 8) ≡ Some (place_of h.parts (part_of h.route key))
