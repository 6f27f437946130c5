-- What a table is to contracts: its live rows by key, each with its slot, its dead slots, and the parts that it has.
use Rattle.std.specs.Prelude.{ℕ, nat_le, List, Bool, false, Option, Some, None, refl}
use Rattle.std.specs.FinMap as finite
use Rattle.std.specs.Coded.{Coded, code_by, coded×, coded_ℕ, coded_list, coded_option}
use Rattle.ss_value.specs.RowCodes.{coded_row}
use Rattle.ss_value.specs.Rows.{Row}
use Rattle.ss_table.specs.declared.route.Route.{Route}
use Rattle.ss_table.specs.contracts.route.Route as route
-- rows by key are to a table what they are to each of its fragments
pub use Rattle.ss_fragment.specs.FragmentValue.{key_of, HasKey, LiveRows, DeadRows, row_among, row_at, first_in, after_in}

-- a table: its key columns, the most live rows that it may have, its rows, how they are dealt to parts, and its parts
pub record TableValue : Type 0 where
  pub key : List ℕ
  pub limit : Option ℕ
  pub live : LiveRows
  pub dead : DeadRows
  pub route : Route
  pub parts : List ℕ

-- how tables are compared
abbrev pub coded_table : Coded TableValue
coded_table = code_by (List ℕ × (Option ℕ × (LiveRows × (DeadRows × (Route × List ℕ)))))
    (coded× (coded_list coded_ℕ) (coded× (coded_option coded_ℕ) (coded× (finite.code coded_row (coded× coded_ℕ coded_row))
    (coded× (finite.code coded_ℕ coded_row) (coded× route.the_row.coded (coded_list coded_ℕ))))))
    (λ h. (h.key, (h.limit, (h.live, (h.dead, (h.route, h.parts))))))
    (λ p. record { key = p.0; limit = p.1.0; live = p.1.1.0; dead = p.1.1.1.0; route = p.1.1.1.1.0; parts = p.1.1.1.1.1 }) (λ _. refl)

-- whether n rows reach the limit, if there is one
abbrev pub is_at_limit : Option ℕ → ℕ → Bool
is_at_limit None n = false
is_at_limit (Some limit) n = nat_le limit n

-- a table with one row more, in a slot that neither a live nor a dead row has
abbrev pub insert : TableValue → ℕ → Row → TableValue
insert h slot row = record h { live = finite.insert h.live (key_of h.key row) (slot, row) }

-- a table with a live slot of this row made dead, and as it was where there is no row
abbrev pub mark_dead_row : TableValue → ℕ → Option Row → TableValue
mark_dead_row h slot None = h
mark_dead_row h slot (Some row) = record h { live = finite.remove h.live (key_of h.key row); dead = finite.insert h.dead slot row }

-- a table with a live slot made dead
abbrev pub mark_dead : TableValue → ℕ → TableValue
mark_dead h slot = mark_dead_row h slot (row_at h.live slot)

-- a table with a dead slot of this row made live, and as it was where there is no row
abbrev pub unmark_row : TableValue → ℕ → Option Row → TableValue
unmark_row h slot None = h
unmark_row h slot (Some row) = record h { live = finite.insert h.live (key_of h.key row) (slot, row); dead = finite.remove h.dead slot }

-- a table with a dead slot made live
abbrev pub unmark : TableValue → ℕ → TableValue
unmark h slot = unmark_row h slot (finite.get h.dead slot)

-- a table with another row of the same key in a live slot
abbrev pub replace : TableValue → ℕ → Row → TableValue
replace h slot row = record h { live = finite.insert h.live (key_of h.key row) (slot, row) }

-- a table without a live row, and as it was where there is none
abbrev pub remove_fresh_row : TableValue → Option Row → TableValue
remove_fresh_row h None = h
remove_fresh_row h (Some row) = record h { live = finite.remove h.live (key_of h.key row) }

-- a table with a live slot freed
abbrev pub remove_fresh : TableValue → ℕ → TableValue
remove_fresh h slot = remove_fresh_row h (row_at h.live slot)

-- a table with a dead slot freed
abbrev pub purge : TableValue → ℕ → TableValue
purge h slot = record h { dead = finite.remove h.dead slot }
