-- What a window is to contracts: the units that it holds, and how many it has dropped before them.
use Rattle.std.specs.Prelude.{◌≡◌, ℕ, suc, ◌+◌, ◌-◌, ◌≤◌, ◌<◌, ◌^◌, ◌==◌, not, Bool, List, [], ◌∷◌, ◌++◌, length, take, drop, replicate, refl}
use Rattle.std.specs.List.{flat_map}
use Rattle.std.specs.Coded.{Coded, code_by, coded×, coded_ℕ, coded_list}
use Rattle.ss_value.specs.contracts.value.Value as value
use Rattle.ss_value.specs.contracts.Unit as unit
use Rattle.ss_value.specs.declared.Unit.{Unit as UnitKind}
use Rattle.ss_value.specs.Rows.{Rows}
use Rattle.ss_window.specs.Slides.{first_kept, visible_count, visible_end}

-- a window: what it counts, how many units it shows and by how many it moves on; how many units it has dropped, those
-- that it holds behind them, and how many of these were staged since it was last committed
pub record WindowValue : Type 0 where
  pub unit : UnitKind
  pub size : ℕ
  pub slide : ℕ
  pub gone : ℕ
  pub kept : List Rows
  pub fresh : ℕ

-- how units are compared
abbrev pub coded_units : Coded (List Rows)
coded_units = coded_list (coded_list (coded_list value.the_row.coded))

-- how windows are compared
abbrev pub coded_window : Coded WindowValue
coded_window = code_by (UnitKind × (ℕ × (ℕ × (ℕ × (List Rows × ℕ)))))
    (coded× unit.the_row.coded (coded× coded_ℕ (coded× coded_ℕ (coded× coded_ℕ (coded× coded_units coded_ℕ)))))
    (λ h. (h.unit, (h.size, (h.slide, (h.gone, (h.kept, h.fresh))))))
    (λ p. record { unit = p.0; size = p.1.0; slide = p.1.1.0; gone = p.1.1.1.0; kept = p.1.1.1.1.0; fresh = p.1.1.1.1.1 })
    (λ _. refl)

-- the rows of units, one unit after another
abbrev pub rows_in : List Rows → Rows
rows_in units = flat_map (λ u. u) units

-- how many units a window has had in all
abbrev pub unit_count : WindowValue → ℕ
unit_count h = h.gone + length h.kept

-- a window without a unit
abbrev pub empty_window : UnitKind → ℕ → ℕ → WindowValue
empty_window unit size slide = record { unit = unit; size = size; slide = slide; gone = 0; kept = []; fresh = 0 }

-- a window with one staged unit more
abbrev pub stage : WindowValue → Rows → WindowValue
stage h unit = record h { kept = h.kept ++ unit ∷ []; fresh = suc h.fresh }

-- whether the end of what is visible moves where a unit is staged
abbrev pub moves_end : WindowValue → Bool
moves_end h = not (visible_end h.size h.slide (unit_count h) == visible_end h.size h.slide (suc (unit_count h)))

-- how many of the units that a window holds can't be seen any more
abbrev pub outdated_count : WindowValue → ℕ
outdated_count h = first_kept h.size h.slide (unit_count h) - h.gone

-- a window without the units that can't be seen any more, and with nothing staged since
abbrev pub commit : WindowValue → WindowValue
commit h = record h { gone = first_kept h.size h.slide (unit_count h); kept = drop (outdated_count h) h.kept; fresh = 0 }

-- the rows of the visible units
abbrev pub shown_rows : WindowValue → Rows
shown_rows h = rows_in (take (visible_count h.size (unit_count h)) (drop (outdated_count h) h.kept))

-- what holds of every window: it moves on by at least one unit, and by no more than it shows; it has had no more than 2^62
-- units, and holds all that were staged since it was last committed; it has dropped what could not be seen any more at that
-- commit; and the rows that it holds have numbers of 64 bits
pub record WindowInvariant (h : WindowValue) : Type 0 where
  pub moves : 1 ≤ h.slide
  pub within : h.slide ≤ h.size
  pub bounded : unit_count h ≤ 2 ^ 62
  pub recent : h.fresh ≤ length h.kept
  pub given_up : h.gone ≡ first_kept h.size h.slide (unit_count h - h.fresh)
  pub countable : length (rows_in h.kept) < 2 ^ 64

-- all units that a window has had, with an empty one for each that it has dropped
abbrev pub all_units : WindowValue → List Rows
all_units h = replicate h.gone [] ++ h.kept
