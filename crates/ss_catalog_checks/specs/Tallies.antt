-- How many procedures are counted at each stream, each of them once.
use Rattle.std.specs.Prelude.{◌≡◌, ◌≤◌, ◌&&◌, nat_lt, cond, ℕ, suc, Bool, true, List, get_or, slice_get}
use Rattle.std.specs.List.{count_by}
use Rattle.ss_model.specs.declared.catalog.Catalog.{Catalog}
use Rattle.ss_model.specs.declared.catalog.ProcedureKind.{ProcedureKind}
use Rattle.ss_model.specs.Database.{is_border, takes_stream}
use Rattle.ss_model.specs.Orders.{procedure_has}
use Rattle.ss_catalog_checks.specs.declared.tallies.Count.{Count}
use Rattle.ss_catalog_checks.specs.declared.tallies.Takers.{Takers}
use Rattle.ss_catalog_checks.specs.declared.tallies.Takers.TheVariants.{All, Border, Interior}
use Rattle.ss_catalog_checks.specs.declared.tallies.StreamEnds.{StreamEnds}
use Rattle.ss_catalog_checks.specs.StreamEnds.{is_interior, emitters, consumers, border_consumers, interior_consumers}

-- no procedure is counted
abbrev pub no_count : Count
no_count = record { count = 0; below = 0 }

-- one more procedure is counted, unless this mark is counted already
abbrev pub count_with : ℕ → Count → Count
count_with mark t = cond (nat_lt t.below mark) (record { count = suc t.count; below = mark }) t

-- one more is counted where a test passes
abbrev pub tally : Bool → ℕ → Count → Count
tally passes mark t = cond passes (count_with mark t) t

-- what is counted at a stream
abbrev pub count_at : List Count → ℕ → Count
count_at tallies s = get_or tallies s no_count

-- at each stream no more procedures are counted than there are numbers below its mark
abbrev pub StayBelow : List Count → Type 0
StayBelow tallies = (s : ℕ) → (count_at tallies s).count ≤ (count_at tallies s).below

-- at each stream as many procedures are counted as wanted
abbrev pub CountsAre : (ℕ → ℕ) → List Count → Type 0
CountsAre wanted tallies = (s : ℕ) → (count_at tallies s).count ≡ wanted s

-- procedures of this kind are counted
abbrev pub is_counted : Takers → ProcedureKind → Bool
is_counted All kind = true
is_counted Border kind = is_border kind
is_counted Interior kind = is_interior kind

-- the procedure of a number is of these kinds and takes a stream
abbrev pub procedure_takes : Takers → Catalog → ℕ → ℕ → Bool
procedure_takes kinds catalog q s = procedure_has (λ p. is_counted kinds p.kind && takes_stream s p) (slice_get catalog.procedures q)

-- how many procedures of these kinds take a stream
abbrev pub takers : Takers → Catalog → ℕ → ℕ
takers kinds catalog s = count_by (λ p. is_counted kinds p.kind && takes_stream s p) catalog.procedures

-- the counts are those of the ends of all streams
pub record CountsEnds (catalog : Catalog) (ends : StreamEnds) : Type 0 where
  pub emitters_counted : CountsAre (emitters catalog) ends.emitters
  pub consumers_counted : CountsAre (consumers catalog) ends.consumers
  pub border_counted : CountsAre (border_consumers catalog) ends.border_consumers
  pub interior_counted : CountsAre (interior_consumers catalog) ends.interior_consumers
