-- The units of a window that was read.
use Rattle.std.proofs.Common.{◌≡◌, ◌∙◌, ℕ, ◌+◌, ◌≤◌, ◌^◌, ◌==◌, nat_le, List, [], ◌∷◌, drop, length, Ok, refl, ap, arith, length-append}
use Rattle.std.specs.List.{flat_map}
use Rattle.ss_value.specs.declared.schema.Column.{Column}
use Rattle.ss_value.specs.declared.Unit.{Unit as UnitKind}
use Rattle.ss_value.specs.Rows.{Rows}
use Rattle.ss_model.specs.declared.catalog.WindowDef.{WindowDef}
use Rattle.ss_model.specs.Contents.{first_kept}
use Rattle.ss_record.specs.Numbers.{IsBytes, number_bytes}
use Rattle.ss_record.specs.Spelling.{row_bytes}
use Rattle.ss_record.proofs.CallerLemmas.{respelled_4, respelled_8}
use Rattle.ss_cmdlog.proofs.CallerLemmas.{read_so}
use Rattle.ss_standing.specs.Image.{counted_rows}
use Rattle.ss_standing.specs.ImageForm.{counted, is_unit, number_where, rows_of, window_of}
use Rattle.ss_standing.proofs.Exact.{many_exact}
use Rattle.ss_standing.proofs.ImageParts.{AreRowsOf, number_where_exact, rows_of_exact}
use Rattle.ss_window.specs.WindowValue.{WindowInvariant, WindowValue, outdated_count, rows_in, unit_count}
use Rattle.ss_window.specs.Slides.{first_kept as first_in_window}
use Rattle.ss_shard.specs.Windows.{kept_part}
use Rattle.ss_snapshot.specs.ImageParts.{many_units}
use Rattle.ss_snapshot.specs.Windows.{IsRestored}
use Rattle.ss_snapshot.proofs.Readings.{counted_ok, followed_ok}

-- each row takes a byte
row_long : (rows : Rows) → length rows ≤ length (flat_map row_bytes rows)
row_long [] = omega arith
row_long (row ∷ rows) = omega (arith, row_long rows, length-append (row_bytes row) (flat_map row_bytes rows))

units_long : (units : List Rows) → length (rows_in units) ≤ length (flat_map (counted_rows 8) units)
units_long [] = omega arith
units_long (unit ∷ units) =
    omega (arith, units_long units, row_long unit, length-append unit (rows_in units), length-append (counted_rows 8 unit) (flat_map (counted_rows 8) units), length-append (number_bytes 8 (length unit)) (flat_map row_bytes unit))

-- the units that were read have no more rows than the bytes that they were read from
pub units_countable : (kind : UnitKind) (schema : List Column) (n : ℕ) (bytes : List ℕ) (units : List Rows) (rest : List ℕ) → IsBytes bytes → many_units kind schema n bytes ≡ Ok (units, rest) → length (rows_in units) ≤ length bytes
units_countable kind schema n bytes units rest are is =
    let takes =
    (many_exact (λ s unit. s) (λ (s : Unit {0}). rows_of 8 (is_unit kind) schema) (counted_rows 8) (λ s unit. AreRowsOf 8 (is_unit kind) schema unit) (λ s. rows_of_exact 8 respelled_8 (is_unit kind) schema) n tt).takes
    bytes units rest are is in
    omega (arith, units_long units, ap (λ (l : List ℕ). length l) takes.0, length-append (flat_map (counted_rows 8) units) rest)

-- so do those behind the numbers of a window
pub window_countable : (d : WindowDef) (bytes : List ℕ) (had : ℕ) (first : List ℕ) (n : ℕ) (second : List ℕ) (units : List Rows) (rest : List ℕ) → IsBytes bytes
    → number_where 8 (λ k. nat_le k (2 ^ 62)) bytes ≡ read_so had first → number_where 4 (λ n. first_kept d had + n == had) first ≡ read_so n second
    → many_units d.unit d.schema n second ≡ Ok (units, rest) → length (rows_in units) ≤ length second
window_countable d bytes had first n second units rest are one two is =
    let behind = (number_where_exact 8 respelled_8 (λ k. nat_le k (2 ^ 62))).takes bytes had first are one in
    let further = (number_where_exact 4 respelled_4 (λ n. first_kept d had + n == had)).takes first n second behind.1 two in
    units_countable d.unit d.schema n second units rest further.1 is

-- a window that was read, part by part
pub window_read : (d : WindowDef) (bytes : List ℕ) (had : ℕ) (first : List ℕ) (n : ℕ) (second : List ℕ) (units : List Rows) (rest : List ℕ)
    → number_where 8 (λ k. nat_le k (2 ^ 62)) bytes ≡ read_so had first → number_where 4 (λ n. first_kept d had + n == had) first ≡ read_so n second
    → many_units d.unit d.schema n second ≡ read_so units rest → window_of d bytes ≡ Ok ((had, units), rest)
window_read d bytes had first n second units rest one two is =
    followed_ok (number_where 8 (λ k. nat_le k (2 ^ 62)))
    (λ k. counted 4 (λ n. first_kept d k + n == k) (λ s unit. s) (λ (s : Unit {0}). rows_of 8 (is_unit d.unit) d.schema) tt) bytes had first one units rest
    (counted_ok 4 (λ n. first_kept d had + n == had) (λ s unit. s) (λ (s : Unit {0}). rows_of 8 (is_unit d.unit) d.schema) tt first n second units rest two is)

-- a window that has had so many units, and holds those that may still be seen
abbrev pub resumed : WindowDef → ℕ → List Rows → WindowValue
resumed d had kept = record { unit = d.unit; size = d.size; slide = d.slide; gone = first_in_window d.size d.slide had; kept = kept; fresh = 0 }

drop_none : (units : List Rows) → drop 0 units ≡ units
drop_none [] = refl
drop_none (unit ∷ units) = refl

module _ (d : WindowDef) (had : ℕ) (kept : List Rows) (many : first_kept d had + length kept ≡ had) where
  abbrev window : WindowValue
  window = resumed d had kept

  as_many : unit_count window ≡ had
  as_many = many

  none_outdated : outdated_count window ≡ 0
  none_outdated = let same = ap (first_in_window d.size d.slide) as_many in omega (arith, same)

  pub keeps : kept_part window ≡ (had, kept)
  keeps = (λ i. (as_many i, drop (none_outdated i) kept)) ∙ (λ i. (had, drop_none kept i))

  pub restores : WindowInvariant window → IsRestored d window
  restores held = record {
    frame = refl;
    held = held;
    committed =
        (λ i. record window { gone = first_in_window d.size d.slide (as_many i); kept = drop (none_outdated i) kept; fresh = 0 })
        ∙ (λ i. record window { kept = drop_none kept i });
  }
