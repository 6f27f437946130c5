-- What holds of tables, streams, windows and triggers that are read.
use Rattle.std.proofs.Common.{◌≡◌, ◌&&◌, ℕ, List, [], true, Ok, IfOk, arith}
use Rattle.std.specs.Prelude.{codes, nat_le, nat_lt, ⊤}
use Rattle.std.specs.List.{AllByRecursion}
use Rattle.serde_json.specs.Data.{Data}
use Rattle.std.proofs.lemmas.Bool.{and_parts, leb-true, lt-ltb, cond_both}
use Rattle.ss_catalog_outline.specs.declared.types.PlacementOutline.{PlacementOutline}
use Rattle.ss_catalog_outline.specs.declared.types.PlacementOutline.TheVariants.{Part, By}
use Rattle.ss_catalog_outline.specs.declared.types.TableOutline.{TableOutline}
use Rattle.ss_catalog_outline.specs.declared.types.StreamOutline.{StreamOutline}
use Rattle.ss_catalog_outline.specs.declared.types.WindowOutline.{WindowOutline}
use Rattle.ss_catalog_outline.specs.declared.types.TriggerOutline.{TriggerOutline}
use Rattle.ss_catalog_json.specs.declared.json_readers.ItemCount.TheVariants.{Any}
use Rattle.ss_catalog_json.specs.Readings.{read_between, read_array_of, read_word, has_key, object_of, read_key_or, read_name}
use Rattle.ss_catalog_outline.specs.Tables.{read_part, read_unit, read_placement, table_object, stream_keys, trigger_keys, window_keys, read_words, read_columns, read_column, read_table, read_stream, read_window, read_trigger}
use Rattle.ss_catalog_laws.proofs.Readings.{then_any, then_with, then_key, then_key_with, where_holds, holds_with, key_or_holds, array_holds, some_holds, IsSome}

-- a number between two
abbrev pub IsBetween : ℕ → ℕ → ℕ → Type 0
IsBetween low high n = (nat_le low n && nat_le n high) ≡ true

pub between_holds : (low high : ℕ) (d : Data) → IfOk (read_between low high d) (IsBetween low high)
between_holds low high d = then_any ℕ (IsBetween low high) _ _ (λ n. where_holds (IsBetween low high) (nat_le low n && nat_le n high) (Ok n) (λ is. is))

-- a part
abbrev pub IsPart : ℕ → Type 0
IsPart x = nat_lt x 8 ≡ true

part_within : (x : ℕ) → IsBetween 0 7 x → IsPart x
part_within x is = let most = leb-true x 7 ((and_parts (nat_le 0 x) (nat_le x 7) is).1) in lt-ltb x 8 (omega arith)

pub part_holds : (d : Data) → IfOk (read_part d) IsPart
part_holds d = holds_with (IsBetween 0 7) IsPart part_within (read_part d) (between_holds 0 7 d)

-- ---- tables

abbrev pub IsPlace : PlacementOutline → Type 0
IsPlace (Part x) = IsPart x
IsPlace (By name) = Unit {0}

placement_holds : (d : Data) → IfOk (read_placement d) IsPlace
placement_holds d =
    cond_both (has_key (codes "part") d) _ _ (λ r. IfOk r IsPlace)
    (λ there. then_key_with IsPlace read_part (codes "part") d (λ p. Ok (Part p)) IsPart part_holds (λ x p. p))
    (λ missing. then_key IsPlace read_word (codes "by") d (λ c. Ok (By c)) (λ c. tt))

pub record TableRead (t : TableOutline) : Type 0 where
  pub columns : IsSome t.columns
  pub key : IsSome t.key
  pub placement : IsPlace t.placement
  pub indexes : AllByRecursion IsSome t.indexes

pub table_read : (d : Data) → IfOk (read_table d) TableRead
table_read d =
    then_any ⊤ TableRead (table_object d) _ (λ u.
    then_key TableRead read_name (codes "name") d _ (λ name.
    then_key_with TableRead read_columns (codes "columns") d _ IsSome (some_holds read_column) (λ columns c.
    then_key_with TableRead read_words (codes "key") d _ IsSome (some_holds read_word) (λ key k.
    then_with PlacementOutline TableRead IsPlace (read_placement d) _ (placement_holds d) (λ placement p.
    then_with (List (List (List ℕ))) TableRead (AllByRecursion IsSome) (read_key_or (codes "indexes") (read_array_of Any read_words) [] d) _ (key_or_holds (AllByRecursion IsSome) (read_array_of Any read_words) (array_holds IsSome read_words (some_holds read_word) Any) (codes "indexes") [] tt d) (λ indexes i.
    record { columns = c; key = k; placement = p; indexes = i }))))))

-- ---- streams and triggers

abbrev pub StreamRead : StreamOutline → Type 0
StreamRead s = IsSome s.columns

pub stream_read : (d : Data) → IfOk (read_stream d) StreamRead
stream_read d =
    then_any ⊤ StreamRead (object_of stream_keys d) _ (λ u.
    then_key StreamRead read_name (codes "name") d _ (λ name.
    then_key_with StreamRead read_columns (codes "columns") d _ IsSome (some_holds read_column) (λ columns c. c)))

abbrev pub TriggerRead : TriggerOutline → Type 0
TriggerRead t = IsSome t.statements

pub trigger_read : (d : Data) → IfOk (read_trigger d) TriggerRead
trigger_read d =
    then_any ⊤ TriggerRead (object_of trigger_keys d) _ (λ u.
    then_key TriggerRead read_name (codes "name") d _ (λ name.
    then_key TriggerRead read_word (codes "on") d _ (λ on.
    then_key_with TriggerRead read_words (codes "sql") d _ IsSome (some_holds read_word) (λ statements s. s))))

-- ---- windows

pub record WindowRead (w : WindowOutline) : Type 0 where
  pub columns : IsSome w.columns
  pub size : IsBetween 1 65536 w.size
  pub slide : IsBetween 1 w.size w.slide

pub window_read : (d : Data) → IfOk (read_window d) WindowRead
window_read d =
    then_any ⊤ WindowRead (object_of window_keys d) _ (λ u.
    then_key WindowRead read_name (codes "name") d _ (λ name.
    then_key_with WindowRead read_columns (codes "columns") d _ IsSome (some_holds read_column) (λ columns c.
    then_key WindowRead read_word (codes "owner") d _ (λ owner.
    then_key WindowRead read_unit (codes "unit") d _ (λ unit.
    then_key_with WindowRead (read_between 1 65536) (codes "size") d _ (IsBetween 1 65536) (between_holds 1 65536) (λ size s.
    then_key_with WindowRead (read_between 1 size) (codes "slide") d _ (IsBetween 1 size) (between_holds 1 size) (λ slide l.
    record { columns = c; size = s; slide = l })))))))
