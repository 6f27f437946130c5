-- Streams that do not have the ends that they should, and streams that triggers or inputs may not name.
use Rattle.std.specs.Prelude.{◌≡◌, ◌==◌, ◌&&◌, ◌||◌, ◌++◌, nat_le, not, cond, ℕ, Bool, true, false, List, [], Option, Some, None, get_or, slice_get, length, count_by}
use Rattle.std.specs.List.{filter, find, filter_map, flat_map, range_with_len}
use Rattle.ss_model.specs.declared.catalog.Catalog.{Catalog}
use Rattle.ss_model.specs.declared.catalog.ProcedureKind.{ProcedureKind}
use Rattle.ss_model.specs.declared.catalog.ProcedureKind.TheVariants.{Interior}
use Rattle.ss_model.specs.declared.catalog.On.{On}
use Rattle.ss_model.specs.declared.catalog.On.TheVariants.{Stream as OnStream, Window as OnWindow}
use Rattle.ss_model.specs.declared.catalog.Procedure.{Procedure}
use Rattle.ss_model.specs.Database.{is_border, is_border_stream, takes_stream}
use Rattle.ss_model.specs.Orders.{procedure_emits}
use Rattle.ss_model.specs.Settling.{procedure_numbers, emitting_procedure, border_stream}

-- an interior procedure
abbrev pub is_interior : ProcedureKind → Bool
is_interior Interior = true
is_interior _ = false

module _ (catalog : Catalog) (s : ℕ) where
  -- how many procedures emit to a stream
  abbrev pub emitters : ℕ
  emitters = count_by (λ p. procedure_emits catalog p s) (procedure_numbers catalog)

  -- how many take it
  abbrev pub consumers : ℕ
  consumers = count_by (takes_stream s) catalog.procedures

  -- how many border procedures take it
  abbrev pub border_consumers : ℕ
  border_consumers = count_by (λ p. is_border p.kind && takes_stream s p) catalog.procedures

  -- how many interior procedures take it
  abbrev pub interior_consumers : ℕ
  interior_consumers = count_by (λ p. is_interior p.kind && takes_stream s p) catalog.procedures

  -- no emitter, and one consumer, a border procedure
  abbrev pub ends_at_border : Bool
  ends_at_border = emitters == 0 && consumers == 1 && border_consumers == 1

  -- one emitter, and one or more consumers, all interior procedures
  abbrev pub ends_inside : Bool
  ends_inside = emitters == 1 && nat_le 1 consumers && interior_consumers == consumers

  -- a stream's ends are neither
  unfoldable pub ends_badly : Bool
  ends_badly = not (ends_at_border || ends_inside)

  -- no trigger may wait for a stream: it is a border stream, or nothing emits to it
  abbrev pub refuses_triggers : Bool
  refuses_triggers = is_border_stream catalog s || emitters == 0

  -- the border stream of a stream's workflow
  abbrev pub workflow_of : ℕ
  workflow_of = cond (is_border_stream catalog s) s (border_stream catalog (emitting_procedure catalog s))

-- a list has for each stream the first procedure that emits to it
abbrev pub ListsEmitters : Catalog → List (Option ℕ) → Type 0
ListsEmitters catalog emitters = (s : ℕ) → get_or emitters s None ≡ find (λ p. procedure_emits catalog p s) (procedure_numbers catalog)

-- a list afterwards has this procedure at the streams that pass a test, and elsewhere what it had before
abbrev pub NotesAt : (ℕ → Bool) → ℕ → List (Option ℕ) → List (Option ℕ) → Type 0
NotesAt passes q before after = (s : ℕ) → get_or after s None ≡ cond (passes s) (Some q) (get_or before s None)

-- the stream that a trigger waits for
abbrev pub awaited_stream : On → Option ℕ
awaited_stream (OnStream s) = Some s
awaited_stream (OnWindow w) = None

-- an input of a procedure that belongs to another workflow than the procedure, whose workflow is that of its first input
abbrev pub is_foreign : Catalog → ℕ → ℕ → Bool
is_foreign catalog q s = not (workflow_of catalog s == border_stream catalog q)

-- the foreign ones among a procedure's inputs
abbrev pub foreign_among : Catalog → ℕ → Option Procedure → List ℕ
foreign_among catalog q None = []
foreign_among catalog q (Some p) = filter (is_foreign catalog q) p.inputs

-- the same by the procedure's number
abbrev pub foreign_inputs : Catalog → ℕ → List ℕ
foreign_inputs catalog q = foreign_among catalog q (slice_get catalog.procedures q)

-- the streams that are refused, in order: by their ends, by triggers, and by inputs
abbrev pub refused_streams : Catalog → List ℕ
refused_streams catalog =
    filter (ends_badly catalog) (range_with_len 0 (length catalog.streams))
    ++ filter (refuses_triggers catalog) (filter_map (λ t. awaited_stream t.on) catalog.triggers)
    ++ flat_map (foreign_inputs catalog) (procedure_numbers catalog)

-- the first of them
abbrev pub refused_stream : Catalog → Option ℕ
refused_stream catalog = slice_get (refused_streams catalog) 0
