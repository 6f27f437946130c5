-- Which nests can't be joined: for their streams, their touch sets or their windows.
use Rattle.std.specs.Prelude.{◌==◌, ◌-◌, ℕ, Bool, true, false, not, ◌&&◌, ◌||◌, List, get_or, length, slice_get, take, Option, Some, None}
use Rattle.std.specs.List.{find, list_all, list_any, range_with_len}
use Rattle.std.specs.Str.{bytes_eq}
use Rattle.ss_model.specs.declared.catalog.Catalog.{Catalog}
use Rattle.ss_model.specs.declared.catalog.Nest.{Nest}
use Rattle.ss_model.specs.declared.catalog.Procedure.{Procedure}
use Rattle.ss_model.specs.declared.catalog.Touch.{Touch}
use Rattle.ss_model.specs.declared.catalog.Touch.TheVariants.{Part, Arg, Multi, All}
use Rattle.ss_model.specs.Bodies.{is_batches_unit}
use Rattle.ss_model.specs.Nests.{members_emit, members_take}
use Rattle.ss_model.specs.Orders.{procedure_has, procedure_takes}
use Rattle.ss_model.specs.Settling.{procedure_numbers}
use Rattle.ss_nest.specs.Members.{stands_in}

-- whether two touch sets are written alike
abbrev pub same_touch : Touch → Touch → Bool
same_touch (Part p) (Part q) = p == q
same_touch (Arg a) (Arg b) = a == b
same_touch (Multi ps) (Multi qs) = bytes_eq ps qs
same_touch All All = true
same_touch _ _ = false

module _ (c : Catalog) where
  -- ---- streams

  -- whether each input of a procedure is emitted by one of these
  abbrev pub is_fed : List ℕ → ℕ → Bool
  is_fed before q = procedure_has (λ p. list_all (members_emit c before) p.inputs) (slice_get c.procedures q)

  -- whether each input of the member at this position is emitted by one of those before it
  abbrev pub is_fed_at : List ℕ → ℕ → Bool
  is_fed_at members i = is_fed (take i members) (get_or members i 0)

  -- whether this holds of all members behind the first
  abbrev pub is_closed : List ℕ → Bool
  is_closed members = list_all (is_fed_at members) (range_with_len 1 (length members - 1))

  -- whether a procedure that is none of these takes a stream
  abbrev pub others_take : List ℕ → ℕ → Bool
  others_take members s = list_any (λ q. procedure_takes c q s && not (stands_in members q)) (procedure_numbers c)

  -- whether a stream of a member has both members and others as consumers
  abbrev pub is_shared : List ℕ → ℕ → Bool
  is_shared members s = members_emit c members s && members_take c members s && others_take members s

  -- whether a later member takes what no earlier one emits, or a stream of a member is shared
  abbrev pub is_open : Nest → Bool
  is_open nest = not (is_closed nest.members) || list_any (is_shared nest.members) (range_with_len 0 (length c.streams))

  -- ---- touch sets

  -- whether a procedure has this touch set
  abbrev pub touches : Touch → ℕ → Bool
  touches touch q = procedure_has (λ p. same_touch p.touch touch) (slice_get c.procedures q)

  -- whether these have the touch set of this procedure
  abbrev pub all_touch : List ℕ → Option Procedure → Bool
  all_touch members None = false
  all_touch members (Some p) = list_all (touches p.touch) members

  -- whether members have not all the touch set of the first
  abbrev pub has_two_touches : Nest → Bool
  has_two_touches nest = not (all_touch nest.members (slice_get c.procedures (get_or nest.members 0 0)))

  -- ---- windows

  -- whether a procedure owns a window of batches
  abbrev pub owns_batches : ℕ → Bool
  owns_batches q = list_any (λ d. (d.owner == q) && is_batches_unit d.unit) c.windows

  -- whether a member does
  abbrev pub has_batches : Nest → Bool
  has_batches nest = list_any owns_batches nest.members

  -- ---- the first nest that is refused for each

  abbrev pub open_nest : List Nest → Option Nest
  open_nest = find is_open

  abbrev pub nest_of_two_touches : List Nest → Option Nest
  nest_of_two_touches = find has_two_touches

  abbrev pub nest_with_batches : List Nest → Option Nest
  nest_with_batches = find has_batches
