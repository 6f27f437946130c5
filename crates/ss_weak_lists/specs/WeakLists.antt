-- Weak lists: what they hold, that they grow entry by entry, and what recovering a run by its calls, pushes and installs comes to.
use Rattle.std.specs.Prelude.{◌≡◌, List, [], ◌∷◌, ◌++◌}
use Rattle.std.specs.List.{AllByRecursion}
use Rattle.ss_model.specs.declared.catalog.Catalog.{Catalog}
use Rattle.ss_model.specs.declared.entry.Entry.{Entry}
use Rattle.ss_model.specs.declared.entry.Listed.{Listed}
use Rattle.ss_model.specs.Accepted.{Accepted}
use Rattle.ss_model.specs.Aborts.{IsFromClient}
use Rattle.ss_model.specs.Database.{Database}
use Rattle.ss_model.specs.InStep.{IsInStep}
use Rattle.ss_model.specs.Orders.{Orders}
use Rattle.ss_model.specs.Replays.{Replays, database_after, after}
use Rattle.ss_model.specs.Settling.{Drained, Settles, after_entries, IsWeakList, kept}
use Rattle.ss_model.specs.Asked.{listed_entries, asked_of, pushes_of}

-- law: of calls, pushes and installs a weak list holds just these, in their order
abbrev pub WeakListsHoldAsked : Type 0
WeakListsHoldAsked =
    (catalog : Catalog) (db : Database) (entries list : List Entry) → AllByRecursion IsFromClient entries → IsWeakList catalog db entries list →
    asked_of list ≡ entries

-- law: one more entry, with the settling behind it, makes a weak list one of one entry more
abbrev pub WeakListsGrow : Type 0
WeakListsGrow =
    (catalog : Catalog) (db : Database) (entries list : List Entry) (e : Entry) (steps : List Entry) → IsWeakList catalog db entries list →
    Settles catalog (database_after catalog (after_entries catalog db list) e) steps → IsWeakList catalog db (entries ++ e ∷ []) (list ++ e ∷ steps)

-- what settles the one database settles the other, and entries have the same weak lists on both
pub record WeakCarried (catalog : Catalog) (x y : Database) : Type 0 where
  pub settles : (list : List Entry) → Settles catalog x list → Settles catalog y list
  pub weak : (entries list : List Entry) → IsWeakList catalog x entries list → IsWeakList catalog y entries list

-- law: this holds of each two databases of which the same is kept
abbrev pub KeptCarriesWeak : Type 0
KeptCarriesWeak = (catalog : Catalog) (x y : Database) → kept catalog x ≡ kept catalog y → WeakCarried catalog x y

-- what a list is recovered to by its calls, pushes and installs, run anew with the steps that they set off
pub record RecoversWeakly (catalog : Catalog) (db : Database) (list : List Listed) : Type 0 where
  -- another list, which is the weak list of them, and the only one
  pub again : List Listed
  pub is_weak : IsWeakList catalog db (asked_of (listed_entries list)) (listed_entries again)
  pub only : (other : List Entry) → IsWeakList catalog db (asked_of (listed_entries list)) other → other ≡ listed_entries again
  -- it replays, has the orders, and leaves no batch pending
  pub replays : Replays catalog db again
  pub orders : Orders catalog db again
  pub drained : Drained catalog (after catalog db again)
  -- it has these calls, pushes and installs, in their order
  pub asked : asked_of (listed_entries again) ≡ asked_of (listed_entries list)
  -- its pushes come to what they came to in the list, and each source goes on from the same number
  pub pushes : pushes_of again ≡ pushes_of list
  pub next_numbers : (after catalog db again).next_numbers ≡ (after catalog db list).next_numbers

-- law: each list that replays on a database in step of an accepted catalogue is recovered so
abbrev pub RunsRecoverWeakly : Type 0
RunsRecoverWeakly =
    (catalog : Catalog) → Accepted catalog → (db : Database) → IsInStep catalog db → (list : List Listed) → Replays catalog db list →
    RecoversWeakly catalog db list
