-- What clients asked for among entries.
use Rattle.std.proofs.Common.{◌≡◌, true, not, List, [], ◌∷◌, ◌++◌, refl, ap, Some, None}
use Rattle.std.specs.List.{AllByRecursion}
use Rattle.std.specs.Option.{option_map}
use Rattle.std.specs.declared.option.Option.{Option}
use Rattle.std.proofs.lemmas.List.Elements.{filter-append}
use Rattle.ss_model.specs.declared.catalog.Catalog.{Catalog}
use Rattle.ss_model.specs.declared.entry.Entry.{Entry}
use Rattle.ss_model.specs.declared.entry.Entry.TheVariants.{Call, Push, Step as StepEntry, Install}
use Rattle.ss_model.specs.declared.entry.Listed.{Listed}
use Rattle.ss_model.specs.declared.entry.Outcome.{Outcome}
use Rattle.ss_model.specs.Aborts.{IsFromClient}
use Rattle.ss_model.specs.Database.{Database, Applied, apply, fits_entry, AppliedFits}
use Rattle.ss_model.specs.Replays.{Replays, database_after}
use Rattle.ss_model.specs.Report.{is_step}
use Rattle.ss_model.specs.Settled.{IsAskable}
use Rattle.ss_model.specs.Asked.{listed_entries, asked_of, pushes_among}

-- of one list behind another they are those of the one and of the other
pub asked_append : (one other : List Entry) → asked_of (one ++ other) ≡ asked_of one ++ asked_of other
asked_append one other = filter-append (λ (e : Entry). not (is_step e)) one other

-- a call, push or install is one of them
pub one_asked : (e : Entry) (rest : List Entry) → IsFromClient e → asked_of (e ∷ rest) ≡ e ∷ asked_of rest
one_asked (Call client index q args) rest h = refl
one_asked (Push client index s source seq rows) rest h = refl
one_asked (Install client index q text) rest h = refl
one_asked (StepEntry q r) rest h = absurd h

-- all of them are calls, pushes and installs
pub asked_are : (entries : List Entry) → AllByRecursion IsFromClient (asked_of entries)
asked_are [] = tt
asked_are (Call client index q args ∷ es) = (tt, asked_are es)
asked_are (Push client index s source seq rows ∷ es) = (tt, asked_are es)
asked_are (Install client index q text ∷ es) = (tt, asked_are es)
asked_are (StepEntry q r ∷ es) = asked_are es

-- the pushes are among what clients asked for
pub pushes_asked : (entries : List Entry) → pushes_among (asked_of entries) ≡ pushes_among entries
pushes_asked [] = refl
pushes_asked (Call client index q args ∷ es) = pushes_asked es
pushes_asked (Push client index s source seq rows ∷ es) = ap (λ z. Push client index s source seq rows ∷ z) (pushes_asked es)
pushes_asked (Install client index q text ∷ es) = pushes_asked es
pushes_asked (StepEntry q r ∷ es) = pushes_asked es

has_value : (o : Option Applied) (outcome : Outcome) → option_map (λ a. a.outcome) o ≡ Some outcome → (a : Applied) × (o ≡ Some a)
has_value None outcome e = cc
has_value (Some a) outcome e = (a, refl)

-- clients may ask for the calls, pushes and installs of a list that replays
pub askable : AppliedFits → (catalog : Catalog) (db : Database) (list : List Listed) → Replays catalog db list → AllByRecursion (IsAskable catalog) (asked_of (listed_entries list))
askable fits catalog db [] r = tt
askable fits catalog db (l ∷ ls) r =
    let some = has_value (apply catalog db l.entry) l.outcome r.0 in
    by l.entry (fits catalog db l.entry some.0 some.1) (listed_entries ls) (askable fits catalog (database_after catalog db l.entry) ls r.1)
  where
    by : (e : Entry) → fits_entry catalog e ≡ true → (es : List Entry) → AllByRecursion (IsAskable catalog) (asked_of es) → AllByRecursion (IsAskable catalog) (asked_of (e ∷ es))
    by (Call client index q args) fit es all = ((tt, fit), all)
    by (Push client index s source seq rows) fit es all = ((tt, fit), all)
    by (Install client index q text) fit es all = ((tt, fit), all)
    by (StepEntry q r) fit es all = all
