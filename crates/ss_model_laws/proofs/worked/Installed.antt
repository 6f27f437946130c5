-- The accounts with a body that may be installed for `put`: it opens each account with nothing in it. Its install and a call
-- replay, and the premises of the laws on such bodies are met.
use Rattle.std.proofs.Common.{◌≡◌, ℕ, zero, suc, pos, codes, List, [], ◌∷◌, true, get_or, slice_get, refl, subst, Some, arith}
use Rattle.std.specs.FinMap as finmap
use Rattle.std.specs.FinMap.{get-empty, len-empty}
use Rattle.std.specs.List.{AllByRecursion}
use Rattle.ss_lemmas.proofs.Bools.{some_same}
use Rattle.ss_value.specs.declared.value.Value.TheVariants.{Int}
use Rattle.ss_value.specs.Rows.{Row}
use Rattle.ss_value.specs.Order.{row_cmp}
use Rattle.ss_sql_trees.specs.declared.typed.Expr.TheVariants.{Param, Lit}
use Rattle.ss_sql_trees.specs.declared.typed.Target.TheVariants.{Table as IntoTable}
use Rattle.ss_sql_trees.specs.declared.typed.Statement.TheVariants.{InsertValues}
use Rattle.ss_model.specs.declared.catalog.Body.{Body}
use Rattle.ss_model.specs.declared.catalog.Catalog.{Catalog}
use Rattle.ss_model.specs.declared.catalog.Procedure.{Procedure}
use Rattle.ss_model.specs.declared.catalog.Step.{Step}
use Rattle.ss_model.specs.declared.catalog.Step.TheVariants.{Sql}
use Rattle.ss_model.specs.declared.entry.Entry.{Entry}
use Rattle.ss_model.specs.declared.entry.Entry.TheVariants.{Install}
use Rattle.ss_model.specs.declared.entry.Outcome.TheVariants.{Done}
use Rattle.ss_model.specs.declared.entry.Listed.{Listed}
use Rattle.ss_model.specs.Contents.{table_at, put_entries}
use Rattle.ss_model.specs.Statements.{insert_row}
use Rattle.ss_model.specs.Bodies.{run_body}
use Rattle.ss_model.specs.Database.{Database, apply, empty_database, has_spare, body_named, spare_bodies}
use Rattle.ss_model.specs.Replays.{Replays, after}
use Rattle.ss_model.specs.Spares.{AcceptedBody}
use Rattle.ss_model.specs.Accepted.{Accepted}
use Rattle.ss_model.specs.WholeDatabase.{WholeDatabase}
use Rattle.ss_model.specs.SparesAside.{with_spares, GoesOnWith, SparesMayBeAdded}
use Rattle.ss_model.specs.parts.Locality.{EntryIsLocal}
use Rattle.ss_model.proofs.CallerLemmas.{at_lit, at_param, literal_value, param_value}
use Rattle.ss_model.proofs.Accounts as accounts
use Rattle.ss_model_laws.proofs.EntryLocality.{entry_is_local}
use Rattle.ss_model_laws.proofs.WholeDatabase.{empty_whole, whole_after}
use Rattle.ss_model_laws.proofs.SparesAside.{spares_aside}

-- INSERT of the argument and 0
abbrev opens_empty : List Step
opens_empty = Sql (InsertValues (IntoTable 0) (Param 0 ∷ Lit (Int (pos 0)) ∷ [])) ∷ []

abbrev named : Body
named = record { text = codes "[..]"; steps = opens_empty }

abbrev spares : List (List Body)
spares = (named ∷ []) ∷ []

abbrev installable : Catalog
installable = with_spares accounts.accounts spares

puts : Procedure
puts = get_or accounts.accounts.procedures 0 accounts.returns

may_open : (p : Procedure) → slice_get accounts.accounts.procedures 0 ≡ Some p → AcceptedBody accounts.accounts 0 p opens_empty
unfolding puts
may_open p is = subst (λ z. AcceptedBody accounts.accounts 0 z opens_empty) (some_same puts p is) (record {
  kind = refl;
  size = refl;
  typed = simp (at_param, at_lit);
  in_scope = refl;
  local = λ args. record { steps = ((refl, tt), tt); owned = λ w o. o; triggers = λ w o. cc };
  limited = (tt, tt);
  emits = λ s. refl;
  adds = λ s. refl;
})

goes_on : GoesOnWith accounts.accounts spares
goes_on = record { accepted = each; same = none }
  where
    each : (q : ℕ) (p : Procedure) → slice_get accounts.accounts.procedures q ≡ Some p → AllByRecursion (λ (b : Body). AcceptedBody accounts.accounts q p b.steps) (get_or spares q [])
    each zero p is = (may_open p is, tt)
    each (suc q) p is = tt

    none : (q : ℕ) (text : List ℕ) → has_spare accounts.accounts q text ≡ true → body_named text (get_or spares q []) ≡ body_named text (spare_bodies accounts.accounts q)
    none q text e = cc

aside : SparesMayBeAdded accounts.accounts spares
aside = spares_aside accounts.accounts accounts.accepted spares goes_on

accepted : Accepted installable
accepted = aside.accepted

-- ---- an install and a call replay

install : Entry
install = Install 0 0 0 (codes "[..]")

abbrev changed : Database
changed = record (empty_database installable) { bodies = codes "[..]" ∷ [] ∷ [] }

installs : apply installable (empty_database installable) install ≡ Some (record { db = changed; outcome = Done []; emitted = [] })
unfolding apply install
installs = refl

abbrev empty_row : Row
empty_row = Int (pos 1) ∷ Int (pos 0) ∷ []

abbrev opened : Database
opened = record changed { contents = record { tables = finmap.insert finmap.empty (Int (pos 1) ∷ []) empty_row ∷ []; windows = [] } }

opens : apply installable changed (accounts.put_call 1 1 5) ≡ Some (record { db = opened; outcome = Done []; emitted = [] })
unfolding apply run_body insert_row table_at put_entries
opens =
    let args : Row = Int (pos 1) ∷ Int (pos 5) ∷ [] in
    rw (param_value [] args 0, literal_value [] args (Int (pos 0)), get-empty row_cmp (Int (pos 1) ∷ []), len-empty row_cmp Row) refl

abbrev listed : Entry → Listed
listed e = record { entry = e; outcome = Done [] }

abbrev install_and_call : List Listed
install_and_call = listed install ∷ listed (accounts.put_call 1 1 5) ∷ []

replays : Replays installable (empty_database installable) install_and_call
replays = rw installs (refl, rw opens (refl, tt))

-- ---- what the laws say of it

whole : WholeDatabase installable (after installable (empty_database installable) install_and_call)
whole = whole_after installable accepted (empty_database installable) install_and_call (empty_whole installable accepted)

local_install : EntryIsLocal installable 3 install
local_install = entry_is_local installable accepted 3 (omega arith) install
