-- Tables between changes, one change further.
use Rattle.std.proofs.Common.{◌≡◌, ℕ, zero, suc, List, [], ◌∷◌, ◌++◌, map, refl, sym, ap, subst, ◌∙◌, Some, slice_get, slice_set}
use Rattle.std.specs.Prelude.{Result, Ok, Err, IfOk, IfErr, OnErr}
use Rattle.std.specs.FinMap as finite
use Rattle.ss_value.specs.Rows.{Row}
use Rattle.ss_table.specs.declared.table.TableError.{TableError}
use Rattle.ss_table.specs.TableValue.{TableValue}
use Rattle.ss_table.specs.Steps.{WasInserted, WasDeleted, WasReplaced}
use Rattle.ss_undo.specs.declared.change.Change.{Change}
use Rattle.ss_undo.specs.declared.change.Change.TheVariants.{Inserted, Deleted, Replaced}
use Rattle.ss_undo.specs.ResultsFrom.{ResultsFrom, Step, AreCommitted, all_committed}
use Rattle.ss_undo.specs.Laws.{OneTableChanged, CommittedAtFirst}
use Rattle.ss_undo.specs.Windows.{WindowsResultFrom}
use Rattle.ss_window.specs.WindowValue.{WindowValue, commit}
use Rattle.ss_undo.proofs.CallerLemmas.{set_same}
use Rattle.ss_table_cases.specs.Runs.{AreKeyed, Runs}

-- ---- one of the tables changed

-- a table with the key of the one in its place
pub keyed_on : (key : List ℕ) (tables : List TableValue) (at : ℕ) (old new : TableValue) → AreKeyed key tables → slice_get tables at ≡ Some old → new.key ≡ old.key → AreKeyed key (slice_set tables at new)
keyed_on key [] at old new k g e = tt
keyed_on key (h ∷ hs) zero old new k g e = let one : h ≡ old = cc in (e ∙ ap (λ (x : TableValue). x.key) (sym one) ∙ k.0, k.1)
keyed_on key (h ∷ hs) (suc at) old new k g e = (k.0, keyed_on key hs at old new k.1 g e)

-- a table at an index that has two names
pub deleted_at : OneTableChanged → (tables : List TableValue) (at place slot : ℕ) (old new : TableValue) → place ≡ at → slice_get tables place ≡ Some old → WasDeleted old new slot → Step tables (Deleted at slot) (slice_set tables place new)
deleted_at law tables at place slot old new e g w =
    let here : slice_get tables at ≡ Some old = subst (λ p. slice_get tables p ≡ Some old) e g in
    subst (λ p. Step tables (Deleted at slot) (slice_set tables p new)) (sym e) ((law tables at slot old new [] here).1 w)

pub replaced_at : OneTableChanged → (tables : List TableValue) (at place slot : ℕ) (old new : TableValue) (was : Row) → place ≡ at → slice_get tables place ≡ Some old → WasReplaced old new slot was → Step tables (Replaced at slot was) (slice_set tables place new)
replaced_at law tables at place slot old new was e g w =
    let here : slice_get tables at ≡ Some old = subst (λ p. slice_get tables p ≡ Some old) e g in
    subst (λ p. Step tables (Replaced at slot was) (slice_set tables p new)) (sym e) ((law tables at slot old new was here).2 w)

inserted_at : OneTableChanged → (tables : List TableValue) (at place slot : ℕ) (old new : TableValue) → place ≡ at → slice_get tables place ≡ Some old → WasInserted old new slot → Step tables (Inserted at slot) (slice_set tables place new)
inserted_at law tables at place slot old new e g w =
    let here : slice_get tables at ≡ Some old = subst (λ p. slice_get tables p ≡ Some old) e g in
    subst (λ p. Step tables (Inserted at slot) (slice_set tables p new)) (sym e) ((law tables at slot old new [] here).0 w)

-- what an insert leaves, made or refused
pub insert_leaves : OneTableChanged → (key : List ℕ) (tables : List TableValue) (at place : ℕ) (old new : TableValue) (row : Row) (r : Result ℕ (TableError × Row)) → place ≡ at → AreKeyed key tables → slice_get tables place ≡ Some old
    → IfOk r (λ slot. WasInserted old new slot) → IfErr r (λ e. (new ≡ old) × (e.1 ≡ row))
    → IfOk r (λ slot. Step tables (Inserted at slot) (slice_set tables place new)) × OnErr r (slice_set tables place new ≡ tables) × AreKeyed key (slice_set tables place new)
insert_leaves law key tables at place old new row (Ok slot) e k g ok err = (inserted_at law tables at place slot old new e g ok, tt, keyed_on key tables place old new k g (ap (λ (h : TableValue). h.key) ok.is))
insert_leaves law key tables at place old new row (Err x) e k g ok err = (tt, ap (slice_set tables place) err.0 ∙ set_same tables place old g, keyed_on key tables place old new k g (ap (λ (h : TableValue). h.key) err.0))

-- ---- all tables and their changes

-- two tables, pushed one behind the other
both : (first second : TableValue) (none one two : List TableValue) → none ≡ [] → one ≡ none ++ first ∷ [] → two ≡ one ++ second ∷ [] → first ∷ second ∷ [] ≡ two
both first second none one two n o t = sym (t ∙ ap (λ ts. ts ++ second ∷ []) (o ∙ ap (λ ts. ts ++ first ∷ []) n))

pub two_keyed : (key : List ℕ) (first second : TableValue) (none one two : List TableValue) → none ≡ [] → one ≡ none ++ first ∷ [] → two ≡ one ++ second ∷ [] → first.key ≡ key → second.key ≡ key → AreKeyed key two
two_keyed key first second none one two n o t k l = subst (AreKeyed key) (both first second none one two n o t) (k, (l, tt))

pub two_committed : (first second : TableValue) (none one two : List TableValue) → none ≡ [] → one ≡ none ++ first ∷ [] → two ≡ one ++ second ∷ [] → first.dead ≡ finite.empty → second.dead ≡ finite.empty → AreCommitted two
two_committed first second none one two n o t d e = subst AreCommitted (both first second none one two n o t) (d, (e, tt))

-- tables without a row, and no change
pub started : (key : List ℕ) (tables : List TableValue) (windows : List WindowValue) (changes : List Change) → AreKeyed key tables → AreCommitted tables → windows ≡ [] → changes ≡ [] → Runs key tables windows changes
started key tables windows changes keyed final none empty = record {
  before = tables;
  final = final;
  came = subst (λ cs. ResultsFrom tables cs tables) (sym empty) refl;
  no_window = none;
  staged = subst (λ (cs : List Change). WindowsResultFrom [] cs []) (sym empty) refl;
  was_keyed = keyed;
  keyed = keyed;
}

keyed_final : (key : List ℕ) (tables : List TableValue) → AreKeyed key tables → AreKeyed key (all_committed tables)
keyed_final key [] k = tt
keyed_final key (h ∷ hs) k = (k.0, keyed_final key hs k.1)

-- changes that are committed
pub committed : CommittedAtFirst → (key : List ℕ) (tables now : List TableValue) (was windows : List WindowValue) (changes : List Change) → AreKeyed key tables → now ≡ all_committed tables → was ≡ [] → windows ≡ map commit was → changes ≡ [] → Runs key now windows changes
committed law key tables now was windows changes k is none stay empty =
    let keyed : AreKeyed key now = subst (AreKeyed key) (sym is) (keyed_final key tables k) in
    record {
      before = now;
      final = subst AreCommitted (sym is) (law tables).1;
      came = subst (λ cs. ResultsFrom now cs now) (sym empty) refl;
      no_window = stay ∙ ap (map commit) none;
      staged = subst (λ (cs : List Change). WindowsResultFrom [] cs []) (sym empty) refl;
      was_keyed = keyed;
      keyed = keyed;
    }
