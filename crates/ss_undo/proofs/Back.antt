-- What rolls a change back gives the tables before it.
use Rattle.std.proofs.Common.{◌≡◌, ℕ, zero, suc, List, [], ◌∷◌, ◌++◌, refl, sym, ap, subst, ◌∙◌, Option, Some, None, slice_get, slice_set}
use Rattle.std.specs.Option.{IsSome, IsSomeAnd, is_some}
use Rattle.std.proofs.lemmas.Cmp.{nat_cmp_total}
use Rattle.std.specs.FinMap as finite
use Rattle.std.specs.FinMap.{nat_cmp-IsAntisymmetric}
use Rattle.ss_value.specs.Rows.{Row}
use Rattle.ss_value.specs.ValueOrder.{row_cmp_total, row_cmp-IsAntisymmetric}
use Rattle.ss_table.specs.TableValue.{TableValue, key_of, row_at, remove_fresh, remove_fresh_row, unmark, unmark_row, replace}
use Rattle.ss_table.specs.Steps.{WasInserted, WasDeleted, WasReplaced}
use Rattle.ss_table.proofs.CallerLemmas.{get_set_same, set_twice, remove_insert, insert_remove, insert_insert, get_inserted, get_removed}
use Rattle.ss_undo.specs.declared.change.Change.{Change}
use Rattle.ss_undo.specs.declared.change.Change.TheVariants.{Inserted, Deleted, Replaced, Amended, Staged}
use Rattle.ss_undo.specs.ResultsFrom.{At, Step, ResultsFrom}
use Rattle.ss_undo.specs.Completion.{with_one, rollback_change, CanRollBack}
use Rattle.ss_undo.specs.Laws.{RollsBack, OneTableChanged}

-- ---- one table

pub removed_back : (old new : TableValue) (slot : ℕ) → WasInserted old new slot → remove_fresh new slot ≡ old
removed_back old new slot w =
    ap (remove_fresh_row new) w.there ∙ ap (λ h. remove_fresh_row h (Some w.row)) w.is
    ∙ (λ i. record old { live = remove_insert row_cmp_total row_cmp-IsAntisymmetric old.live (key_of old.key w.row) (slot, w.row) w.free i })

pub dead_there : (old new : TableValue) (slot : ℕ) (w : WasDeleted old new slot) → finite.get new.dead slot ≡ Some w.row
dead_there old new slot w = ap (λ h. finite.get h.dead slot) w.is ∙ get_inserted nat_cmp_total nat_cmp-IsAntisymmetric old.dead slot w.row

pub unmarked_back : (old new : TableValue) (slot : ℕ) → WasDeleted old new slot → unmark new slot ≡ old
unmarked_back old new slot w =
    ap (unmark_row new slot) (dead_there old new slot w) ∙ ap (λ h. unmark_row h slot (Some w.row)) w.is
    ∙ (λ i. record old { live = insert_remove row_cmp_total row_cmp-IsAntisymmetric old.live (key_of old.key w.row) (slot, w.row) w.there i; dead = remove_insert nat_cmp_total nat_cmp-IsAntisymmetric old.dead slot w.row w.apart i })

pub replaced_back : (old new : TableValue) (slot : ℕ) (was : Row) → WasReplaced old new slot was → replace new slot was ≡ old
replaced_back old new slot was w =
    ap (λ h. replace h slot was) w.is
    ∙ (λ i. record old { live = finite.insert (finite.insert old.live (sym w.same_key i) (slot, w.row)) (key_of old.key was) (slot, was) })
    ∙ (λ i. record old { live = insert_insert row_cmp_total row_cmp-IsAntisymmetric old.live (key_of old.key was) (slot, was) (slot, w.row) w.before i })

-- ---- one table among others

pub set_same : {A : Type 0} (xs : List A) (i : ℕ) (x : A) → slice_get xs i ≡ Some x → slice_set xs i x ≡ xs
set_same [] i x e = refl
set_same (y ∷ ys) zero x e = let one : y ≡ x = cc in ap (λ z. z ∷ ys) (sym one)
set_same (y ∷ ys) (suc i) x e = ap (λ zs. y ∷ zs) (set_same ys i x e)

pub now_there : (before now : List TableValue) (table : ℕ) (P : TableValue → TableValue → Type 0) (a : At before now table P) → slice_get now table ≡ Some a.new
now_there before now table P a = ap (λ s. slice_get s table) a.is ∙ get_set_same before table a.new a.old a.here

-- the tables before, by those now
pub set_back : (before now : List TableValue) (table : ℕ) (P : TableValue → TableValue → Type 0) (a : At before now table P) → slice_set now table a.old ≡ before
set_back before now table P a = ap (λ s. slice_set s table a.old) a.is ∙ set_twice before table a.new a.old ∙ set_same before table a.old a.here

one_back : (before now : List TableValue) (table : ℕ) (P : TableValue → TableValue → Type 0) (f : TableValue → TableValue) (a : At before now table P) → f a.new ≡ a.old → with_one now table f (slice_get now table) ≡ before
one_back before now table P f a e = ap (with_one now table f) (now_there before now table P a) ∙ ap (slice_set now table) e ∙ set_back before now table P a

pub some_and : {A : Type 0} (o : Option A) (x : A) (P : A → Type 0) → o ≡ Some x → P x → IsSomeAnd o P
some_and o x P e p = subst (λ q. IsSomeAnd q P) (sym e) p

-- a row that was put in place of another
put_back : (before now : List TableValue) (table slot : ℕ) (row : Row) → Step before (Replaced table slot row) now → CanRollBack now (Replaced table slot row) × (rollback_change now (Replaced table slot row) ≡ before)
put_back before now table slot row a =
    let here : a.old.key ≡ a.new.key = sym (ap (λ h. h.key) a.step.is) in
    let Q : List ℕ → Type 0 = λ k. key_of k row ≡ key_of k a.step.row in (
      some_and (slice_get now table) a.new (λ h. IsSomeAnd (row_at h.live slot) (λ now. key_of h.key row ≡ key_of h.key now)) (now_there before now table (λ old new. WasReplaced old new slot row) a)
          (some_and (row_at a.new.live slot) a.step.row (λ r. key_of a.new.key row ≡ key_of a.new.key r) a.step.there (subst Q here a.step.same_key)),
      one_back before now table (λ old new. WasReplaced old new slot row) (λ h. replace h slot row) a (replaced_back a.old a.new slot row a.step),
    )

pub step_back : (before now : List TableValue) (c : Change) → Step before c now → CanRollBack now c × (rollback_change now c ≡ before)
step_back before now (Inserted table slot) a = (
  some_and (slice_get now table) a.new (λ h. IsSome (row_at h.live slot)) (now_there before now table (λ old new. WasInserted old new slot) a) (ap is_some a.step.there),
  one_back before now table (λ old new. WasInserted old new slot) (λ h. remove_fresh h slot) a (removed_back a.old a.new slot a.step),
)
step_back before now (Deleted table slot) a = (
  some_and (slice_get now table) a.new (λ h. IsSomeAnd (finite.get h.dead slot) (λ row. finite.get h.live (key_of h.key row) ≡ None)) (now_there before now table (λ old new. WasDeleted old new slot) a)
      (some_and (finite.get a.new.dead slot) a.step.row (λ row. finite.get a.new.live (key_of a.new.key row) ≡ None) (dead_there a.old a.new slot a.step)
      (ap (λ h. finite.get h.live (key_of h.key a.step.row)) a.step.is ∙ get_removed row_cmp_total row_cmp-IsAntisymmetric a.old.live (key_of a.old.key a.step.row))),
  one_back before now table (λ old new. WasDeleted old new slot) (λ h. unmark h slot) a (unmarked_back a.old a.new slot a.step),
)
step_back before now (Replaced table slot row) a = put_back before now table slot row a
step_back before now (Amended table slot row) a = put_back before now table slot row a
step_back before now (Staged window) is = (tt, is)

-- ---- lists of changes

-- the last change comes from tables to which the others lead
pub came_split : (before now : List TableValue) (cs : List Change) (c : Change) → ResultsFrom before (cs ++ c ∷ []) now → (mid : List TableValue) × ResultsFrom before cs mid × Step mid c now
came_split before now [] c (mid, step, is) = (before, refl, subst (λ t. Step before c t) (sym is) step)
came_split before now (d ∷ ds) c (mid, step, rest) = let r = came_split mid now ds c rest in (r.0, (mid, step, r.1), r.2)

pub came_back : (before now : List TableValue) (cs : List Change) (c : Change) → ResultsFrom before (cs ++ c ∷ []) now → CanRollBack now c × ResultsFrom before cs (rollback_change now c)
came_back before now cs c came =
    let r = came_split before now cs c came in
    let s = step_back r.0 now c r.2 in
    (s.0, subst (ResultsFrom before cs) (sym s.1) r.1)

-- one table changed among others
pub one_changed : OneTableChanged
one_changed tables table slot old new was here = (
  λ step. record { old = old; new = new; here = here; step = step; is = refl },
  λ step. record { old = old; new = new; here = here; step = step; is = refl },
  λ step. record { old = old; new = new; here = here; step = step; is = refl },
  λ step. record { old = old; new = new; here = here; step = step; is = refl },
)

-- a change that is noted behind the others
pub came_more : (before now next : List TableValue) (cs : List Change) (c : Change) → ResultsFrom before cs now → Step now c next → ResultsFrom before (cs ++ c ∷ []) next
came_more before now next [] c is step = (next, subst (λ t. Step t c next) is step, refl)
came_more before now next (d ∷ ds) c (mid, first, rest) step = (mid, first, came_more mid now next ds c rest step)

pub goes_back : (before now : List TableValue) (cs : List Change) → ResultsFrom before cs now → RollsBack now cs before
goes_back before now [] is = sym is
goes_back before now (c ∷ cs) (mid, step, rest) = let s = step_back before mid c step in (mid, goes_back mid now cs rest, s.0, sym s.1)
