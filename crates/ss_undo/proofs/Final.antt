-- What makes a change final leaves the live rows, and the dead rows that were before it.
use Rattle.std.proofs.Common.{◌≡◌, ℕ, zero, suc, List, [], ◌∷◌, ◌++◌, length, refl, sym, ap, subst, ◌∙◌, Some, slice_get, slice_set, arith}
use Rattle.std.specs.Option.{IsSome, is_some}
use Rattle.std.proofs.lemmas.Cmp.{nat_cmp_total}
use Rattle.std.specs.FinMap as finite
use Rattle.std.specs.FinMap.{nat_cmp-IsAntisymmetric}
use Rattle.ss_table.specs.TableValue.{TableValue, purge}
use Rattle.ss_table.specs.Steps.{WasInserted, WasDeleted, WasReplaced}
use Rattle.ss_table.proofs.CallerLemmas.{length_set, remove_insert}
use Rattle.ss_undo.specs.declared.change.Change.{Change}
use Rattle.ss_undo.specs.declared.change.Change.TheVariants.{Inserted, Deleted, Replaced, Amended, Staged}
use Rattle.ss_undo.specs.ResultsFrom.{At, Step, ResultsFrom, AreCommitted, all_committed}
use Rattle.ss_undo.specs.Completion.{with_one, commit_change, CanCommit}
use Rattle.ss_undo.specs.Laws.{Commits}
use Rattle.ss_undo.proofs.Back.{now_there, set_back, dead_there, some_and, came_split}

-- tables with the dead rows of others
abbrev pub buried : List TableValue → List TableValue → List TableValue
buried [] ms = []
buried (n ∷ ns) [] = []
buried (n ∷ ns) (m ∷ ms) = record n { dead = m.dead } ∷ buried ns ms

pub buried_itself : (ns : List TableValue) → buried ns ns ≡ ns
buried_itself [] = refl
buried_itself (n ∷ ns) = ap (λ l. n ∷ l) (buried_itself ns)

pub buried_final : (ns ms : List TableValue) → length ms ≡ length ns → AreCommitted ms → buried ns ms ≡ all_committed ns
buried_final [] ms e f = refl
buried_final (n ∷ ns) [] e f = cc
buried_final (n ∷ ns) (m ∷ ms) e f = let less : length ms ≡ length ns = omega (arith, e) in λ i. record n { dead = f.0 i } ∷ buried_final ns ms less f.1 i

buried_get : (ns ms : List TableValue) (i : ℕ) (m : TableValue) → length ms ≡ length ns → slice_get ms i ≡ Some m → (n : TableValue) × (slice_get (buried ns ms) i ≡ Some (record n { dead = m.dead }))
buried_get [] [] i m e g = cc
buried_get [] (k ∷ ms) i m e g = cc
buried_get (n ∷ ns) [] i m e g = cc
buried_get (n ∷ ns) (k ∷ ms) zero m e g = let one : k ≡ m = cc in (n, ap (λ (z : TableValue). Some (record n { dead = z.dead })) one)
buried_get (n ∷ ns) (k ∷ ms) (suc i) m e g = let less : length ms ≡ length ns = omega (arith, e) in buried_get ns ms i m less g

buried_set : (ns ms : List TableValue) (i : ℕ) (x old : TableValue) → slice_get (buried ns ms) i ≡ Some x → slice_set (buried ns ms) i (record x { dead = old.dead }) ≡ buried ns (slice_set ms i old)
buried_set [] ms i x old g = refl
buried_set (n ∷ ns) [] i x old g = refl
buried_set (n ∷ ns) (k ∷ ms) zero x old g = let one : record n { dead = k.dead } ≡ x = cc in ap (λ (z : TableValue). record z { dead = old.dead } ∷ buried ns ms) (sym one)
buried_set (n ∷ ns) (k ∷ ms) (suc i) x old g = ap (λ l. record n { dead = k.dead } ∷ l) (buried_set ns ms i x old g)

buried_same : (ns ms : List TableValue) (i : ℕ) (m old : TableValue) → slice_get ms i ≡ Some m → old.dead ≡ m.dead → buried ns (slice_set ms i old) ≡ buried ns ms
buried_same [] ms i m old g e = refl
buried_same (n ∷ ns) [] i m old g e = refl
buried_same (n ∷ ns) (k ∷ ms) zero m old g e = let one : k ≡ m = cc in ap (λ d. record n { dead = d } ∷ buried ns ms) (e ∙ sym (ap (λ (z : TableValue). z.dead) one))
buried_same (n ∷ ns) (k ∷ ms) (suc i) m old g e = ap (λ l. record n { dead = k.dead } ∷ l) (buried_same ns ms i m old g e)

-- ---- one change

stays : (before mid now : List TableValue) (table : ℕ) (P : TableValue → TableValue → Type 0) (a : At before mid table P) → a.old.dead ≡ a.new.dead → buried now mid ≡ buried now before
stays before mid now table P a e = sym (buried_same now mid table a.new a.old (now_there before mid table P a) e) ∙ ap (buried now) (set_back before mid table P a)

-- a deleted row's slot freed
freed : (old new : TableValue) (slot : ℕ) → WasDeleted old new slot → finite.remove new.dead slot ≡ old.dead
freed old new slot w = ap (λ (h : TableValue). finite.remove h.dead slot) w.is ∙ remove_insert nat_cmp_total nat_cmp-IsAntisymmetric old.dead slot w.row w.apart

pub settle_step : (before mid now : List TableValue) (c : Change) → Step before c mid → length mid ≡ length now → CanCommit (buried now mid) c × (commit_change (buried now mid) c ≡ buried now before)
settle_step before mid now (Inserted table slot) a e = (tt, stays before mid now table (λ old new. WasInserted old new slot) a (sym (ap (λ (h : TableValue). h.dead) a.step.is)))
settle_step before mid now (Replaced table slot row) a e =
    let g = buried_get now mid table a.new e (now_there before mid table (λ old new. WasReplaced old new slot row) a) in
    (ap is_some g.1, stays before mid now table (λ old new. WasReplaced old new slot row) a (sym (ap (λ (h : TableValue). h.dead) a.step.is)))
settle_step before mid now (Amended table slot row) a e = (tt, stays before mid now table (λ old new. WasReplaced old new slot row) a (sym (ap (λ (h : TableValue). h.dead) a.step.is)))
settle_step before mid now (Deleted table slot) a e =
    let there = now_there before mid table (λ old new. WasDeleted old new slot) a in
    let g = buried_get now mid table a.new e there in
    let x : TableValue = record g.0 { dead = a.new.dead } in (
      some_and (slice_get (buried now mid) table) x (λ h. IsSome (finite.get h.dead slot)) g.1 (ap is_some (dead_there a.old a.new slot a.step)),
      ap (with_one (buried now mid) table (λ h. purge h slot)) g.1
          ∙ ap (λ d. slice_set (buried now mid) table (record x { dead = d })) (freed a.old a.new slot a.step)
          ∙ buried_set now mid table x a.old g.1
          ∙ ap (buried now) (set_back before mid table (λ old new. WasDeleted old new slot) a),
    )
settle_step before mid now (Staged window) is e = (tt, ap (buried now) is)

-- ---- lists of changes

pub step_length : (before now : List TableValue) (c : Change) → Step before c now → length now ≡ length before
step_length before now (Inserted table slot) a = ap length a.is ∙ length_set before table a.new
step_length before now (Deleted table slot) a = ap length a.is ∙ length_set before table a.new
step_length before now (Replaced table slot row) a = ap length a.is ∙ length_set before table a.new
step_length before now (Amended table slot row) a = ap length a.is ∙ length_set before table a.new
step_length before now (Staged window) is = ap length is

pub came_length : (before now : List TableValue) (cs : List Change) → ResultsFrom before cs now → length before ≡ length now
came_length before now [] is = ap length (sym is)
came_length before now (c ∷ cs) (mid, step, rest) = sym (step_length before mid c step) ∙ came_length mid now cs rest

settles_to : (before now : List TableValue) (cs : List Change) → ResultsFrom before cs now → Commits now cs (buried now before)
settles_to before now [] is = ap (buried now) (sym is) ∙ buried_itself now
settles_to before now (c ∷ cs) (mid, step, rest) = let s = settle_step before mid now c step (came_length mid now cs rest) in (buried now mid, settles_to mid now cs rest, s.0, sym s.1)

pub settles : (before now : List TableValue) (cs : List Change) → ResultsFrom before cs now → AreCommitted before → Commits now cs (all_committed now)
settles before now cs came final = subst (Commits now cs) (buried_final now before (came_length before now cs came) final) (settles_to before now cs came)

pub all_are_committed : (tables : List TableValue) → AreCommitted (all_committed tables)
all_are_committed [] = tt
all_are_committed (h ∷ hs) = (refl, all_are_committed hs)

-- tables on the way: the live rows of those now, and the dead rows before the changes that are no longer noted
abbrev pub OnTheWay : List TableValue → List TableValue → List Change → List TableValue → Type 0
OnTheWay before now cs tables = (mid : List TableValue) × ResultsFrom before cs mid × (length mid ≡ length now) × (tables ≡ buried now mid)

pub way_on : (before now : List TableValue) (cs : List Change) (c : Change) (tables : List TableValue) → OnTheWay before now (cs ++ c ∷ []) tables → CanCommit tables c × OnTheWay before now cs (commit_change tables c)
way_on before now cs c tables (mid, came, long, is) =
    let r = came_split before mid cs c came in
    let s = settle_step r.0 mid now c r.2 long in
    (subst (λ t. CanCommit t c) (sym is) s.0, (r.0, r.1, sym (step_length r.0 mid c r.2) ∙ long, ap (λ t. commit_change t c) is ∙ s.1))

pub way_ends : (before now tables : List TableValue) → AreCommitted before → OnTheWay before now [] tables → tables ≡ all_committed now
way_ends before now tables final (mid, came, long, is) = is ∙ buried_final now mid long (subst AreCommitted (sym came) final)
