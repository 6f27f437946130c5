-- Windows rolled back, and made final.
use Rattle.std.proofs.Common.{◌≡◌, ◌⊎◌, inl, inr, ◌≤◌, ◌-◌, ℕ, zero, suc, List, [], ◌∷◌, ◌++◌, map, take, length, refl, sym, ap, subst, ◌∙◌, Option, Some, None, slice_get, slice_set, arith, length-append}
use Rattle.std.proofs.lemmas.List.{map-set}
use Rattle.ss_table.proofs.CallerLemmas.{get_set_same, set_twice}
use Rattle.ss_value.specs.Rows.{Rows}
use Rattle.ss_window.specs.WindowValue.{WindowValue, stage, commit}
use Rattle.ss_undo.specs.declared.change.Change.{Change}
use Rattle.ss_undo.specs.declared.change.Change.TheVariants.{Inserted, Deleted, Replaced, Amended, Staged}
use Rattle.ss_undo.specs.Windows.{UnitStaged, WindowStep, WindowsResultFrom, IsCommittedWindow, AreCommittedWindows, with_window, without_last, rollback_staging, CanRollBackStaging, commit_staging, IsCommittedIfThere, IsCommittedStaging}
use Rattle.ss_undo.specs.Laws.{OneWindowStaged, WindowsRollBack}
use Rattle.ss_undo.proofs.Back.{set_same, some_and}

-- ---- taken back

take_front : {A : Type 0} (us ys : List A) → take (length us) (us ++ ys) ≡ us
take_front [] ys = refl
take_front (u ∷ us) ys = ap (λ l. u ∷ l) (take_front us ys)

front_of : (us : List Rows) (u : Rows) → take (length (us ++ u ∷ []) - 1) (us ++ u ∷ []) ≡ us
front_of us u =
    let n : length (us ++ u ∷ []) - 1 ≡ length us = omega (arith, length-append us (u ∷ [])) in
    ap (λ n. take n (us ++ u ∷ [])) n ∙ take_front us (u ∷ [])

last_off : (h : WindowValue) (u : Rows) → without_last (stage h u) ≡ h
last_off h u =
    let n : suc h.fresh - 1 ≡ h.fresh = omega arith in
    λ i. record h { kept = front_of h.kept u i; fresh = n i }

staged_there : (before now : List WindowValue) (w : ℕ) (s : UnitStaged before now w) → slice_get now w ≡ Some (stage s.old s.unit)
staged_there before now w s = ap (λ ws. slice_get ws w) s.is ∙ get_set_same before w (stage s.old s.unit) s.old s.here

pub window_back : (before now : List WindowValue) (c : Change) → WindowStep before c now → CanRollBackStaging now c × (rollback_staging now c ≡ before)
window_back before now (Inserted table slot) is = (tt, is)
window_back before now (Deleted table slot) is = (tt, is)
window_back before now (Replaced table slot row) is = (tt, is)
window_back before now (Amended table slot row) is = (tt, is)
window_back before now (Staged w) s = (
  some_and (slice_get now w) (stage s.old s.unit) (λ h. 1 ≤ h.fresh) (staged_there before now w s) (omega arith),
  ap (with_window now w without_last) (staged_there before now w s)
      ∙ ap (slice_set now w) (last_off s.old s.unit)
      ∙ ap (λ ws. slice_set ws w s.old) s.is
      ∙ set_twice before w (stage s.old s.unit) s.old
      ∙ set_same before w s.old s.here,
)

-- the last change comes from windows to which the others lead
pub windows_split : (before now : List WindowValue) (cs : List Change) (c : Change) → WindowsResultFrom before (cs ++ c ∷ []) now → (mid : List WindowValue) × WindowsResultFrom before cs mid × WindowStep mid c now
windows_split before now [] c (mid, step, is) = (before, refl, subst (λ t. WindowStep before c t) (sym is) step)
windows_split before now (d ∷ ds) c (mid, step, rest) = let r = windows_split mid now ds c rest in (r.0, (mid, step, r.1), r.2)

pub windows_back : (before now : List WindowValue) (cs : List Change) (c : Change) → WindowsResultFrom before (cs ++ c ∷ []) now → CanRollBackStaging now c × WindowsResultFrom before cs (rollback_staging now c)
windows_back before now cs c came =
    let r = windows_split before now cs c came in
    let s = window_back r.0 now c r.2 in
    (s.0, subst (WindowsResultFrom before cs) (sym s.1) r.1)

-- a change that is noted behind the others
pub windows_more : (before now next : List WindowValue) (cs : List Change) (c : Change) → WindowsResultFrom before cs now → WindowStep now c next → WindowsResultFrom before (cs ++ c ∷ []) next
windows_more before now next [] c is step = (next, subst (λ t. WindowStep t c next) is step, refl)
windows_more before now next (d ∷ ds) c (mid, first, rest) step = (mid, first, windows_more mid now next ds c rest step)

-- ---- made final

-- each is final by now, or as it was before the changes that are no longer noted
abbrev FinalOrSame : List WindowValue → List WindowValue → Type 0
FinalOrSame [] [] = Unit {0}
FinalOrSame (w ∷ ws) (m ∷ ms) = (IsCommittedWindow w ⊎ (w ≡ m)) × FinalOrSame ws ms
FinalOrSame _ _ = ⊥

all_same : (ws : List WindowValue) → FinalOrSame ws ws
all_same [] = tt
all_same (w ∷ ws) = (inr refl, all_same ws)

one_final : (ws ms : List WindowValue) (w : ℕ) (old : WindowValue) → IsCommittedIfThere (slice_get ws w) → FinalOrSame ws ms → FinalOrSame ws (slice_set ms w old)
one_final [] [] w old f p = tt
one_final [] (m ∷ ms) w old f p = absurd p
one_final (x ∷ ws) [] w old f p = absurd p
one_final (x ∷ ws) (m ∷ ms) zero old f p = (inl f, p.1)
one_final (x ∷ ws) (m ∷ ms) (suc w) old f p = (p.0, one_final ws ms w old f p.1)

settled_so : (ws ms : List WindowValue) (w : ℕ) → FinalOrSame ws ms → IsCommittedIfThere (slice_get (with_window ws w commit (slice_get ws w)) w) → FinalOrSame (with_window ws w commit (slice_get ws w)) ms
settled_so ws ms w p f = by ws ms w (slice_get ws w) refl p f
  where
    put : (ws ms : List WindowValue) (w : ℕ) (h : WindowValue) → IsCommittedWindow h → FinalOrSame ws ms → FinalOrSame (slice_set ws w h) ms
    put [] ms w h s p = p
    put (x ∷ ws) [] w h s p = absurd p
    put (x ∷ ws) (m ∷ ms) zero h s p = (inl s, p.1)
    put (x ∷ ws) (m ∷ ms) (suc w) h s p = (p.0, put ws ms w h s p.1)

    by : (ws ms : List WindowValue) (w : ℕ) (o : Option WindowValue) → slice_get ws w ≡ o → FinalOrSame ws ms → IsCommittedIfThere (slice_get (with_window ws w commit o) w) → FinalOrSame (with_window ws w commit o) ms
    by ws ms w None e p f = p
    by ws ms w (Some h) e p f = put ws ms w (commit h) (subst IsCommittedIfThere (get_set_same ws w (commit h) h e) f) p

-- windows on the way: committed they are what those now are when committed, and each is final or as it was before
abbrev pub WindowsOnTheWay : List WindowValue → List WindowValue → List Change → List WindowValue → Type 0
WindowsOnTheWay before now cs ws = (mid : List WindowValue) × WindowsResultFrom before cs mid × FinalOrSame ws mid × (map commit ws ≡ map commit now)

pub way_starts : (before now : List WindowValue) (cs : List Change) → WindowsResultFrom before cs now → WindowsOnTheWay before now cs now
way_starts before now cs came = (now, came, all_same now, refl)

get_map : (ws : List WindowValue) (w : ℕ) (h : WindowValue) → slice_get ws w ≡ Some h → slice_get (map commit ws) w ≡ Some (commit h)
get_map [] w h e = cc
get_map (x ∷ ws) zero h e = ap (λ x. Some (commit x)) (let q : x ≡ h = cc in q)
get_map (x ∷ ws) (suc w) h e = get_map ws w h e

-- a commit of one of them changes nothing of what they are when committed
same_end : (ws : List WindowValue) (w : ℕ) (o : Option WindowValue) → slice_get ws w ≡ o → IsCommittedIfThere (slice_get (with_window ws w commit o) w) → map commit (with_window ws w commit o) ≡ map commit ws
same_end ws w None e f = refl
same_end ws w (Some h) e f =
    map-set commit ws w (commit h)
    ∙ ap (slice_set (map commit ws) w) (subst IsCommittedIfThere (get_set_same ws w (commit h) h e) f)
    ∙ set_same (map commit ws) w (commit h) (get_map ws w h e)

step_on : (before mid ws : List WindowValue) (c : Change) → WindowStep before c mid → FinalOrSame ws mid → IsCommittedStaging (commit_staging ws c) c → FinalOrSame (commit_staging ws c) before × (map commit (commit_staging ws c) ≡ map commit ws)
step_on before mid ws (Inserted table slot) is each f = (subst (FinalOrSame ws) is each, refl)
step_on before mid ws (Deleted table slot) is each f = (subst (FinalOrSame ws) is each, refl)
step_on before mid ws (Replaced table slot row) is each f = (subst (FinalOrSame ws) is each, refl)
step_on before mid ws (Amended table slot row) is each f = (subst (FinalOrSame ws) is each, refl)
step_on before mid ws (Staged w) s each f =
    let now = with_window ws w commit (slice_get ws w) in
    let back : slice_set mid w s.old ≡ before = ap (λ ws. slice_set ws w s.old) s.is ∙ set_twice before w (stage s.old s.unit) s.old ∙ set_same before w s.old s.here in
    (subst (FinalOrSame now) back (one_final now mid w s.old f (settled_so ws mid w each f)), same_end ws w (slice_get ws w) refl f)

pub windows_on : (before now : List WindowValue) (cs : List Change) (c : Change) (ws : List WindowValue) → WindowsOnTheWay before now (cs ++ c ∷ []) ws → IsCommittedStaging (commit_staging ws c) c → WindowsOnTheWay before now cs (commit_staging ws c)
windows_on before now cs c ws (mid, came, each, end) final =
    let r = windows_split before mid cs c came in
    let s = step_on r.0 mid ws c r.2 each final in
    (r.0, r.1, s.0, s.1 ∙ end)

pub windows_end : (before now ws : List WindowValue) → AreCommittedWindows before → WindowsOnTheWay before now [] ws → ws ≡ map commit now
windows_end before now ws settled_before (mid, came, each, end) = all_final ws mid each (subst AreCommittedWindows (sym came) settled_before) ∙ end
  where
    one : (w m : WindowValue) → (IsCommittedWindow w ⊎ (w ≡ m)) → IsCommittedWindow m → w ≡ commit w
    one w m (inl s) t = sym s
    one w m (inr e) t = e ∙ sym t ∙ ap commit (sym e)

    all_final : (ws ms : List WindowValue) → FinalOrSame ws ms → AreCommittedWindows ms → ws ≡ map commit ws
    all_final [] [] p s = refl
    all_final [] (m ∷ ms) p s = absurd p
    all_final (w ∷ ws) [] p s = absurd p
    all_final (w ∷ ws) (m ∷ ms) p s = λ i. one w m p.0 s.0 i ∷ all_final ws ms p.1 s.1 i

-- a window that is put where it was
pub final_set : (ws : List WindowValue) (t w : ℕ) (old now : WindowValue) → t ≡ w → slice_get ws t ≡ Some old → IsCommittedWindow now → IsCommittedIfThere (slice_get (slice_set ws t now) w)
final_set ws t w old now same here s = subst (λ n. IsCommittedIfThere (slice_get (slice_set ws t now) n)) same (subst IsCommittedIfThere (sym (get_set_same ws t now old here)) s)

-- ---- laws

pub one_staged : OneWindowStaged
one_staged windows window old unit here = record { old = old; unit = unit; here = here; is = refl }

pub windows_go_back : (before now : List WindowValue) (cs : List Change) → WindowsResultFrom before cs now → WindowsRollBack now cs before
windows_go_back before now [] is = sym is
windows_go_back before now (c ∷ cs) (mid, step, rest) = let s = window_back before mid c step in (mid, windows_go_back mid now cs rest, s.0, sym s.1)
