-- A disk in memory with one event more.
use Rattle.std.proofs.Common.{◌≡◌, ◌∙◌, ℕ, List, [], ◌∷◌, ◌++◌, length, Bool, true, sym, ap, subst}
use Rattle.ss_disk.specs.declared.disk.FileNo.{FileNo}
use Rattle.ss_disk.specs.declared.events.Event.{Event}
use Rattle.ss_disk.specs.declared.events.Event.TheVariants.{Wrote, Cut, Synced}
use Rattle.ss_disk.specs.Files.{Files}
use Rattle.ss_disk.specs.Crash.{After, TornWrite, TornCut}
use Rattle.ss_disk.specs.Memory.{seen_behind, left_behind, seen_after, left_of, is_within, are_within}
use Rattle.ss_disk.specs.Happened.{left_at, now_left, left_now, left_push, seen_push, within_push, sees_left}
use Rattle.ss_disk.specs.Steps.{undone_write, undone_cut}

-- what a crash may leave is what it might before, after a step
after_step : (first : Files) (es : List Event) (step : Files → Files → Type 0) (image : Files) → After step (left_of first es) image → After step (left_at first es (length es)) image
after_step first es step image after = (after.0, left_now first es after.0 after.1, after.2)

-- the events are these, and one more
last_of : (first first' : Files) (es mid later : List Event) (e : Event) → first' ≡ first → mid ≡ es → later ≡ mid ++ e ∷ [] → (image : Files) → left_at first' later (length later) image
    → left_behind e (seen_after es first) (left_of first es) image
last_of first first' es mid later e is_first is_mid is image left =
    let behind : left_of first' later image = now_left first' later image left in
    let from : left_of first later image = subst (λ (d : Files). left_of d later image) is_first behind in
    let events : later ≡ es ++ e ∷ [] = is ∙ ap (λ (l : List Event). l ++ e ∷ []) is_mid in
    left_push es e first (λ i. i ≡ first) image (subst (λ (l : List Event). left_of first l image) events from)

-- nothing more has happened
pub no_event : (first first' : Files) (es later : List Event) → first' ≡ first → later ≡ es → (image : Files) → left_at first' later (length later) image → left_at first es (length es) image
no_event first first' es later is_first is image left =
    subst (λ (l : List Event). left_at first l (length l) image) is (subst (λ (d : Files). left_at d later (length later) image) is_first left)

pub no_write : (first first' : Files) (es later : List Event) (which : FileNo) (at n : ℕ) → first' ≡ first → later ≡ es → (image : Files) → left_at first' later (length later) image
    → After (TornWrite which at n) (left_at first es (length es)) image
no_write first first' es later which at n is_first is image left = (image, no_event first first' es later is_first is image left, undone_write which at n image)

pub no_cut : (first first' : Files) (es later : List Event) (which : FileNo) (len : ℕ) → first' ≡ first → later ≡ es → (image : Files) → left_at first' later (length later) image
    → After (TornCut which len) (left_at first es (length es)) image
no_cut first first' es later which len is_first is image left = (image, no_event first first' es later is_first is image left, undone_cut which len image)

pub one_write : (first first' : Files) (es mid later : List Event) (call : ℕ) (which : FileNo) (at n : ℕ) (bytes : List ℕ) (done : Bool) → first' ≡ first → mid ≡ es → later ≡ mid ++ Wrote call which at bytes done ∷ []
    → length bytes ≡ n → (image : Files) → left_at first' later (length later) image → After (TornWrite which at n) (left_at first es (length es)) image
one_write first first' es mid later call which at n bytes done is_first is_mid is long image left =
    subst (λ (m : ℕ). After (TornWrite which at m) (left_at first es (length es)) image) long
    (after_step first es (TornWrite which at (length bytes)) image (last_of first first' es mid later (Wrote call which at bytes done) is_first is_mid is image left))

pub one_cut : (first first' : Files) (es mid later : List Event) (call : ℕ) (which : FileNo) (len : ℕ) (done : Bool) → first' ≡ first → mid ≡ es → later ≡ mid ++ Cut call which len done ∷ []
    → (image : Files) → left_at first' later (length later) image → After (TornCut which len) (left_at first es (length es)) image
one_cut first first' es mid later call which len done is_first is_mid is image left =
    after_step first es (TornCut which len) image (last_of first first' es mid later (Cut call which len done) is_first is_mid is image left)

-- behind a sync a crash leaves what a read gives, which it might have left before too
pub one_sync : (first first' files : Files) (es mid later : List Event) (call : ℕ) → first' ≡ first → files ≡ seen_after es first → mid ≡ es → later ≡ mid ++ Synced call ∷ [] → (image : Files)
    → left_of first' later image → image ≡ files
one_sync first first' files es mid later call is_first shown is_mid is image left =
    last_of first first' es mid later (Synced call) is_first is_mid is image (left_now first' later image left) ∙ sym shown

pub one_sync_left : (first first' files : Files) (es mid later : List Event) (call : ℕ) → first' ≡ first → files ≡ seen_after es first → are_within es first ≡ true → mid ≡ es
    → later ≡ mid ++ Synced call ∷ [] → (image : Files) → left_at first' later (length later) image → left_at first es (length es) image
one_sync_left first first' files es mid later call is_first shown within is_mid is image left =
    subst (λ (d : Files). left_at first es (length es) d) (sym (one_sync first first' files es mid later call is_first shown is_mid is image (now_left first' later image left)))
    (sees_left first files es shown within)

-- what a read gives
pub shown_push : (first first' files files' : Files) (es mid later : List Event) (e : Event) → files ≡ seen_after es first → first' ≡ first → mid ≡ es → later ≡ mid ++ e ∷ [] → files' ≡ seen_behind e files
    → files' ≡ seen_after later first'
shown_push first first' files files' es mid later e shown is_first is_mid is behind =
    behind ∙ ap (λ (d : Files). seen_behind e d) shown ∙ sym (seen_push es e first)
    ∙ (λ k. seen_after ((sym (is ∙ ap (λ (l : List Event). l ++ e ∷ []) is_mid)) k) ((sym is_first) k))

pub within_more : (first first' files : Files) (es mid later : List Event) (e : Event) → files ≡ seen_after es first → are_within es first ≡ true → first' ≡ first → mid ≡ es → later ≡ mid ++ e ∷ []
    → is_within e files ≡ true → are_within later first' ≡ true
within_more first first' files es mid later e shown within is_first is_mid is new =
    (λ k. are_within ((is ∙ ap (λ (l : List Event). l ++ e ∷ []) is_mid) k) (is_first k))
    ∙ within_push es e first within (ap (λ (d : Files). is_within e d) (sym shown) ∙ new)
