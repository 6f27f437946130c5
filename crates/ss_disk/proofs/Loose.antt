-- Events that no sync has made last, and what a crash leaves of them.
use Rattle.std.proofs.Common.{◌≡◌, ◌∙◌, ℕ, zero, suc, ◌+◌, ◌-◌, ◌≤◌, ◌<◌, nat_le, List, [], ◌∷◌, ◌++◌, length, take, drop, get_or, replicate, Bool, true, false, ◌&&◌, if◌then◌else◌, refl, sym, ap, subst, arith}
use Rattle.std.proofs.lemmas.List.{take_more, length-take-le, length-replicate, take-append-drop}
use Rattle.std.proofs.lemmas.Bool.{leb-true}
use Rattle.ss_lemmas.proofs.Bools.{first_of_two, second_of_two}
use Rattle.ss_disk.specs.declared.disk.FileNo.{FileNo}
use Rattle.ss_disk.specs.declared.crash.Torn.{Torn}
use Rattle.ss_disk.specs.declared.crash.Torn.TheVariants.{Nothing, Whole, Fill}
use Rattle.ss_disk.specs.declared.events.Event.{Event}
use Rattle.ss_disk.specs.declared.events.Event.TheVariants.{Wrote, Cut, Synced}
use Rattle.ss_disk.specs.Files.{Files, file, with_file, with_bytes_at}
use Rattle.ss_disk.specs.Crash.{TornWrite, TornCut}
use Rattle.ss_disk.specs.Steps.{done_write, undone_write, done_cut, undone_cut}
use Rattle.ss_disk.specs.Memory.{seen_behind, left_behind, seen_after, left_after, left_of, are_within, is_within}
use Rattle.ss_disk.specs.Tearing.{is_before, crash_moment, no_sync, synced_count, written_within, torn_write, torn_cut, torn_events, torn_image, crash_image}
use Rattle.ss_disk.specs.Happened.{left_at, seen_left}

-- Up to the last sync.

sync_behind : (xs : List Event) (n : ℕ) → no_sync (xs ++ Synced n ∷ []) ≡ false
sync_behind [] n = refl
sync_behind (Wrote m which at bytes done ∷ xs) n = sync_behind xs n
sync_behind (Cut m which len done ∷ xs) n = sync_behind xs n
sync_behind (Synced m ∷ xs) n = refl

other_behind : (xs : List Event) (e : Event) → ((n : ℕ) → e ≡ Synced n → ⊥) → no_sync (xs ++ e ∷ []) ≡ no_sync xs
other_behind [] (Wrote n which at bytes done) other = refl
other_behind [] (Cut n which len done) other = refl
other_behind [] (Synced n) other = absurd (other n refl)
other_behind (Wrote n which at bytes done ∷ xs) e other = other_behind xs e other
other_behind (Cut n which len done ∷ xs) e other = other_behind xs e other
other_behind (Synced n ∷ xs) e other = refl

count_sync : (xs : List Event) (n : ℕ) → synced_count (xs ++ Synced n ∷ []) ≡ suc (length xs)
count_sync [] n = refl
count_sync (Wrote m which at bytes done ∷ xs) n =
    ap (λ (b : Bool). if b then 0 else suc (synced_count (xs ++ Synced n ∷ []))) (sync_behind xs n) ∙ ap suc (count_sync xs n)
count_sync (Cut m which len done ∷ xs) n =
    ap (λ (b : Bool). if b then 0 else suc (synced_count (xs ++ Synced n ∷ []))) (sync_behind xs n) ∙ ap suc (count_sync xs n)
count_sync (Synced m ∷ xs) n = ap suc (count_sync xs n)

count_other : (xs : List Event) (e : Event) → ((n : ℕ) → e ≡ Synced n → ⊥) → synced_count (xs ++ e ∷ []) ≡ synced_count xs
count_other [] (Wrote n which at bytes done) other = refl
count_other [] (Cut n which len done) other = refl
count_other [] (Synced n) other = absurd (other n refl)
count_other (Wrote n which at bytes done ∷ xs) e other = λ k. if (other_behind xs e other) k then 0 else suc ((count_other xs e other) k)
count_other (Cut n which len done ∷ xs) e other = λ k. if (other_behind xs e other) k then 0 else suc ((count_other xs e other) k)
count_other (Synced n ∷ xs) e other = ap suc (count_other xs e other)

-- one event more, which is a sync, or is none
pub one_sync_more : (es : List Event) (i n : ℕ) (e : Event) → i < length es → e ≡ get_or es i e → e ≡ Synced n → i + 1 ≡ synced_count (take (i + 1) es)
one_sync_more es i n e within is sync =
    let long : length (take i es) ≡ i = length-take-le i es (omega (arith, within)) in
    let counts : synced_count (take (i + 1) es) ≡ suc (length (take i es)) =
    ap synced_count (take_more es i e within ∙ ap (λ (x : Event). take i es ++ x ∷ []) (sym is ∙ sync)) ∙ count_sync (take i es) n in
    omega (arith, long, counts)

pub another_more : (es : List Event) (i s : ℕ) (e : Event) → i < length es → e ≡ get_or es i e → ((n : ℕ) → e ≡ Synced n → ⊥) → s ≡ synced_count (take i es) → s ≡ synced_count (take (i + 1) es)
another_more es i s e within is other counts =
    counts ∙ sym (ap synced_count (take_more es i e within ∙ ap (λ (x : Event). take i es ++ x ∷ []) (sym is)) ∙ count_other (take i es) e other)

behind_count : (b : Bool) (e : Event) (es : List Event) (n : ℕ) → no_sync es ≡ b → no_sync (e ∷ es) ≡ no_sync es → no_sync (drop n es) ≡ true → no_sync (drop (if b then 0 else suc n) (e ∷ es)) ≡ true
behind_count true e es n is same none = same ∙ is
behind_count false e es n is same none = none

-- behind the last sync there is none
unsynced : (es : List Event) → no_sync (drop (synced_count es) es) ≡ true
unsynced [] = refl
unsynced (Wrote n which at bytes done ∷ es) = behind_count (no_sync es) (Wrote n which at bytes done) es (synced_count es) refl refl (unsynced es)
unsynced (Cut n which len done ∷ es) = behind_count (no_sync es) (Cut n which len done) es (synced_count es) refl refl (unsynced es)
unsynced (Synced n ∷ es) = unsynced es

-- What a crash leaves of one event.

within_either : (b : Bool) (which : FileNo) (at : ℕ) (bytes : List ℕ) (files : Files) → (b ≡ true → at ≤ length (file which files))
    → TornWrite which at (length bytes) files (if b then with_file which (with_bytes_at at bytes (file which files)) files else files)
within_either true which at bytes files le = done_write which at bytes files (le refl)
within_either false which at bytes files le = undone_write which at (length bytes) files

within_is_torn : (which : FileNo) (at : ℕ) (bytes : List ℕ) (files : Files) → TornWrite which at (length bytes) files (written_within which at bytes files)
within_is_torn which at bytes files = within_either (nat_le at (length (file which files))) which at bytes files (leb-true at (length (file which files)))

torn_write_is : (torn : Torn) (which : FileNo) (at : ℕ) (bytes : List ℕ) (files : Files) → TornWrite which at (length bytes) files (torn_write torn which at bytes files)
torn_write_is Nothing which at bytes files = undone_write which at (length bytes) files
torn_write_is Whole which at bytes files = within_is_torn which at bytes files
torn_write_is (Fill byte) which at bytes files =
    subst (λ (n : ℕ). TornWrite which at n files (written_within which at (replicate (length bytes) byte) files)) (length-replicate (length bytes) byte)
    (within_is_torn which at (replicate (length bytes) byte) files)

-- bytes written over all that is cut off
filled_cut : (which : FileNo) (len n : ℕ) (old new : Files) → n + len ≡ length (file which old) → TornWrite which len n old new → TornCut which len old new
filled_cut which len n old new is torn = record {
  bytes = torn.bytes;
  files = torn.files;
  stepped = record {
    before = torn.stepped.before;
    no_longer = omega (arith, torn.stepped.no_longer, is);
    no_shorter = omega (arith, torn.stepped.no_shorter);
  };
}

fill_either : (b : Bool) (which : FileNo) (len byte : ℕ) (files : Files) → (b ≡ true → len ≤ length (file which files))
    → TornCut which len files (if b then with_file which (with_bytes_at len (replicate (length (file which files) - len) byte) (file which files)) files else files)
fill_either true which len byte files le =
    let n : ℕ = length (file which files) - len in
    let bytes : List ℕ = replicate n byte in
    let whole : n + len ≡ length (file which files) = omega (arith, le refl) in
    filled_cut which len n files (with_file which (with_bytes_at len bytes (file which files)) files) whole
    (subst (λ (m : ℕ). TornWrite which len m files (with_file which (with_bytes_at len bytes (file which files)) files)) (length-replicate n byte) (done_write which len bytes files (le refl)))
fill_either false which len byte files le = undone_cut which len files

torn_cut_is : (torn : Torn) (which : FileNo) (len : ℕ) (files : Files) → TornCut which len files (torn_cut torn which len files)
torn_cut_is Nothing which len files = undone_cut which len files
torn_cut_is Whole which len files = done_cut which len files
torn_cut_is (Fill byte) which len files = fill_either (nat_le len (length (file which files))) which len byte files (leb-true len (length (file which files)))

-- What a crash leaves of a disk.

-- what is torn, one event after another, a crash may leave
torn_left : (torn : Torn) (es : List Event) (seen : Files) (may : Files → Type 0) (image : Files) → no_sync es ≡ true → may image → left_after es seen may (torn_events torn es image)
torn_left torn [] seen may image none left = left
torn_left torn (Wrote n which at bytes done ∷ es) seen may image none left =
    torn_left torn es (seen_behind (Wrote n which at bytes done) seen) (left_behind (Wrote n which at bytes done) seen may) (torn_write torn which at bytes image) none
    (image, left, torn_write_is torn which at bytes image)
torn_left torn (Cut n which len done ∷ es) seen may image none left =
    torn_left torn es (seen_behind (Cut n which len done) seen) (left_behind (Cut n which len done) seen may) (torn_cut torn which len image) none (image, left, torn_cut_is torn which len image)
torn_left torn (Synced n ∷ es) seen may image none left = cc

left_append : (xs ys : List Event) (seen : Files) (may : Files → Type 0) (image : Files) → left_after ys (seen_after xs seen) (left_after xs seen may) image → left_after (xs ++ ys) seen may image
left_append [] ys seen may image left = left
left_append (x ∷ xs) ys seen may image left = left_append xs ys (seen_behind x seen) (left_behind x seen may) image left

prefix_within : (n : ℕ) (es : List Event) (seen : Files) → are_within es seen ≡ true → are_within (take n es) seen ≡ true
prefix_within zero es seen within = refl
prefix_within (suc n) [] seen within = refl
prefix_within (suc n) (e ∷ es) seen within =
    let this : is_within e seen ≡ true = first_of_two (is_within e seen) (are_within es (seen_behind e seen)) within in
    let rest : are_within (take n es) (seen_behind e seen) ≡ true = prefix_within n es (seen_behind e seen) (second_of_two (is_within e seen) (are_within es (seen_behind e seen)) within) in
    λ k. this k && rest k

image_left : (torn : Torn) (es : List Event) (first : Files) → are_within es first ≡ true → left_of first es (torn_image torn es first)
image_left torn es first within =
    let n : ℕ = synced_count es in
    let durable = seen_left (take n es) first (λ (i : Files). i ≡ first) (prefix_within n es first within) refl in
    let loose = torn_left torn (drop n es) (seen_after (take n es) first) (left_after (take n es) first (λ (i : Files). i ≡ first)) (seen_after (take n es) first) (unsynced es) durable in
    subst (λ (l : List Event). left_of first l (torn_image torn es first)) (take-append-drop n es)
    (left_append (take n es) (drop n es) first (λ (i : Files). i ≡ first) (torn_image torn es first) loose)

counted : (b : Bool) (m n : ℕ) → m ≤ n → (if b then suc m else 0) ≤ suc n
counted true m n le = omega arith
counted false m n le = omega arith

-- no more events have happened than there are
pub crash_moment_within : (call : ℕ) (es : List Event) → crash_moment call es ≤ length es
crash_moment_within call [] = omega arith
crash_moment_within call (e ∷ es) = counted (is_before call e) (crash_moment call es) (length es) (crash_moment_within call es)

-- The same for what the code has at hand.

module _ (torn : Torn) (first copied replayed image : Files) (es events past durable loose : List Event) (call happened synced : ℕ) (within : are_within es first ≡ true) (is_events : events ≡ es)
    (is_happened : happened ≡ crash_moment call events) (is_past : past ≡ take happened events) (is_synced : synced ≡ synced_count past) (is_durable : durable ≡ take synced past) (is_copied : copied ≡ first) where
  past_is : past ≡ take (crash_moment call es) es
  past_is = is_past ∙ (λ k. take (is_happened k) events) ∙ (λ k. take (crash_moment call (is_events k)) (is_events k))

  pub durable_within : are_within durable copied ≡ true
  durable_within =
      (λ k. are_within (is_durable k) (is_copied k)) ∙ prefix_within synced past first (ap (λ (l : List Event). are_within l first) past_is ∙ prefix_within (crash_moment call es) es first within)

  pub image_is : loose ≡ drop synced past → replayed ≡ seen_after durable copied → image ≡ torn_events torn loose replayed → image ≡ crash_image torn call es first
  image_is is_loose is_replayed is =
      let behind : loose ≡ drop (synced_count past) past = is_loose ∙ (λ k. drop (is_synced k) past) in
      let before : durable ≡ take (synced_count past) past = is_durable ∙ (λ k. take (is_synced k) past) in
      let from : replayed ≡ seen_after (take (synced_count past) past) first = is_replayed ∙ (λ k. seen_after (before k) (is_copied k)) in
      is ∙ (λ k. torn_events torn (behind k) (from k)) ∙ ap (λ (l : List Event). torn_image torn l first) past_is

  pub image_may_be_left : image ≡ crash_image torn call es first → left_at first es (crash_moment call es) image
  image_may_be_left is =
      subst (λ (i : Files). left_at first es (crash_moment call es) i) (sym is)
      (image_left torn (take (crash_moment call es) es) first (prefix_within (crash_moment call es) es first within))
