-- What a crash leaves while a new generation takes the place of the current one.
use Rattle.std.proofs.Common.{◌≡◌, ◌∙◌, ◌⊎◌, inl, inr, ℕ, ◌+◌, ◌^◌, ◌<◌, ◌≤◌, ◌==◌, ◌%◌, List, [], ◌∷◌, ◌++◌, length, take, drop, Bool, true, false, if◌then◌else◌, refl, sym, ap, subst, arith, append-nil}
use Rattle.std.proofs.lemmas.List.Elements.{All-nil}
use Rattle.std.proofs.lemmas.List.{take_at}
use Rattle.std.proofs.Math.ListN.{drop_of_length-le}
use Rattle.ss_model.specs.declared.entry.Mode.{Mode}
use Rattle.ss_disk.specs.declared.disk.FileNo.{FileNo}
use Rattle.ss_disk.specs.declared.disk.FileNo.TheVariants.{Selector, First, Second}
use Rattle.ss_disk.specs.Files.{Files, file, with_file, with_bytes_at}
use Rattle.ss_disk.specs.Crash.{After, InFile, Only, TornWrite}
use Rattle.ss_disk.specs.Moments.{LeavesOnly}
use Rattle.ss_disk.proofs.CallerLemmas.{runs_join, leaves_less}
use Rattle.ss_cmdlog.specs.Generation.{Stood, IsStood, IsGroup, head_bytes, front_bytes}
use Rattle.ss_cmdlog.specs.Store.{StandsFor, current_file}
use Rattle.ss_cmdlog.specs.Log.{IsOpenAt}
use Rattle.ss_cmdlog.specs.Renewing.{IsOtherwise, KeepsRest, other_file, renewed, selector_byte}
use Rattle.ss_cmdlog.proofs.Filled.{at_end}
use Rattle.ss_cmdlog.proofs.Formatted.{one_byte}
use Rattle.ss_cmdlog.proofs.Torn.{after_only, own_file, open_stands}

-- ---- bytes behind bytes

pub at_the_end : (old bytes : List ℕ) (n : ℕ) → n ≡ length old → with_bytes_at n bytes old ≡ old ++ bytes
at_the_end old bytes n is =
    let front : take n old ≡ old = (λ k. take n (sym (append-nil old) k)) ∙ take_at old [] n (sym is) in
    let none : drop (n + length bytes) old ≡ [] = drop_of_length-le old {i = n + length bytes} (omega (arith, is)) in
    (λ k. (front k ++ bytes) ++ none k) ∙ append-nil (old ++ bytes)

-- ---- one file alone

pub rest_own : (which : FileNo) (may : Files → Type 0) (image : Files) → may image → KeepsRest which may image
rest_own Selector may image left = (image, left, (image.selector, refl))
rest_own First may image left = (image, left, (image.first, refl))
rest_own Second may image left = (image, left, (image.second, refl))

pub otherwise_twice : (which : FileNo) (old mid new : Files) → IsOtherwise which old mid → IsOtherwise which mid new → IsOtherwise which old new
otherwise_twice Selector old mid new one other = (other.0, other.1 ∙ ap (with_file Selector other.0) one.1)
otherwise_twice First old mid new one other = (other.0, other.1 ∙ ap (with_file First other.0) one.1)
otherwise_twice Second old mid new one other = (other.0, other.1 ∙ ap (with_file Second other.0) one.1)

pub otherwise_same : (which : FileNo) (old new : Files) → new ≡ old → IsOtherwise which old new
otherwise_same Selector old new is = (old.selector, is)
otherwise_same First old new is = (old.first, is)
otherwise_same Second old new is = (old.second, is)

pub rest_stepped : (which : FileNo) (step : List ℕ → List ℕ → Type 0) (may : Files → Type 0) (image : Files) → After (InFile which step) may image → KeepsRest which may image
rest_stepped which step may image after = (after.0, after.1, (after.2.bytes, after.2.files))

pub rest_on : {D : Type 0} (which : FileNo) (moment : D → ℕ) (images : D → ℕ → Files → Type 0) (old mid new : D) → LeavesOnly moment images old mid (KeepsRest which (images old (moment old)))
    → LeavesOnly moment images mid new (KeepsRest which (images mid (moment mid))) → LeavesOnly moment images old new (KeepsRest which (images old (moment old)))
rest_on which moment images old mid new first second =
    runs_join moment images old mid new (KeepsRest which (images old (moment old))) first
    (leaves_less moment images mid new (KeepsRest which (images mid (moment mid))) (KeepsRest which (images old (moment old))) second
    (λ image keeps. (let before = at_end moment images old mid (KeepsRest which (images old (moment old))) first keeps.0 keeps.1 in (before.0, before.1, otherwise_twice which before.0 keeps.0 image before.2 keeps.2))))

-- ---- the two files

either_file : (byte : ℕ) → (current_file byte ≡ First) ⊎ (current_file byte ≡ Second)
either_file byte = by (byte % 2 == 0)
  where
    by : (b : Bool) → ((if b then First else Second) ≡ First) ⊎ ((if b then First else Second) ≡ Second)
    by true = inl refl
    by false = inr refl

-- what stands in a file of two where the other is written
other_stays : (current : FileNo) (bytes : List ℕ) (disk : Files) → (current ≡ First) ⊎ (current ≡ Second) → (file current (with_file (other_file current) bytes disk) ≡ file current disk) × ((with_file (other_file current) bytes disk).selector ≡ disk.selector)
other_stays Selector bytes disk (inl is) = cc
other_stays Selector bytes disk (inr is) = cc
other_stays First bytes disk which = (refl, refl)
other_stays Second bytes disk which = (refl, refl)

module _ (disk : Files) (current : FileNo) (gate : ℕ) (s : Stood) (at : IsOpenAt disk current gate s) where
  abbrev two : (current ≡ First) ⊎ (current ≡ Second)
  two = subst (λ (which : FileNo). (which ≡ First) ⊎ (which ≡ Second)) (sym at.named) (either_file at.byte)

  -- the log is where it was, whatever the other file has
  pub still_open : (new : Files) → IsOtherwise (other_file current) disk new → IsOpenAt new current gate s
  still_open new otherwise =
      let stays = other_stays current otherwise.0 disk two in
      record {
        stood = at.stood;
        byte = at.byte;
        selector = ap (λ (d : Files). d.selector) otherwise.1 ∙ stays.1 ∙ at.selector;
        named = at.named;
        place = at.place;
        shut = at.shut;
        closed = at.closed;
        rest = at.rest;
        bytes = ap (λ (d : Files). file current d) otherwise.1 ∙ stays.0 ∙ at.bytes;
      }

  -- while the other file is written, a crash leaves what there was
  pub rest_stands : (may : Files → Type 0) (image : Files) → Only disk may → KeepsRest (other_file current) may image → StandsFor image s
  rest_stands may image only keeps =
      let otherwise : IsOtherwise (other_file current) disk image = (keeps.2.0, keeps.2.1 ∙ ap (with_file (other_file current) keeps.2.0) (only keeps.0 keeps.1)) in
      open_stands image current gate s (still_open image otherwise)

renewed_stood : (mode : Mode) (place : ℕ) (image : List ℕ) → place ≤ 2 ^ 60 → length image < 2 ^ 64 → IsStood (renewed mode place image)
renewed_stood mode place image small long = record { first = small; image = long; groups = All-nil (IsGroup true mode) }

renewed_front : (mode : Mode) (place : ℕ) (image front bytes : List ℕ) → front ++ image ≡ head_bytes true mode place image → bytes ≡ (front ++ image) ++ 0 ∷ [] → bytes ≡ front_bytes (renewed mode place image) ++ 0 ∷ []
renewed_front mode place image front bytes head is = is ∙ ap (λ (l : List ℕ). l ++ 0 ∷ []) (head ∙ sym (append-nil (head_bytes true mode place image)))

-- files of which one has s, and the other the next generation
pub record HasBoth (disk : Files) (current : FileNo) (gate : ℕ) (s next : Stood) : Type 0 where
  pub at : IsOpenAt disk current gate s
  pub stood : IsStood next
  pub bytes : file (other_file current) disk ≡ front_bytes next ++ 0 ∷ []

pub has_both : (old new : Files) (current : FileNo) (gate place : ℕ) (s : Stood) (front image : List ℕ) → IsOpenAt old current gate s → place ≤ 2 ^ 60 → length image < 2 ^ 64 → front ++ image ≡ head_bytes true s.mode place image
    → new ≡ with_file (other_file current) ((front ++ image) ++ 0 ∷ []) old → HasBoth new current gate s (renewed s.mode place image)
has_both old new current gate place s front image at small long head is = record {
  at = still_open old current gate s at new ((front ++ image) ++ 0 ∷ [], is);
  stood = renewed_stood s.mode place image small long;
  bytes = renewed_front s.mode place image front (file (other_file current) new) head (ap (λ (d : Files). file (other_file current) d) is ∙ own_file (other_file current) ((front ++ image) ++ 0 ∷ []) old);
}

module _ (disk : Files) (current : FileNo) (gate : ℕ) (s next : Stood) (both : HasBoth disk current gate s next) where
  abbrev which_two : (current ≡ First) ⊎ (current ≡ Second)
  which_two = subst (λ (which : FileNo). (which ≡ First) ⊎ (which ≡ Second)) (sym both.at.named) (either_file both.at.byte)

  -- a selector of one byte names the one or the other
  names_one : (byte : ℕ) → (current_file byte ≡ current) ⊎ (current_file byte ≡ other_file current)
  names_one byte = by current (current_file byte) which_two (either_file byte)
    where
      by : (c f : FileNo) → (c ≡ First) ⊎ (c ≡ Second) → (f ≡ First) ⊎ (f ≡ Second) → (f ≡ c) ⊎ (f ≡ other_file c)
      by c f (inl c_is) (inl f_is) = inl (f_is ∙ sym c_is)
      by c f (inl c_is) (inr f_is) = inr (f_is ∙ ap other_file (sym c_is))
      by c f (inr c_is) (inl f_is) = inr (f_is ∙ ap other_file (sym c_is))
      by c f (inr c_is) (inr f_is) = inl (f_is ∙ sym c_is)

  -- a write of the selector changes neither file
  same_files : (bytes : List ℕ) (which : FileNo) → (which ≡ First) ⊎ (which ≡ Second) → file which (with_file Selector bytes disk) ≡ file which disk
  same_files bytes Selector (inl is) = cc
  same_files bytes Selector (inr is) = cc
  same_files bytes First is = refl
  same_files bytes Second is = refl

  other_two : (other_file current ≡ First) ⊎ (other_file current ≡ Second)
  other_two = by current which_two
    where
      by : (c : FileNo) → (c ≡ First) ⊎ (c ≡ Second) → (other_file c ≡ First) ⊎ (other_file c ≡ Second)
      by c (inl is) = inr (ap other_file is)
      by c (inr is) = inl (ap other_file is)

  -- while the selector is written, whatever byte it holds, one of the two stands there
  pub either_stands : (image : Files) → TornWrite Selector 0 1 disk image → StandsFor image s ⊎ StandsFor image next
  either_stands image torn =
      let long : length torn.bytes ≡ 1 = (let old : length disk.selector ≡ 1 = ap (λ (l : List ℕ). length l) both.at.selector in omega (arith, torn.stepped.no_longer, torn.stepped.no_shorter, old)) in
      let selector : image.selector ≡ torn.bytes = ap (λ (d : Files). d.selector) torn.files in
      elim (one_byte torn.bytes (omega (arith, long))) [
        | inl none ↦ absurd (let zero' : 1 ≡ 0 = sym long ∙ ap (λ (l : List ℕ). length l) none in omega (arith, zero'))
        | inr some ↦ elim (names_one some.0) [
          | inl is ↦ inl (record {
            byte = some.0;
            selector = selector ∙ some.1;
            current = record {
              stood = both.at.stood;
              gate = both.at.shut;
              rest = both.at.rest;
              closed = both.at.closed;
              spelled = ap (λ (which : FileNo). file which image) is ∙ ap (λ (d : Files). file current d) torn.files ∙ same_files torn.bytes current which_two ∙ both.at.bytes;
            };
          })
          | inr is ↦ inr (record {
            byte = some.0;
            selector = selector ∙ some.1;
            current = record {
              stood = both.stood;
              gate = 0;
              rest = [];
              closed = λ e. cc;
              spelled = ap (λ (which : FileNo). file which image) is ∙ ap (λ (d : Files). file (other_file current) d) torn.files ∙ same_files torn.bytes (other_file current) other_two ∙ both.bytes;
            };
          })
        ]
      ]

  byte_names : (which : FileNo) → (which ≡ First) ⊎ (which ≡ Second) → which ≡ current_file (selector_byte which)
  byte_names Selector (inl is) = cc
  byte_names Selector (inr is) = cc
  byte_names First is = refl
  byte_names Second is = refl

  -- and then the log is open at the next one
  pub next_open : (new : Files) (n : ℕ) → n ≡ length (front_bytes next) → new ≡ with_file Selector (with_bytes_at 0 (selector_byte (other_file current) ∷ []) (file Selector disk)) disk → IsOpenAt new (other_file current) n next
  next_open new n long is = record {
    stood = both.stood;
    byte = selector_byte (other_file current);
    selector = ap (λ (d : Files). d.selector) is ∙ ap (λ (l : List ℕ). with_bytes_at 0 (selector_byte (other_file current) ∷ []) l) both.at.selector;
    named = byte_names (other_file current) other_two;
    place = long;
    shut = 0;
    closed = λ e. cc;
    rest = [];
    bytes = ap (λ (d : Files). file (other_file current) d) is ∙ same_files (with_bytes_at 0 (selector_byte (other_file current) ∷ []) (file Selector disk)) (other_file current) other_two ∙ both.bytes;
  }

-- the other file is written, and then the selector
pub switched : {D : Type 0} (moment : D → ℕ) (images : D → ℕ → Files → Type 0) (old mid new : D) (old_seen mid_seen : Files) (current : FileNo) (gate : ℕ) (s next : Stood)
    → IsOpenAt old_seen current gate s → Only old_seen (images old (moment old)) → HasBoth mid_seen current gate s next → Only mid_seen (images mid (moment mid))
    → LeavesOnly moment images old mid (KeepsRest (other_file current) (images old (moment old))) → LeavesOnly moment images mid new (After (TornWrite Selector 0 1) (images mid (moment mid)))
    → LeavesOnly moment images old new (λ image. StandsFor image s ⊎ StandsFor image next)
switched moment images old mid new old_seen mid_seen current gate s next at settled both only first second =
    runs_join moment images old mid new (λ image. StandsFor image s ⊎ StandsFor image next)
    (leaves_less moment images old mid _ (λ image. StandsFor image s ⊎ StandsFor image next) first (λ image keeps. inl (rest_stands old_seen current gate s at (images old (moment old)) image settled keeps)))
    (leaves_less moment images mid new _ (λ image. StandsFor image s ⊎ StandsFor image next) second
    (λ image after. either_stands mid_seen current gate s next both image (after_only mid_seen (images mid (moment mid)) (TornWrite Selector 0 1) image only after)))

-- while the other file alone is written
pub unswitched : {D : Type 0} (moment : D → ℕ) (images : D → ℕ → Files → Type 0) (old new : D) (old_seen : Files) (current : FileNo) (gate : ℕ) (s next : Stood)
    → IsOpenAt old_seen current gate s → Only old_seen (images old (moment old)) → LeavesOnly moment images old new (KeepsRest (other_file current) (images old (moment old)))
    → LeavesOnly moment images old new (λ image. StandsFor image s ⊎ StandsFor image next)
unswitched moment images old new old_seen current gate s next at settled first =
    leaves_less moment images old new _ (λ image. StandsFor image s ⊎ StandsFor image next) first (λ image keeps. inl (rest_stands old_seen current gate s at (images old (moment old)) image settled keeps))

-- ---- a file filled in parts

with_twice : (which : FileNo) (a b : List ℕ) (disk : Files) → with_file which b (with_file which a disk) ≡ with_file which b disk
with_twice Selector a b disk = refl
with_twice First a b disk = refl
with_twice Second a b disk = refl

-- bytes behind those that a file was filled with
pub filled_more : (which : FileNo) (old mid new : Files) (bytes more : List ℕ) → mid ≡ with_file which bytes old → new ≡ with_file which (file which mid ++ more) mid → new ≡ with_file which (bytes ++ more) old
filled_more which old mid new bytes more one other =
    let has : file which mid ≡ bytes = ap (λ (d : Files). file which d) one ∙ own_file which bytes old in
    other ∙ (λ k. with_file which (has k ++ more) (one k)) ∙ with_twice which bytes (bytes ++ more) old

pub length_filled : (which : FileNo) (old mid : Files) (bytes : List ℕ) → mid ≡ with_file which bytes old → length bytes ≡ length (file which mid)
length_filled which old mid bytes is = sym (ap (λ (d : Files). length (file which d)) is ∙ ap (λ (l : List ℕ). length l) (own_file which bytes old))

pub otherwise_filled : (which : FileNo) (old mid new : Files) (bytes : List ℕ) → mid ≡ with_file which bytes old → new ≡ mid → IsOtherwise which old new
otherwise_filled which old mid new bytes one same = (bytes, same ∙ one)
