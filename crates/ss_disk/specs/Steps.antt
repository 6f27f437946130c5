-- What a read gives behind a write or a cut is one of the things that a crash may leave.
use Rattle.std.specs.Prelude.{◌≡◌, ℕ, ◌+◌, ◌-◌, ◌≤◌, List, ◌++◌, length, take, drop, refl}
use Rattle.std.proofs.Common.{sym, ◌∙◌, ap, arith, length-append, length-drop, append_assoc}
use Rattle.std.proofs.lemmas.List.{take_at, drop_at, length-take, length-take-le, take-take}
use Rattle.ss_disk.specs.declared.disk.FileNo.{FileNo}
use Rattle.ss_disk.specs.declared.disk.FileNo.TheVariants.{Selector, First, Second}
use Rattle.ss_disk.specs.Files.{Files, file, with_file, with_bytes_at}
use Rattle.ss_disk.specs.Crash.{TornFile, CutFile, TornWrite, TornCut}

pub with_own_file : (which : FileNo) (disk : Files) → with_file which (file which disk) disk ≡ disk
with_own_file Selector disk = refl
with_own_file First disk = refl
with_own_file Second disk = refl

whole_write : (at : ℕ) (bytes old : List ℕ) → at ≤ length old → TornFile at (length bytes) old (with_bytes_at at bytes old)
whole_write at bytes old le =
    let front = length-take-le at old le in
    let long : length (with_bytes_at at bytes old) ≡ at + length bytes + (length old - (at + length bytes)) =
    omega (arith, length-append (take at old ++ bytes) (drop (at + length bytes) old), length-append (take at old) bytes, front, length-drop (at + length bytes) old) in
    record {
      before = ap (λ (l : List ℕ). take at l) (append_assoc (take at old) bytes (drop (at + length bytes) old)) ∙ take_at (take at old) (bytes ++ drop (at + length bytes) old) at front;
      after = drop_at (take at old ++ bytes) (drop (at + length bytes) old) (at + length bytes) (omega (arith, length-append (take at old) bytes, front));
      no_shorter = omega (arith, long);
      no_longer = omega (arith, long);
    }

pub done_write : (which : FileNo) (at : ℕ) (bytes : List ℕ) (seen : Files) → at ≤ length (file which seen) → TornWrite which at (length bytes) seen (with_file which (with_bytes_at at bytes (file which seen)) seen)
done_write which at bytes seen le = record { bytes = with_bytes_at at bytes (file which seen); files = refl; stepped = whole_write at bytes (file which seen) le }

pub undone_write : (which : FileNo) (at n : ℕ) (seen : Files) → TornWrite which at n seen seen
undone_write which at n seen = record {
  bytes = file which seen;
  files = sym (with_own_file which seen);
  stepped = record { before = refl; after = refl; no_shorter = omega arith; no_longer = omega arith };
}

whole_cut : (len : ℕ) (old : List ℕ) → CutFile len old (take len old)
whole_cut len old = record {
  before = take-take len len old (omega arith);
  no_longer = omega (arith, length-take len old);
  no_shorter = omega (arith, length-take len old);
}

pub done_cut : (which : FileNo) (len : ℕ) (seen : Files) → TornCut which len seen (with_file which (take len (file which seen)) seen)
done_cut which len seen = record { bytes = take len (file which seen); files = refl; stepped = whole_cut len (file which seen) }

pub undone_cut : (which : FileNo) (len : ℕ) (seen : Files) → TornCut which len seen seen
undone_cut which len seen = record {
  bytes = file which seen;
  files = sym (with_own_file which seen);
  stepped = record { before = refl; no_longer = omega arith; no_shorter = omega arith };
}
