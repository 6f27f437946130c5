-- A record that was read, and one that was not.
use Rattle.std.proofs.Common.{◌≡◌, ◌∙◌, ℕ, ◌-◌, List, ◌++◌, length, drop, Ok, Result, refl, sym, ap, subst, arith, length-append, drop_at}
use Rattle.ss_model.specs.declared.entry.Entry.{Entry}
use Rattle.ss_record.specs.declared.record.RecordError.{RecordError}
use Rattle.ss_record.specs.declared.record.RecordError.TheVariants.{NoMemory, Truncated, BadKind, BadField}
use Rattle.ss_record.specs.Numbers.{IsBytes}
use Rattle.ss_record.specs.Spelling.{record_bytes}
use Rattle.ss_record.specs.Bounds.{IsRecordable, IsTyped}
use Rattle.ss_record.specs.Records.{record_at, Refuses}
use Rattle.ss_record.specs.Found.{IsRecordInFront}
use Rattle.ss_record.proofs.RecordAgain.{record_again}
use Rattle.ss_record.proofs.RecordTakes.{IsTaken, record_takes, ok_pair}

module _ (bytes rest : List ℕ) (e : Entry) (n : ℕ) (are : IsBytes bytes) (read : record_at bytes ≡ Ok (e, rest)) (is : n ≡ length bytes - length rest) where
  takes : IsTaken bytes e rest
  takes = record_takes bytes e rest are read

  pub long : n ≡ length (record_bytes e)
  long = omega (arith, ap length takes.0, length-append (record_bytes e) rest)

  behind : drop n bytes ≡ rest
  behind = ap (λ (l : List ℕ). drop n l) takes.0 ∙ drop_at (record_bytes e) rest n (sym long)

  pub found : IsRecordInFront bytes e n
  found = record { spelled = takes.0 ∙ ap (λ (l : List ℕ). record_bytes e ++ l) (sym behind); long = long; recordable = takes.2; typed = takes.3 }

  pub exact : record_at bytes ≡ Ok (e, drop n bytes)
  exact = read ∙ ap (λ (l : List ℕ). Ok (e, l)) (sym behind)

  -- no other entry is spelled there
  pub only : (other : Entry) (after : List ℕ) → IsRecordable other → IsTyped other → bytes ≡ record_bytes other ++ after → other ≡ e
  only other after ok typed is' = (ok_pair other e after rest (sym (ap record_at is' ∙ record_again other after ok typed) ∙ read)).0

-- what is spelled is not refused, but for want of memory
not_refused : (x : RecordError) (bytes : List ℕ) (e : Entry) (rest : List ℕ) → IsRecordable e → IsTyped e → bytes ≡ record_bytes e ++ rest → Refuses x (record_at bytes) → x ≡ NoMemory
not_refused NoMemory bytes e rest ok typed is refuses = refl
not_refused Truncated bytes e rest ok typed is refuses = let r = ap record_at is ∙ record_again e rest ok typed in cc
not_refused BadKind bytes e rest ok typed is refuses = let r = ap record_at is ∙ record_again e rest ok typed in cc
not_refused BadField bytes e rest ok typed is refuses = let r = ap record_at is ∙ record_again e rest ok typed in cc

pub refused_only : {Y : Type 0} (read : Result Y RecordError) (x : RecordError) (bytes : List ℕ) (e : Entry) (rest : List ℕ) → IsRecordable e → IsTyped e → bytes ≡ record_bytes e ++ rest
    → Refuses x (record_at bytes) → Refuses x read
refused_only read x bytes e rest ok typed is refuses = subst (λ (f : RecordError). Refuses f read) (sym (not_refused x bytes e rest ok typed is refuses)) tt
