-- A row that was read, and one that was not.
use Rattle.std.proofs.Common.{◌≡◌, ◌∙◌, ℕ, ◌-◌, List, ◌++◌, length, drop, Ok, Result, refl, sym, ap, subst, arith, length-append, drop_at}
use Rattle.ss_value.specs.declared.text.ValueError.{ValueError}
use Rattle.ss_value.specs.declared.text.ValueError.TheVariants.{NoMemory, Truncated, BadKind, NotUtf8, TextTooLong, WrongShape}
use Rattle.ss_value.specs.declared.value.Value.{Value}
use Rattle.ss_record.specs.Spelling.{row_bytes}
use Rattle.ss_record.specs.Bounds.{IsShort, IsTypedRow}
use Rattle.ss_record.specs.Reading.{row_at, Fails}
use Rattle.ss_record.proofs.Again.{row_again}
use Rattle.ss_record.specs.Numbers.{IsBytes}
use Rattle.ss_record.specs.Found.{IsRowInFront}
use Rattle.ss_record.proofs.Takes.{row_takes, ok_pair}

module _ (bytes rest : List ℕ) (row : List Value) (n : ℕ) (are : IsBytes bytes) (read : row_at bytes ≡ Ok (row, rest)) (is : n ≡ length bytes - length rest) where
  takes : (bytes ≡ row_bytes row ++ rest) × IsShort row × IsBytes rest × IsTypedRow row
  takes = row_takes bytes row rest are read

  spelled : bytes ≡ row_bytes row ++ rest
  spelled = takes.0

  pub long : n ≡ length (row_bytes row)
  long = omega (arith, ap length spelled, length-append (row_bytes row) rest)

  behind : drop n bytes ≡ rest
  behind = ap (λ (l : List ℕ). drop n l) spelled ∙ drop_at (row_bytes row) rest n (sym long)

  pub found : IsRowInFront bytes row n
  found = record { spelled = spelled ∙ ap (λ (l : List ℕ). row_bytes row ++ l) (sym behind); long = long; short = takes.1; typed = takes.3 }

  pub exact : row_at bytes ≡ Ok (row, drop n bytes)
  exact = read ∙ ap (λ (l : List ℕ). Ok (row, l)) (sym behind)

  -- no other row is spelled there
  pub only : (other : List Value) (after : List ℕ) → IsShort other → IsTypedRow other → bytes ≡ row_bytes other ++ after → other ≡ row
  only other after short typed is' = (ok_pair other row after rest (sym (ap row_at is' ∙ row_again other after short typed) ∙ read)).0

-- what is spelled is not refused, but for want of memory
pub not_refused : (e : ValueError) (bytes : List ℕ) (row : List Value) (rest : List ℕ) → IsShort row → IsTypedRow row → bytes ≡ row_bytes row ++ rest → Fails e (row_at bytes) → e ≡ NoMemory
not_refused NoMemory bytes row rest short typed is fails = refl
not_refused Truncated bytes row rest short typed is fails = let r = ap row_at is ∙ row_again row rest short typed in cc
not_refused BadKind bytes row rest short typed is fails = let r = ap row_at is ∙ row_again row rest short typed in cc
not_refused NotUtf8 bytes row rest short typed is fails = let r = ap row_at is ∙ row_again row rest short typed in cc
not_refused TextTooLong bytes row rest short typed is fails = let r = ap row_at is ∙ row_again row rest short typed in cc
not_refused WrongShape bytes row rest short typed is fails = let r = ap row_at is ∙ row_again row rest short typed in cc

pub refused_only : {Y : Type 0} (read : Result Y ValueError) (e : ValueError) (bytes : List ℕ) (row : List Value) (rest : List ℕ) → IsShort row → IsTypedRow row → bytes ≡ row_bytes row ++ rest → Fails e (row_at bytes) → Fails e read
refused_only read e bytes row rest short typed is fails = subst (λ (f : ValueError). Fails f read) (sym (not_refused e bytes row rest short typed is fails)) tt
