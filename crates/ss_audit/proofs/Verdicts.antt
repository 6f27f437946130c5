-- Verdicts, check by check.
use Rattle.std.proofs.Common.{◌≡◌, ◌∙◌, ◌&&◌, ℕ, true, false, cond, Some, None, is_none, Result, Ok, Err, sym, ap}
use Rattle.std.specs.Prelude.{⊤}
use Rattle.ss_lines.specs.declared.line.Line.{Line}
use Rattle.ss_model.specs.declared.catalog.Catalog.{Catalog}
use Rattle.ss_model.specs.Database.{Database}
use Rattle.ss_model.specs.ReportLines.{done_line}
use Rattle.ss_model.specs.Settling.{next_settled}
use Rattle.ss_audit_laws.specs.Shape.{OrLine}
use Rattle.ss_audit_laws.specs.Checks.{Broken as BrokenAt, checked, ends_well, says}
use Rattle.ss_audit.specs.declared.broken.Broken.{Broken}
use Rattle.ss_audit.specs.declared.broken.Broken.TheVariants.{NoMemory, Line as LineOf}
use Rattle.ss_audit.specs.declared.verdict.Verdict.{Verdict}
use Rattle.ss_audit.specs.declared.verdict.Verdict.TheVariants.{Yes}
use Rattle.ss_audit.specs.Breaks.{BreaksAs, IsNo, verdict_of}

-- a line breaks this check
pub told_no : {A : Type 0} (check : ℕ) (x : OrLine A) (f : A → Result ℕ BrokenAt) (e : Broken) (v : Verdict) → BreaksAs x e → IsNo check e v → v ≡ verdict_of (checked check x f)
told_no check x f NoMemory v h k = absurd k
told_no {A} check x f (LineOf n) v h k = k ∙ sym (ap (λ (o : OrLine A). verdict_of (checked check o f)) h)

-- none does, and the later checks tell
pub told_behind : {A : Type 0} (check : ℕ) (x : OrLine A) (f : A → Result ℕ BrokenAt) (a : A) (v : Verdict) → x ≡ Ok a → v ≡ verdict_of (f a) → v ≡ verdict_of (checked check x f)
told_behind {A} check x f a v h k = k ∙ sym (ap (λ (o : OrLine A). verdict_of (checked check o f)) h)

-- yes is told of no other answer
pub yes_ok : (x : Result ℕ BrokenAt) (n : ℕ) → verdict_of x ≡ Yes n → x ≡ Ok n
yes_ok (Ok m) n h = let same : m ≡ n = cc in ap (λ k. Ok k) same
yes_ok (Err b) n h = absurd (cc)

-- ---- the end

-- the last line counts the entries, and nothing is left to run
pub ends_so : (catalog : Catalog) (d : Database) (entries : ℕ) (l : Line) → says (done_line entries) l ≡ true → next_settled catalog d ≡ None → ends_well catalog d entries l ≡ Ok tt
ends_so catalog d entries l told none = (λ k. cond {A = OrLine ⊤} (told k && is_none (none k)) (Ok tt) (Err l.number))

-- it says something else
pub ends_other : (catalog : Catalog) (d : Database) (entries : ℕ) (l : Line) → says (done_line entries) l ≡ false → ends_well catalog d entries l ≡ Err l.number
ends_other catalog d entries l odd = (λ k. cond {A = OrLine ⊤} (odd k && is_none (next_settled catalog d)) (Ok tt) (Err l.number))

-- a procedure is left to run
pub ends_early : (catalog : Catalog) (d : Database) (entries q : ℕ) (l : Line) → says (done_line entries) l ≡ true → next_settled catalog d ≡ Some q → ends_well catalog d entries l ≡ Err l.number
ends_early catalog d entries q l told some = (λ k. cond {A = OrLine ⊤} (told k && is_none (some k)) (Ok tt) (Err l.number))
