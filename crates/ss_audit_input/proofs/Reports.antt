-- The lines of a report, and what an audit of them says.
use Rattle.std.proofs.Common.{◌≡◌, ◌≤◌, ◌<◌, ◌+◌, ◌∙◌, ℕ, suc, List, [], ◌∷◌, ◌++◌, length, take, drop, get_or, Ok, Err, refl, sym, ap, subst, inl, inr}
use Rattle.std.specs.Prelude.{Result, IfOk}
use Rattle.std.specs.List.{AllByRecursion}
use Rattle.std.proofs.lemmas.List.{take_all, take_more}
use Rattle.ss_lines.specs.declared.line.Line.{Line}
use Rattle.ss_model.specs.declared.catalog.Catalog.{Catalog}
use Rattle.ss_model.specs.declared.entry.Listed.{Listed}
use Rattle.ss_model.specs.declared.entry.Request.{Request}
use Rattle.ss_model.specs.Accepted.{Accepted}
use Rattle.ss_model.specs.SparesAside.{with_spares}
use Rattle.ss_audit_laws.specs.Checks.{audited}
use Rattle.ss_audit_laws.specs.Valid.{AreLines, IsReadable, IsValid, bytes_of}
use Rattle.ss_audit.specs.declared.verdict.Verdict.{Verdict}
use Rattle.ss_audit.specs.declared.verdict.Verdict.TheVariants.{Yes}
use Rattle.ss_audit.specs.Breaks.{verdict_of}
use Rattle.ss_refusals.specs.declared.input.InputError.{InputError}
use Rattle.ss_refusals.specs.Refused.{RefusesFirst}
use Rattle.ss_refusals.specs.Starts.{HasBodiesFor, SaysCatalog}
use Rattle.ss_refusals.proofs.CallerLemmas.{parts_at}
use Rattle.ss_audit_input.specs.Audits.{AreScript, HasValue, number_behind}
use Rattle.ss_audit_input.specs.Refused.{RefusesAudit, RefusesReport, RefusesScript, RefusesTold}
use Rattle.ss_audit_input.specs.Told.{IsVerdict, IsVerdictOf}

-- ---- values

HasValues-push : (ls : List Line) (l : Line) → AllByRecursion HasValue ls → HasValue l → AllByRecursion HasValue (ls ++ l ∷ [])
HasValues-push [] l all has = (has, tt)
HasValues-push (k ∷ ls) l all has = (all.0, HasValues-push ls l all.1 has)

-- the line at an index has a value too
pub values_more : (ls : List Line) (i : ℕ) (l : Line) → i < length ls → l ≡ get_or ls i l → AllByRecursion HasValue (take i ls) → HasValue l → AllByRecursion HasValue (take (i + 1) ls)
values_more ls i l h is all has =
    let more : take (i + 1) ls ≡ take i ls ++ l ∷ [] = rw (take_more ls i l h) (ap (λ (x : Line). take i ls ++ x ∷ []) (sym is)) in
    rw more (HasValues-push (take i ls) l all has)

pub values_whole : (ls : List Line) (i : ℕ) → length ls ≤ i → AllByRecursion HasValue (take i ls) → AllByRecursion HasValue ls
values_whole ls i h all = subst (λ (xs : List Line). AllByRecursion HasValue xs) (take_all i ls h) all

-- the line at an index is the first without one
pub valueless_at : (ls : List Line) (i : ℕ) (l : Line) (e : InputError) → i < length ls → l ≡ get_or ls i l → AllByRecursion HasValue (take i ls) → RefusesTold l e → RefusesReport ls e
valueless_at ls i l e h is fine refused = record { before = take i ls; line = l; behind = drop (suc i) ls; parts = parts_at ls i l h is; fine = fine; refused = refused }

-- ---- numbers

pub behind_none : (ls : List Line) → length ls ≡ 0 → 1 ≡ number_behind ls
behind_none [] none = refl
behind_none (l ∷ ls) none = let no : ⊥ = cc in absurd no

pub behind_last : (ls : List Line) (l : Line) → number_behind (ls ++ l ∷ []) ≡ l.number + 1
behind_last [] l = refl
behind_last (k ∷ []) l = refl
behind_last (k ∷ m ∷ ls) l = behind_last (m ∷ ls) l

-- ---- verdicts

-- what an audit answers is the verdict of its report
pub told_of : {E : Type 0} (catalog : Catalog) (requests : List Request) (report lines : List Line) (end : ℕ) → end ≡ number_behind lines → (r : Result Verdict E)
    → IfOk r (λ v. v ≡ verdict_of (audited catalog requests report end))
    → IfOk r (λ v. (n : ℕ) → v ≡ Yes n → (list : List Listed) × IsValid catalog requests (bytes_of report) list × (length list ≡ n))
    → ((list : List Listed) → AreLines report → (is : IsValid catalog requests (bytes_of report) list) → IsReadable catalog requests (is.report).answers list → IfOk r (λ v. v ≡ Yes (length list)))
    → IfOk r (IsVerdictOf catalog requests report (number_behind lines))
told_of catalog requests report lines end is (Err e) told right valid = tt
told_of catalog requests report lines end is (Ok v) told right valid =
    record { is = told ∙ ap (λ (n : ℕ). verdict_of (audited catalog requests report n)) is; right = right; valid = valid }

-- ---- all lines

module _ (lines rest : List Line) (l : Line) (parts : lines ≡ l ∷ rest) where
  -- the catalogue's line is refused
  pub refused_first : (e : InputError) → RefusesFirst l e → RefusesAudit lines e
  refused_first e refused = subst (λ (ls : List Line). RefusesAudit ls e) (sym parts) (inl refused)

  module _ (catalog : Catalog) (says : SaysCatalog l catalog) where
    -- a line of the script is
    pub refused_script : (e : InputError) → RefusesScript catalog rest e → RefusesAudit lines e
    refused_script e refused = subst (λ (ls : List Line). RefusesAudit ls e) (sym parts) (inr (record { catalog = catalog; says = says; refused = inl refused }))

    module _ (requests : List Request) (report : List Line) (script : AreScript catalog rest requests report) where
      -- a line of the report is
      pub refused_report : (e : InputError) → RefusesReport report e → RefusesAudit lines e
      refused_report e refused =
          subst (λ (ls : List Line). RefusesAudit ls e) (sym parts) (inr (record { catalog = catalog; says = says; refused = inr (record { requests = requests; report = report; script = script; refused = refused }) }))

      -- none is
      pub is_verdict : AllByRecursion HasValue report → Accepted catalog → (bodies : HasBodiesFor catalog requests) → (v : Verdict)
          → IsVerdictOf (with_spares catalog bodies.spares) requests report (number_behind lines) v → IsVerdict lines v
      is_verdict values accepted bodies v told = record {
        catalog = catalog;
        requests = requests;
        report = report;
        accepted = accepted;
        lines_are = record { first = l; rest = rest; parts = parts; says = says; script = script; told = record { begins = script.begins; values = values } };
        bodies = bodies;
        says = told;
      }
