-- One thing more that lines say.
use Rattle.std.proofs.Common.{◌≡◌, ◌∙◌, ℕ, List, [], ◌∷◌, ◌++◌, true, false, cond, Ok, Err, sym, ap, subst, append-nil, append_assoc}
use Rattle.std.specs.Prelude.{⊤}
use Rattle.serde_json.specs.Data.{Data}
use Rattle.ss_lines.specs.declared.line.Line.{Line}
use Rattle.ss_audit_laws.specs.Shape.{OrLine}
use Rattle.ss_audit_laws.specs.Checks.{all_say, says}
use Rattle.ss_audit.specs.declared.broken.Broken.{Broken}
use Rattle.ss_audit.specs.declared.broken.Broken.TheVariants.{Line as LineOf}
use Rattle.ss_audit.specs.Breaks.{BreaksAs}
use Rattle.ss_audit.specs.Saying.{LeavesBehind, BreaksWithin}

-- what all lines have to say comes down to that the ones that are left have to say these
abbrev pub ComesTo : ℕ → List Data → List Line → List Data → List Line → Type 0
ComesTo end ds rest all lines = (more : List Data) → all_say end (ds ++ more) rest ≡ all_say end (all ++ more) lines

-- the first line says it
pub one_said : (end : ℕ) (d : Data) (l : Line) (ls lines : List Line) → lines ≡ l ∷ ls → says d l ≡ true → LeavesBehind end (d ∷ []) lines ls
one_said end d l ls lines here told more = ap (all_say end (d ∷ more)) here ∙ ap (λ b. cond {A = OrLine ⊤} b (all_say end more ls) (Err l.number)) told

-- it says something else
pub one_odd : (end : ℕ) (d : Data) (l : Line) (ls lines : List Line) → lines ≡ l ∷ ls → says d l ≡ false → BreaksWithin end (d ∷ []) lines (LineOf l.number)
one_odd end d l ls lines here odd more = ap (all_say end (d ∷ more)) here ∙ ap (λ b. cond {A = OrLine ⊤} b (all_say end more ls) (Err l.number)) odd

-- there is none
pub one_missing : (end : ℕ) (d : Data) (lines : List Line) → lines ≡ [] → BreaksWithin end (d ∷ []) lines (LineOf end)
one_missing end d lines none more = ap (all_say end (d ∷ more)) none

-- some more are said
pub said_more : (end : ℕ) (es ds all : List Data) (rest behind lines : List Line) → LeavesBehind end es rest behind → ComesTo end (es ++ ds) rest all lines → ComesTo end ds behind all lines
said_more end es ds all rest behind lines told so_far more = sym (told (ds ++ more)) ∙ ap (λ (xs : List Data). all_say end xs rest) (sym (append_assoc es ds more)) ∙ so_far more

-- and some are not
pub breaks_more : (end : ℕ) (es ds all : List Data) (rest lines : List Line) (e : Broken) → BreaksWithin end es rest e → ComesTo end (es ++ ds) rest all lines → BreaksWithin end all lines e
breaks_more end es ds all rest lines e broken so_far more =
    subst (λ (o : OrLine ⊤). BreaksAs o e) (ap (λ (xs : List Data). all_say end xs rest) (sym (append_assoc es ds more)) ∙ so_far more) (broken (ds ++ more))

-- all are said
pub said_all : (end : ℕ) (all : List Data) (rest lines : List Line) → ComesTo end [] rest all lines → LeavesBehind end all lines rest
said_all end all rest lines so_far more = sym (so_far more)

-- one is said, and then these
pub both_behind : (end : ℕ) (d : Data) (ds : List Data) (lines behind rest : List Line) → LeavesBehind end (d ∷ []) lines behind → LeavesBehind end ds behind rest → LeavesBehind end (d ∷ ds) lines rest
both_behind end d ds lines behind rest first later more = first (ds ++ more) ∙ later more

-- one is said, and then these are not
pub breaks_behind : (end : ℕ) (d : Data) (ds : List Data) (lines behind : List Line) (e : Broken) → LeavesBehind end (d ∷ []) lines behind → BreaksWithin end ds behind e → BreaksWithin end (d ∷ ds) lines e
breaks_behind end d ds lines behind e first broken more = subst (λ (o : OrLine ⊤). BreaksAs o e) (sym (first (ds ++ more))) (broken more)

-- one is not said, whatever stands behind it
pub breaks_first : (end : ℕ) (d : Data) (ds : List Data) (lines : List Line) (e : Broken) → BreaksWithin end (d ∷ []) lines e → BreaksWithin end (d ∷ ds) lines e
breaks_first end d ds lines e broken more = broken (ds ++ more)

-- the same value is not said
pub breaks_same : (end : ℕ) (d v : Data) (lines : List Line) (e : Broken) → d ≡ v → BreaksWithin end (d ∷ []) lines e → BreaksWithin end (v ∷ []) lines e
breaks_same end d v lines e same broken = subst (λ (v : Data). BreaksWithin end (v ∷ []) lines e) same broken

-- ---- the whole

-- all are said, and nothing is left
pub told_all : (end : ℕ) (all : List Data) (rest lines : List Line) → ComesTo end [] rest all lines → all_say end [] rest ≡ Ok tt → all_say end all lines ≡ Ok tt
told_all end all rest lines so_far none = ap (λ (ds : List Data). all_say end ds lines) (sym (append-nil all)) ∙ sym (so_far []) ∙ none

-- all are said, and a line is left
pub breaks_left : (end : ℕ) (all : List Data) (rest lines : List Line) (e : Broken) → ComesTo end [] rest all lines → BreaksAs (all_say end [] rest) e → BreaksAs (all_say end all lines) e
breaks_left end all rest lines e so_far broken =
    subst (λ (o : OrLine ⊤). BreaksAs o e) (so_far [] ∙ ap (λ (ds : List Data). all_say end ds lines) (append-nil all)) broken

-- some are not said
pub breaks_whole : (end : ℕ) (all : List Data) (lines : List Line) (e : Broken) → BreaksWithin end all lines e → BreaksAs (all_say end all lines) e
breaks_whole end all lines e broken = subst (λ (o : OrLine ⊤). BreaksAs o e) (ap (λ (ds : List Data). all_say end ds lines) (append-nil all)) (broken [])
