-- Lines that are the texts of values.
use Rattle.std.proofs.Common.{◌≡◌, ℕ, List, [], ◌∷◌, ◌++◌, map, Bool, true, false, cond, Result, Ok, Err, refl, sym, ap₂}
use Rattle.std.specs.Prelude.{⊤}
use Rattle.std.proofs.lemmas.Slice.Eq.{bytes_eq-Decides}
use Rattle.serde_json.specs.Data.{Data}
use Rattle.serde_json.specs.Written.{compact_text}
use Rattle.ss_lines.specs.declared.line.Line.{Line}
use Rattle.ss_model.specs.ReportLines.{lines_text}
use Rattle.ss_audit_laws.specs.Checks.{says, all_say}
use Rattle.ss_audit_laws.specs.Valid.{bytes_of}

-- lines are the texts of these values
abbrev pub AreTexts : List Data → List Line → Type 0
AreTexts ds ls = map (λ (l : Line). l.bytes) ls ≡ map compact_text ds

-- what a choice with an error gives comes of its test
pub chosen_ok : {A E : Type 0} (b : Bool) (x : Result A E) (e : E) (a : A) → cond b x (Err e) ≡ Ok a → (b ≡ true) × (x ≡ Ok a)
chosen_ok true x e a h = (refl, h)
chosen_ok false x e a h = absurd (cc)

pub says_text : (d : Data) (l : Line) → says d l ≡ true → compact_text d ≡ l.bytes
says_text d l h = (bytes_eq-Decides (compact_text d) l.bytes).0 h

pub text_says : (d : Data) (l : Line) → l.bytes ≡ compact_text d → says d l ≡ true
text_says d l h = (bytes_eq-Decides (compact_text d) l.bytes).1 (sym h)

pub all_say-texts : (end : ℕ) (ds : List Data) (ls : List Line) (x : ⊤) → all_say end ds ls ≡ Ok x → AreTexts ds ls
all_say-texts end [] [] x h = refl
all_say-texts end [] (l ∷ ls) x h = absurd (cc)
all_say-texts end (d ∷ ds) [] x h = absurd (cc)
all_say-texts end (d ∷ ds) (l ∷ ls) x h =
    let t = chosen_ok (says d l) (all_say end ds ls) l.number x h in
    ap₂ ◌∷◌ (sym (says_text d l t.0)) (all_say-texts end ds ls x t.1)

pub texts-all_say : (end : ℕ) (ds : List Data) (ls : List Line) → AreTexts ds ls → all_say end ds ls ≡ Ok tt
texts-all_say end [] [] h = refl
texts-all_say end [] (l ∷ ls) h = absurd (cc)
texts-all_say end (d ∷ ds) [] h = absurd (cc)
texts-all_say end (d ∷ ds) (l ∷ ls) h =
    let first : l.bytes ≡ compact_text d = cc in
    rw (text_says d l first) (texts-all_say end ds ls (cc))

pub bytes-texts : (ds : List Data) (ls : List Line) → AreTexts ds ls → bytes_of ls ≡ lines_text ds
bytes-texts [] [] h = refl
bytes-texts [] (l ∷ ls) h = absurd (cc)
bytes-texts (d ∷ ds) [] h = absurd (cc)
bytes-texts (d ∷ ds) (l ∷ ls) h =
    let first : l.bytes ≡ compact_text d = cc in
    ap₂ (λ (text : List ℕ) (rest : List ℕ). (text ++ 10 ∷ []) ++ rest) first (bytes-texts ds ls (cc))

pub joined : (ds es : List Data) (ls ms : List Line) → AreTexts ds ls → AreTexts es ms → AreTexts (ds ++ es) (ls ++ ms)
joined [] es [] ms h k = k
joined [] es (l ∷ ls) ms h k = absurd (cc)
joined (d ∷ ds) es [] ms h k = absurd (cc)
joined (d ∷ ds) es (l ∷ ls) ms h k =
    let first : l.bytes ≡ compact_text d = cc in
    ap₂ ◌∷◌ first (joined ds es ls ms (cc) k)
