-- The parts of a report, cut where the loops of the first check stop.
use Rattle.std.proofs.Common.{◌≡◌, ◌∙◌, ◌≤◌, ℕ, suc, List, [], ◌∷◌, length, take, drop, true, false, cond, Ok, sym, ap, subst, arith}
use Rattle.std.proofs.Math.Seq.{drop-append_seam, take-append_seam}
use Rattle.ss_lines.specs.declared.line.Line.{Line}
use Rattle.ss_model.specs.declared.catalog.Catalog.{Catalog}
use Rattle.ss_model.specs.declared.entry.Request.{Request}
use Rattle.ss_audit_laws.specs.Shape.{OrLine, ◌>>=◌, line_kind, is_reply_to, is_entry, behind_replies, behind_tables, the_end, first_entries, behind_entries, table_names, Parts, parts_of, shape}
use Rattle.ss_audit_laws.proofs.CallerLemmas.{chosen_ok, entries_first}
use Rattle.ss_audit.specs.declared.broken.Broken.{Broken}
use Rattle.ss_audit.specs.declared.broken.Broken.TheVariants.{NoMemory, Line as LineOf}
use Rattle.ss_audit.specs.Breaks.{BreaksAs}

-- there are as many lines as replies
pub replies_within : (end : ℕ) (rs : List Request) (ls rest : List Line) → behind_replies end rs ls ≡ Ok rest → length rs ≤ length ls
replies_within end [] ls rest h = omega arith
replies_within end (r ∷ rs) [] rest h = absurd (cc)
replies_within end (r ∷ rs) (l ∷ ls) rest h =
    let t = chosen_ok (is_reply_to r.line (line_kind l)) (behind_replies end rs ls) l.number rest h in
    omega (arith, replies_within end rs ls rest t.1)

-- and as entries
pub entries_within : (ls : List Line) → length (first_entries ls) ≤ length ls
entries_within [] = omega arith
entries_within (l ∷ ls) = elim (is_entry (line_kind l)) as (λ b. length (cond b (l ∷ first_entries ls) []) ≤ suc (length ls)) [
  | true ↦ omega (arith, entries_within ls)
  | false ↦ omega arith
]

pub entries_taken : (ls : List Line) → take (length (first_entries ls)) ls ≡ first_entries ls
entries_taken ls = ap (take (length (first_entries ls))) (entries_first ls) ∙ take-append_seam (first_entries ls) (behind_entries ls)

pub entries_dropped : (ls : List Line) → drop (length (first_entries ls)) ls ≡ behind_entries ls
entries_dropped ls = ap (drop (length (first_entries ls))) (entries_first ls) ∙ drop-append_seam (first_entries ls) (behind_entries ls)

-- ---- step by step

breaks_here : {A B : Type 0} (x : OrLine A) (f : A → OrLine B) (e : Broken) → BreaksAs x e → BreaksAs (x >>= f) e
breaks_here x f NoMemory h = tt
breaks_here {A} x f (LineOf n) h = ap (λ (o : OrLine A). o >>= f) h

breaks_later : {A B : Type 0} (x : OrLine A) (f : A → OrLine B) (a : A) (e : Broken) → x ≡ Ok a → BreaksAs (f a) e → BreaksAs (x >>= f) e
breaks_later {A} {B} x f a e h k = subst (λ (o : OrLine B). BreaksAs o e) (sym (ap (λ (o : OrLine A). o >>= f) h)) k

-- the same answer breaks the same
pub breaks_so : {A : Type 0} (x y : OrLine A) (e : Broken) → x ≡ y → BreaksAs x e → BreaksAs y e
breaks_so {A} x y e same broken = subst (λ (o : OrLine A). BreaksAs o e) same broken

module _ (catalog : Catalog) (requests : List Request) (lines : List Line) (end : ℕ) where
  abbrev whole : List Line → Line → OrLine Parts
  whole rest last = Ok (parts_of (length requests) lines rest last)

  abbrev from_end : List Line → List Line → OrLine Parts
  from_end rest lasts = the_end end lasts >>= whole rest

  abbrev from_tables : List Line → OrLine Parts
  from_tables rest = behind_tables end (table_names catalog) (behind_entries rest) >>= from_end rest

  pub breaks_replies : (e : Broken) → BreaksAs (behind_replies end requests lines) e → BreaksAs (shape catalog requests lines end) e
  breaks_replies e h = breaks_here (behind_replies end requests lines) from_tables e h

  module _ (rest : List Line) (replies : behind_replies end requests lines ≡ Ok rest) where
    pub breaks_tables : (e : Broken) → BreaksAs (behind_tables end (table_names catalog) (behind_entries rest)) e → BreaksAs (shape catalog requests lines end) e
    breaks_tables e h =
        breaks_later (behind_replies end requests lines) from_tables rest e replies
        (breaks_here (behind_tables end (table_names catalog) (behind_entries rest)) (from_end rest) e h)

    module _ (lasts : List Line) (tables : behind_tables end (table_names catalog) (behind_entries rest) ≡ Ok lasts) where
      pub breaks_end : (e : Broken) → BreaksAs (the_end end lasts) e → BreaksAs (shape catalog requests lines end) e
      breaks_end e h =
          breaks_later (behind_replies end requests lines) from_tables rest e replies
          (breaks_later (behind_tables end (table_names catalog) (behind_entries rest)) (from_end rest) lasts e tables (breaks_here (the_end end lasts) (whole rest) e h))

      pub has_parts : (last : Line) → the_end end lasts ≡ Ok last → shape catalog requests lines end ≡ Ok (parts_of (length requests) lines rest last)
      has_parts last h =
          ap (λ (o : OrLine (List Line)). o >>= from_tables) replies
          ∙ ap (λ (o : OrLine (List Line)). o >>= from_end rest) tables
          ∙ ap (λ (o : OrLine Line). o >>= whole rest) h
