-- The parts of a report are its lines.
use Rattle.std.proofs.Common.{◌≡◌, ◌∙◌, ◌-◌, ℕ, zero, suc, List, [], ◌∷◌, ◌++◌, length, take, true, false, cond, Option, Some, None, Ok, Err, refl, sym, ap, subst, arith, append_assoc, length-append}
use Rattle.std.proofs.Math.Seq.{take-append_seam}
use Rattle.ss_lines.specs.declared.line.Line.{Line}
use Rattle.ss_model.specs.declared.catalog.Catalog.{Catalog}
use Rattle.ss_model.specs.declared.entry.Request.{Request}
use Rattle.ss_audit_laws.specs.Shape.{OrLine, ◌>>=◌, line_kind, is_reply_to, is_entry, rows_of_table, is_row_of, is_done_line, behind_replies, behind_rows, behind_head, behind_table, behind_tables, the_end, first_entries, behind_entries, table_names, Parts, parts_of, shape}
use Rattle.ss_audit_laws.proofs.Texts.{chosen_ok}

-- what two steps give comes of what the first gives
pub both_steps : {A B : Type 0} (x : OrLine A) (f : A → OrLine B) (b : B) → (x >>= f) ≡ Ok b → (a : A) × (x ≡ Ok a) × (f a ≡ Ok b)
both_steps (Ok a) f b h = (a, refl, h)
both_steps (Err line) f b h = absurd (cc)

same_ok : {A : Type 0} (a b : A) → ◌≡◌ {A = OrLine A} (Ok a) (Ok b) → a ≡ b
same_ok a b h = cc

-- ---- replies and entries

pub replies_first : (end : ℕ) (rs : List Request) (ls rest : List Line) → behind_replies end rs ls ≡ Ok rest → ls ≡ take (length rs) ls ++ rest
replies_first end [] ls rest h = same_ok ls rest h
replies_first end (r ∷ rs) [] rest h = absurd (cc)
replies_first end (r ∷ rs) (l ∷ ls) rest h =
    let t = chosen_ok (is_reply_to r.line (line_kind l)) (behind_replies end rs ls) l.number rest h in
    ap (λ (ms : List Line). l ∷ ms) (replies_first end rs ls rest t.1)

pub entries_first : (ls : List Line) → ls ≡ first_entries ls ++ behind_entries ls
entries_first [] = refl
entries_first (l ∷ ls) = elim (is_entry (line_kind l)) as (λ b. l ∷ ls ≡ cond b (l ∷ first_entries ls) [] ++ cond b (behind_entries ls) (l ∷ ls)) [
  | true ↦ ap (λ (ms : List Line). l ∷ ms) (entries_first ls)
  | false ↦ refl
]

-- ---- tables and the end

-- lines end with others
abbrev pub EndWith : List Line → List Line → Type 0
EndWith ls rest = (front : List Line) × (ls ≡ front ++ rest)

later : (l : Line) (ls rest : List Line) → EndWith ls rest → EndWith (l ∷ ls) rest
later l ls rest h = (l ∷ h.0, ap (λ (ms : List Line). l ∷ ms) h.1)

further : (ls ms rest : List Line) → EndWith ls ms → EndWith ms rest → EndWith ls rest
further ls ms rest h k = (h.0 ++ k.0, h.1 ∙ ap (λ (ns : List Line). h.0 ++ ns) k.1 ∙ sym (append_assoc h.0 k.0 rest))

rows_last : (end : ℕ) (name : List ℕ) (n : ℕ) (ls rest : List Line) → behind_rows end name n ls ≡ Ok rest → EndWith ls rest
rows_last end name zero ls rest h = ([], same_ok ls rest h)
rows_last end name (suc n) [] rest h = absurd (cc)
rows_last end name (suc n) (l ∷ ls) rest h =
    let t = chosen_ok (is_row_of name l) (behind_rows end name n ls) l.number rest h in
    later l ls rest (rows_last end name n ls rest t.1)

head_last : (end : ℕ) (name : List ℕ) (number : ℕ) (ls rest : List Line) (rows : Option ℕ) → behind_head end name number ls rows ≡ Ok rest → EndWith ls rest
head_last end name number ls rest None h = absurd (cc)
head_last end name number ls rest (Some n) h = rows_last end name n ls rest h

table_last : (end : ℕ) (name : List ℕ) (ls rest : List Line) → behind_table end name ls ≡ Ok rest → EndWith ls rest
table_last end name [] rest h = absurd (cc)
table_last end name (l ∷ ls) rest h = later l ls rest (head_last end name l.number ls rest (rows_of_table name l) h)

tables_last : (end : ℕ) (names : List (List ℕ)) (ls rest : List Line) → behind_tables end names ls ≡ Ok rest → EndWith ls rest
tables_last end [] ls rest h = ([], same_ok ls rest h)
tables_last end (name ∷ names) ls rest h =
    let t = both_steps (behind_table end name ls) (behind_tables end names) rest h in
    further ls t.0 rest (table_last end name ls t.0 t.1) (tables_last end names t.0 rest t.2)

end_last : (end : ℕ) (ls : List Line) (last : Line) → the_end end ls ≡ Ok last → ls ≡ last ∷ []
end_last end [] last h = absurd (cc)
end_last end (l ∷ []) last h =
    let t = chosen_ok {E = ℕ} (is_done_line (line_kind l)) (Ok l) l.number last h in
    ap (λ (m : Line). m ∷ []) (same_ok l last t.1)
end_last end (l ∷ m ∷ ls) last h = elim (is_done_line (line_kind l)) as (λ b. cond {A = OrLine Line} b (Err m.number) (Err l.number) ≡ Ok last → l ∷ m ∷ ls ≡ last ∷ []) [
  | true ↦ λ e. absurd (cc)
  | false ↦ λ e. absurd (cc)
] h

-- all but the last one
pub but_last : (front : List Line) (last : Line) (ls : List Line) → ls ≡ front ++ last ∷ [] → take (length ls - 1) ls ≡ front
but_last front last ls h =
    let long : length ls - 1 ≡ length front = rw h (omega (arith, length-append front (last ∷ []))) in
    rw long (rw h (take-append_seam front (last ∷ [])))

-- ---- the whole

-- the parts, one after another, are the lines
abbrev pub ArePartsOf : List Line → Parts → Type 0
ArePartsOf lines parts = lines ≡ parts.replies ++ (parts.entries ++ (parts.tables ++ parts.last ∷ []))

pub shape_whole : (catalog : Catalog) (requests : List Request) (lines : List Line) (end : ℕ) (parts : Parts) → shape catalog requests lines end ≡ Ok parts → ArePartsOf lines parts
shape_whole catalog requests lines end parts h =
    let a = both_steps (behind_replies end requests lines) _ parts h in
    let b = both_steps (behind_tables end (table_names catalog) (behind_entries a.0)) _ parts a.2 in
    let c = both_steps (the_end end b.0) _ parts b.2 in
    let is : parts_of (length requests) lines a.0 c.0 ≡ parts = same_ok _ parts c.2 in
    let front = tables_last end (table_names catalog) (behind_entries a.0) b.0 b.1 in
    let last : behind_entries a.0 ≡ front.0 ++ c.0 ∷ [] = front.1 ∙ ap (λ (ms : List Line). front.0 ++ ms) (end_last end b.0 c.0 c.1) in
    let tables : behind_entries a.0 ≡ take (length (behind_entries a.0) - 1) (behind_entries a.0) ++ c.0 ∷ [] =
    last ∙ ap (λ (ms : List Line). ms ++ c.0 ∷ []) (sym (but_last front.0 c.0 (behind_entries a.0) last)) in
    subst (ArePartsOf lines) is
    (replies_first end requests lines a.0 a.1
    ∙ ap (λ (ms : List Line). take (length requests) lines ++ ms) (entries_first a.0 ∙ ap (λ (ms : List Line). first_entries a.0 ++ ms) tables))
