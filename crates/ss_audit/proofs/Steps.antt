-- One line more of a report.
use Rattle.std.proofs.Common.{◌≡◌, ◌∙◌, ◌-◌, ◌+◌, ◌<◌, ℕ, zero, suc, List, [], ◌∷◌, length, true, false, cond, Ok, Err, refl, ap, arith}
use Rattle.ss_lines.specs.declared.line.Line.{Line}
use Rattle.ss_model.specs.declared.entry.Request.{Request}
use Rattle.ss_audit_laws.specs.Shape.{OrLine, ◌>>=◌, line_kind, is_reply_to, is_entry, is_row_of, behind_replies, behind_rows, behind_table, behind_tables, first_entries}

-- a reply more
pub reply_more : (end : ℕ) (r : Request) (rs : List Request) (l : Line) (ls : List Line) → is_reply_to r.line (line_kind l) ≡ true → behind_replies end (r ∷ rs) (l ∷ ls) ≡ behind_replies end rs ls
reply_more end r rs l ls h = ap (λ b. cond {A = OrLine (List Line)} b (behind_replies end rs ls) (Err l.number)) h

pub reply_odd : (end : ℕ) (r : Request) (rs : List Request) (l : Line) (ls : List Line) → is_reply_to r.line (line_kind l) ≡ false → behind_replies end (r ∷ rs) (l ∷ ls) ≡ Err l.number
reply_odd end r rs l ls h = ap (λ b. cond {A = OrLine (List Line)} b (behind_replies end rs ls) (Err l.number)) h

-- an entry more
pub entry_more : (l : Line) (ls : List Line) → is_entry (line_kind l) ≡ true → length (first_entries (l ∷ ls)) ≡ 1 + length (first_entries ls)
entry_more l ls h = ap (λ b. length (cond b (l ∷ first_entries ls) [])) h ∙ omega arith

pub entry_none : (l : Line) (ls : List Line) → is_entry (line_kind l) ≡ false → length (first_entries (l ∷ ls)) ≡ 0
entry_none l ls h = ap (λ b. length (cond b (l ∷ first_entries ls) [])) h

-- a row more
pub row_more : (end : ℕ) (name : List ℕ) (n : ℕ) (l : Line) (ls : List Line) → 0 < n → is_row_of name l ≡ true → behind_rows end name n (l ∷ ls) ≡ behind_rows end name (n - 1) ls
row_more end name zero l ls some h = absurd (omega (arith, some))
row_more end name (suc n) l ls some h = ap (λ b. cond {A = OrLine (List Line)} b (behind_rows end name n ls) (Err l.number)) h ∙ ap (λ m. behind_rows end name m ls) (let e : n ≡ suc n - 1 = omega arith in e)

pub row_odd : (end : ℕ) (name : List ℕ) (n : ℕ) (l : Line) (ls : List Line) → 0 < n → is_row_of name l ≡ false → behind_rows end name n (l ∷ ls) ≡ Err l.number
row_odd end name zero l ls some h = absurd (omega (arith, some))
row_odd end name (suc n) l ls some h = ap (λ b. cond {A = OrLine (List Line)} b (behind_rows end name n ls) (Err l.number)) h

pub row_missing : (end : ℕ) (name : List ℕ) (n : ℕ) → 0 < n → behind_rows end name n [] ≡ Err end
row_missing end name zero some = absurd (omega (arith, some))
row_missing end name (suc n) some = refl

pub rows_done : (end : ℕ) (name : List ℕ) (n : ℕ) (ls : List Line) → n ≡ 0 → behind_rows end name n ls ≡ Ok ls
rows_done end name n ls h = ap (λ m. behind_rows end name m ls) h

-- a table more
pub table_more : (end : ℕ) (name : List ℕ) (names : List (List ℕ)) (ls rest : List Line) → behind_table end name ls ≡ Ok rest → behind_tables end (name ∷ names) ls ≡ behind_tables end names rest
table_more end name names ls rest h = ap (λ (o : OrLine (List Line)). o >>= behind_tables end names) h

pub table_odd : (end : ℕ) (name : List ℕ) (names : List (List ℕ)) (ls : List Line) (n : ℕ) → behind_table end name ls ≡ Err n → behind_tables end (name ∷ names) ls ≡ Err n
table_odd end name names ls n h = ap (λ (o : OrLine (List Line)). o >>= behind_tables end names) h
