-- Entries of the list and rows of a table, written one after another.
use Rattle.std.proofs.Common.{Bor, ◌≡◌, ◌<◌, ◌+◌, ℕ, List, [], ◌∷◌, length, map, get_or, drop, subst, ap, arith}
use Rattle.ss_lemmas.proofs.LoopItem.{next as next_item}
use Rattle.serde_json.specs.Data.{Data}
use Rattle.ss_value.specs.Rows.{Row}
use Rattle.ss_model.specs.declared.catalog.Catalog.{Catalog}
use Rattle.ss_model.specs.declared.entry.Listed.{Listed}
use Rattle.ss_model.specs.ReportLines.{entry_line, list_lines, row_line}
use Rattle.ss_shard.specs.Lent.{rows_behind}
use Rattle.ss_report.specs.Readable.{AddsLines}
use Rattle.ss_report.proofs.Steps.{IsUnderWay, lines_more}

-- one entry more
pub entry_more : (catalog : Catalog) (first i : ℕ) (list : List Listed) (l : Listed) (old now next : List ℕ) (all : List Data) → i < length list → l ≡ get_or list i l
    → AddsLines now next (entry_line catalog (first + i) l.outcome l.entry ∷ [])
    → IsUnderWay old now (list_lines catalog (first + i) (drop i list)) all → IsUnderWay old next (list_lines catalog (first + (i + 1)) (drop (i + 1) list)) all
entry_more catalog first i list l old now next all h e added under_way =
    let here = next_item list i l h e in
    let place : first + i + 1 ≡ first + (i + 1) = omega arith in
    let more : IsUnderWay old next (list_lines catalog (first + i + 1) (drop (i + 1) list)) all =
    lines_more old now next (entry_line catalog (first + i) l.outcome l.entry ∷ []) (list_lines catalog (first + i + 1) (drop (i + 1) list)) all added
    (subst (λ ls. IsUnderWay old now (list_lines catalog (first + i) ls) all) here under_way) in
    subst (λ n. IsUnderWay old next (list_lines catalog n (drop (i + 1) list)) all) place more

-- one row more
pub row_more : (name : List ℕ) (i : ℕ) (rows : List (Bor Row)) (row : Bor Row) (old now next : List ℕ) (all : List Data) → i < length rows → row ≡ get_or rows i row
    → AddsLines now next (row_line name row.now ∷ [])
    → IsUnderWay old now (map (row_line name) (rows_behind (drop i rows))) all → IsUnderWay old next (map (row_line name) (rows_behind (drop (i + 1) rows))) all
row_more name i rows row old now next all h e added under_way =
    lines_more old now next (row_line name row.now ∷ []) (map (row_line name) (rows_behind (drop (i + 1) rows))) all added
    (subst (λ rs. IsUnderWay old now (map (row_line name) (rows_behind rs)) all) (next_item rows i row h e) under_way)
