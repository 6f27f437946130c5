-- The pairs of one row of FROM.
use Rattle.std.proofs.Common.{◌≡◌, ℕ, ◌+◌, ◌<◌, List, ◌++◌, drop, get_or, length, sym, ap, ◌∙◌, append_assoc, Some}
use Rattle.ss_lemmas.proofs.LoopItem.{next}
use Rattle.ss_value.specs.Rows.{Row, Rows}
use Rattle.ss_sql_trees.specs.declared.typed.Joined.{Joined}
use Rattle.ss_model.specs.Queries.{join_rows}
use Rattle.ss_model_computed_sql.specs.Phases.{pairs_of}

-- the pairs of one more row
pub pairs_more : (j : Joined) (outer : Rows) (inner : Rows) (i : ℕ) (left : Row) (tuples now : List Rows) → i < length outer → left ≡ get_or outer i left → now ≡ tuples ++ pairs_of j left inner → tuples ++ join_rows (drop i outer) (Some (j, inner)) ≡ join_rows outer (Some (j, inner)) → now ++ join_rows (drop (i + 1) outer) (Some (j, inner)) ≡ join_rows outer (Some (j, inner))
pairs_more j outer inner i left tuples now h e grown so_far =
    ap (λ ts. ts ++ join_rows (drop (i + 1) outer) (Some (j, inner))) grown
    ∙ append_assoc tuples (pairs_of j left inner) (join_rows (drop (i + 1) outer) (Some (j, inner)))
    ∙ ap (λ rows. tuples ++ join_rows rows (Some (j, inner))) (sym (next outer i left h e))
    ∙ so_far
