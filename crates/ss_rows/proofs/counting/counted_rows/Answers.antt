use Rattle.std.proofs.Common.{◌≡◌, [], ◌∷◌, length, replicate, ap, sym, ◌∙◌, rules, pos, Ok}
use Rattle.ss_value.specs.declared.value.Value.TheVariants.{Int}
use Rattle.ss_value.specs.Rows.{Rows}
use Rattle.ss_rows.proofs.Counts.{counted_results}
use Rattle.ss_rows.proofs.counting.counted_rows.Goals as goal

pub passing_count-requires : goal.passing_count-requires
passing_count-requires g c = c.requires.single

pub returns-clause-ok : goal.returns-clause-ok
returns-clause-ok g c =
    let q = c.args.query.now in
    let counted = c.in_ok-count.ensures.ok in
    let many = sym counted.2 in
    let row : c.in_ok-row.row ≡ replicate (length q.items) (Int (pos (length counted.0))) = c.in_ok-row.ensures ∙ (λ j. replicate (c.len.ensures j) (Int (pos (many j)))) in
    let all : c.push.new.self ≡ c.in_ok-row.row ∷ [] = search rules in
    (counted.0, counted.1, counted_results c.args.params.now q c.requires counted.0 c.in_ok-row.row row ∙ ap (λ (rows : Rows). Ok rows) (sym all))
