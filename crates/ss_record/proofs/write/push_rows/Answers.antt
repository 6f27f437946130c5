use Rattle.std.proofs.Common.{◌≡◌, ◌∙◌, ◌+◌, ◌++◌, [], ◌∷◌, List, ℕ, take, sym, ap, subst, arith}
use Rattle.std.specs.List.{flat_map}
use Rattle.std.proofs.lemmas.List.{take_more, flat_map_more}
use Rattle.std.proofs.lemmas.List.Elements.{All-more}
use Rattle.ss_value.specs.Rows.{Row}
use Rattle.ss_record.specs.Spelling.{row_bytes}
use Rattle.ss_record.specs.Bounds.{IsTypedRow}
use Rattle.ss_record.proofs.write.push_rows.Goals as goal

pub loop-row-preserved : goal.loop-row-preserved
loop-row-preserved c =
    let rows = c.as_slice-row-items.result.now in
    let i = c.loop-row.row-index in
    let row = c.row-item.result in
    let taken : take (i + 1) rows ≡ take i rows ++ row ∷ [] = take_more rows i row c.loop-row-test.true ∙ ap (λ (r : Row). take i rows ++ r ∷ []) (sym c.row-item.is) in
    record {
      spelled = c.in_ok-push_row.ensures.spelled ∙ ap (λ (l : List ℕ). l ++ row_bytes row) c.loop-row.invariant.spelled
          ∙ flat_map_more row_bytes c.args.out.now.items (take i rows) row ∙ ap (λ (l : List Row). c.args.out.now.items ++ flat_map row_bytes l) (sym taken);
      long = omega (arith, c.in_ok-push_row.ensures.long, c.loop-row.invariant.long);
      typed = All-more IsTypedRow rows i row c.loop-row-test.true c.loop-row.invariant.typed (subst IsTypedRow c.row-item.is c.in_ok-push_row.ensures.typed);
    }
