use Rattle.std.proofs.Common.{◌≡◌, List, [], ◌∷◌, length, arith, refl, sym, ◌∙◌, subst}
use Rattle.ss_rows.specs.Lent.{AreLent}
use Rattle.ss_rows.proofs.Lent.{lent_has_row}
use Rattle.ss_rows.proofs.limit_cut.cuts_early.Goals as goal

no_items : {X : Type 0} (xs : List X) → length xs ≡ 0 → xs ≡ []
no_items [] h = refl
no_items (x ∷ xs) h = absurd (omega arith)

pub returns : goal.returns
returns c = λ yes. record {
  plain = sym c.is_aggregated.ensures ∙ c.if-is_aggregated.false;
  unsorted = no_items c.args.query.now.order (omega (arith, c.len.ensures, c.if-len-ne0.false));
  test = c.always_has_answer.ensures c.if-not-always_has_answer.false;
  items = lent_has_row c.args.query.now.items (subst AreLent c.as_slice.ensures (c.are_lent.ensures yes));
}
