use Rattle.std.proofs.Common.{ℕ, sym, subst, Bor, is_lt, rules}
use Rattle.std.specs.Ordering.{eq_by_cmp}
use Rattle.std.proofs.lemmas.List.Sorted.{ranks_by}
use Rattle.std.proofs.lemmas.Fn.{always_returns_same, dedup_same}
use Rattle.ss_value.specs.Rows.{Row}
use Rattle.ss_plan.specs.Found.{lent_rows, IsInKeyOrder}
use Rattle.ss_plan.proofs.KeyOrder.{key_cmp, keys_total, ordered}
use Rattle.ss_plan.proofs.ordered.in_key_order.Goals as goal

pub returns : goal.returns
returns c =
    let key = c.args.key.now in
    let lt = λ (a b : ℕ × Bor Row). is_lt (key_cmp key a b) in
    let weak = ranks_by (keys_total key) (λ (x : ℕ × Bor Row). x) in
    let sorted = c.in_ok-sort_by.ensures.sorted lt weak (always_returns_same _ _ _ (λ a r f k. search rules)) in
    let kept = dedup_same _ (eq_by_cmp (key_cmp key)) _ (λ x y b f' x' y' k. search rules) _ _ c.dedup_by.ensures.filtered in
    subst (λ items. IsInKeyOrder key (lent_rows c.args.rows.items) (lent_rows items)) (sym kept) (ordered key c.args.rows.items c.sort_by.new.self.items c.sort_by.ensures.permutation sorted)
