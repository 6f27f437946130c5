use Rattle.std.proofs.Common.{◌≡◌, ◌++◌, ◌∷◌, [], map, drop}
use Rattle.ss_model_computed_sql.proofs.queries.singles.singles.Given as goal

abbrev pub invariant-loop-item : goal.invariant-loop-item
invariant-loop-item g l = l.lists ++ map (λ x. x ∷ []) (drop l.item-index l.items) ≡ map (λ x. x ∷ []) l.items
