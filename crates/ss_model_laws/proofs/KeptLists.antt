-- Lists on databases of which the same is kept.
use Rattle.std.proofs.Common.{◌≡◌, ℕ, ◌+◌, ◌<◌, List, [], ◌∷◌, length, get_or, refl, sym, ap, ◌∙◌, subst, Some, None, unwrap_or, ◌⊎◌, inl, inr}
use Rattle.std.specs.Option.{option_map}
use Rattle.std.specs.declared.option.Option.{Option}
use Rattle.std.specs.List.{Contains, range_with_len}
use Rattle.ss_model.specs.declared.catalog.Catalog.{Catalog}
use Rattle.ss_model.specs.declared.entry.Entry.{Entry}
use Rattle.ss_model.specs.declared.entry.Listed.{Listed}
use Rattle.ss_model.specs.Database.{Database, Applied, apply, batch_count}
use Rattle.ss_model.specs.Replays.{Replays, database_after, after}
use Rattle.ss_model.specs.Orders.{Orders, batches_taken, accepted_pushes}
use Rattle.ss_model.specs.Settling.{kept, SameKeptApplied, CarriedByKept}
use Rattle.ss_model_kept.proofs.CallerLemmas.{from_kept, kept_is_enough}

module _ (catalog : Catalog) where
  same_outcome : (a b : Option Applied) → SameKeptApplied catalog a b → option_map (λ z. z.outcome) a ≡ option_map (λ z. z.outcome) b
  same_outcome None None h = refl
  same_outcome None (Some b) h = absurd h
  same_outcome (Some a) None h = absurd h
  same_outcome (Some a) (Some b) h = ap Some h.outcome

  same_after : (x y : Database) (a b : Option Applied) → kept catalog x ≡ kept catalog y → SameKeptApplied catalog a b → kept catalog (unwrap_or (option_map (λ z. z.db) a) x) ≡ kept catalog (unwrap_or (option_map (λ z. z.db) b) y)
  same_after x y None None k h = k
  same_after x y None (Some b) k h = absurd h
  same_after x y (Some a) None k h = absurd h
  same_after x y (Some a) (Some b) k h = h.after

  pub kept_next : (x y : Database) → kept catalog x ≡ kept catalog y → (e : Entry) → kept catalog (database_after catalog x e) ≡ kept catalog (database_after catalog y e)
  kept_next x y k e = same_after x y (apply catalog x e) (apply catalog y e) k (kept_is_enough catalog x y k e)

  pub kept_after : (x y : Database) → kept catalog x ≡ kept catalog y → (list : List Listed) → kept catalog (after catalog x list) ≡ kept catalog (after catalog y list)
  kept_after x y k [] = k
  kept_after x y k (l ∷ ls) = kept_after (database_after catalog x l.entry) (database_after catalog y l.entry) (kept_next x y k l.entry) ls

  kept_replays : (x y : Database) → kept catalog x ≡ kept catalog y → (list : List Listed) → Replays catalog x list → Replays catalog y list
  kept_replays x y k [] r = tt
  kept_replays x y k (l ∷ ls) r = (
    sym (same_outcome (apply catalog x l.entry) (apply catalog y l.entry) (kept_is_enough catalog x y k l.entry)) ∙ r.0,
    kept_replays (database_after catalog x l.entry) (database_after catalog y l.entry) (kept_next x y k l.entry) ls r.1,
  )

  kept_orders : (x y : Database) → kept catalog x ≡ kept catalog y → (list : List Listed) → Orders catalog x list → Orders catalog y list
  kept_orders x y k list o =
      let same = from_kept catalog x y k in
      let counts : (p : ℕ) → batch_count x p ≡ batch_count y p = λ p. ap (λ cs. get_or cs p 0) same.counts in
      record {
        each_in_order = λ p. subst (λ n. batches_taken p list ≡ range_with_len n (length (batches_taken p list))) (counts p) (o.each_in_order p);
        graph_order = λ before behind q r z e s p t m. by before p r (counts p) (o.graph_order before behind q r z e s p t m);
        pushed_first = λ before behind q r z e s t b. subst (λ n. r < n + accepted_pushes s before) (same.lengths s) (o.pushed_first before behind q r z e s t b);
      }
    where
      by : (before : List Listed) (p r : ℕ) → batch_count x p ≡ batch_count y p → (r < batch_count x p) ⊎ Contains (batches_taken p before) r → (r < batch_count y p) ⊎ Contains (batches_taken p before) r
      by before p r e (inl h) = inl (subst (λ n. r < n) e h)
      by before p r e (inr h) = inr h

  pub kept_carries : (x y : Database) → kept catalog x ≡ kept catalog y → (list : List Listed) → CarriedByKept catalog x y list
  kept_carries x y k list = record { replays = kept_replays x y k list; orders = kept_orders x y k list; after = kept_after x y k list }
