use Rattle.std.proofs.Common.{◌≡◌, ℕ, [], ◌∷◌, ◌%◌, true, slice_get, refl, sym, ap, subst, ◌∙◌, Some, None}
use Rattle.std.specs.Option.{is_some}
use Rattle.std.specs.FinMap as finite
use Rattle.ss_table.specs.TableValue.{TableValue, LiveRows, row_at, after_in}
use Rattle.ss_table.specs.Parts.{wide_live, live_of, slot_home, IsUnited}
use Rattle.ss_table.proofs.Walks.{live_of_one, none_others, own_of_one}
use Rattle.ss_table.proofs.table.Table.after_near.Goals as goal

pub after_near-requires : goal.after_near-requires
after_near-requires c =
    let t = c.self.inside in
    let none : t.others ≡ [] = none_others t.others c.as_slice.result.now c.is_empty.result c.as_slice.ensures c.is_empty.ensures c.if-is_empty.true in
    let some : is_some (row_at (live_of (t.first ∷ [])) c.args.slot) ≡ true = subst (λ l. is_some (row_at (live_of (t.first ∷ l)) c.args.slot) ≡ true) none (subst (λ (h : TableValue). is_some (row_at h.live c.args.slot) ≡ true) (sym c.self.view_is) c.requires) in
    record {
      own = own_of_one t.route t.first.rows.key t.first (subst (λ l. IsUnited t.route t.first.rows.key (t.first ∷ l)) none c.self.invariant) c.args.slot some;
      live = subst (λ (m : LiveRows). is_some (row_at m c.args.slot) ≡ true) (live_of_one t.first) some;
    }

pub returns-then-is_empty : goal.returns-then-is_empty
returns-then-is_empty c =
    let t = c.self.inside in
    let none : t.others ≡ [] = none_others t.others c.as_slice.result.now c.is_empty.result c.as_slice.ensures c.is_empty.ensures c.if-is_empty.true in
    c.after_near.ensures ∙ ap (λ (m : LiveRows). after_in (finite.entries m) c.args.slot) (sym (live_of_one t.first) ∙ ap (λ l. live_of (t.first ∷ l)) (sym none)) ∙ ap (λ (h : TableValue). after_in (finite.entries h.live) c.args.slot) c.self.view_is
