-- Tokens that go on: what held by what they knew holds by what they know.
use Rattle.std.proofs.Common.{◌≡◌, inl, inr, ⊎_elim, ◌≤◌, ℕ, List, [], ◌∷◌, Some, slice_get, slice_set, refl, sym, ap, subst, ◌∙◌}
use Rattle.ss_model.specs.declared.catalog.Catalog.{Catalog}
use Rattle.ss_model.specs.Accepted.{Accepted}
use Rattle.ss_model.specs.Database.{Database}
use Rattle.ss_model.specs.Partitions.{part}
use Rattle.ss_commitlog.specs.declared.role.Role.{Role}
use Rattle.ss_commitlog.specs.declared.role.Role.TheVariants.{Part}
use Rattle.ss_commitlog.specs.declared.rule.Item.{Item}
use Rattle.ss_commitlog.specs.Roles.{In}
use Rattle.ss_commitlog.specs.Right.{AgreesWith, known_database}
use Rattle.ss_commitlog.specs.Tokens.{Known, roles_of, Continues, Follows, AllKnow, AllContinue}
use Rattle.ss_commitlog.proofs.CallerLemmas.{on_itself, own_part}
use Rattle.ss_hand.specs.declared.hand.Hand.{Hand}
use Rattle.ss_hand.specs.Hands.{IsInHand}
use Rattle.ss_hand.specs.Meetings.{AllGoOn}

-- the same tokens have the same roles
pub same_roles : (list : List Item) (ks ls : List Known) → AllKnow list ks ls → roles_of ls ≡ roles_of ks
same_roles list [] [] know = refl
same_roles list [] (l ∷ ls) know = absurd know
same_roles list (k ∷ ks) [] know = absurd know
same_roles list (k ∷ ks) (l ∷ ls) know = λ i. know.0.role i ∷ same_roles list ks ls know.1 i

module _ (catalog : Catalog) (n : ℕ) where
  -- tokens that know a list that goes on from what each knew go on
  pub all_go_on : (list : List Item) (ks ls : List Known) → AllKnow list ks ls → AllContinue catalog n list ks → AllGoOn catalog n ks ls
  all_go_on list [] [] know all l i = absurd i
  all_go_on list [] (l ∷ ls) know all m i = absurd know
  all_go_on list (k ∷ ks) [] know all m i = absurd know
  all_go_on list (k ∷ ks) (l ∷ ls) know all m i = ⊎_elim
      (λ (e : m ≡ l). (
        k,
        inl refl,
        ap (λ (x : Known). x.role) e ∙ know.0.role,
        subst (λ (x : List Item). Continues catalog n x k) (sym know.0.list_is ∙ sym (ap (λ (x : Known). x.list) e)) (all k (inl refl)),
      ))
      (λ (j : In m ls). let (x, there, same, on) = all_go_on list ks ls know.1 (λ x j. all x (inr j)) m j in (x, inr there, same, on))
      i

module _ (catalog : Catalog) (accepted : Accepted catalog) (n : ℕ) (some : 1 ≤ n) (db : Database) where
  -- the part of a mark's partition is as before
  pub own_stays : (k l : Known) (p : ℕ) → k.role ≡ Part p → Continues catalog n l.list k → part catalog n p (known_database catalog db l) ≡ part catalog n p (known_database catalog db k)
  own_stays k l p is on =
      own_part catalog accepted n some db l.list (k ∷ [])
      (λ x i. ⊎_elim (λ (e : x ≡ k). subst (λ (y : Known). Continues catalog n l.list y) (sym e) on) (λ z. absurd z) i)
      p k (inl refl) is

  -- a database that agreed with marks agrees with those that go on from them
  pub agrees_on : (ks ls : List Known) (d : Database) → AllGoOn catalog n ks ls → AgreesWith catalog n db ks d → AgreesWith catalog n db ls d
  agrees_on ks ls d on agrees p l i is =
      let (k, there, same, more) = on l i in
      agrees p k there (sym same ∙ is) ∙ sym (own_stays k l p (sym same ∙ is) more)

  -- a hand is still one where its marks go on
  pub in_hand_on : {I : Type 0} (held : List ℕ) (hand : Hand I) (ks : List Known) → roles_of ks ≡ roles_of hand.marks → AllGoOn catalog n hand.marks ks → IsInHand catalog n db held hand
      → IsInHand catalog n db held (record hand { marks = ks })
  in_hand_on held hand ks roles on is = record {
    rising = is.rising;
    run = is.run;
    numbers = is.numbers;
    parts = is.parts;
    left = is.left;
    roles = roles ∙ is.roles;
    of_one = record { database = (is.of_one).database; holds = (is.of_one).holds; agrees = agrees_on hand.marks ks (is.of_one).database on (is.of_one).agrees };
  }

-- ---- the first mark goes on

module _ (catalog : Catalog) (n : ℕ) where
  pub first_goes_on : (limit : ℕ) (ks : List Known) (k l : Known) → slice_get ks 0 ≡ Some k → Follows catalog n limit k l → AllGoOn catalog n ks (slice_set ks 0 l)
  first_goes_on limit [] k l first f m i = absurd (cc)
  first_goes_on limit (x ∷ ks) k l first f m i =
      let here : k ≡ x = cc in
      let on : Continues catalog n l.list x = subst (λ (y : Known). Continues catalog n l.list y) here f.goes_on in
      let same : l.role ≡ x.role = f.role ∙ ap (λ (y : Known). y.role) here in
      ⊎_elim (λ (e : m ≡ l). (x, inl refl, ap (λ (y : Known). y.role) e ∙ same, subst (λ (y : Known). Continues catalog n y.list x) (sym e) on))
      (λ (j : In m ks). (m, inr j, refl, (on_itself catalog n m).on)) i

pub first_roles : (ks : List Known) (k l : Known) → slice_get ks 0 ≡ Some k → l.role ≡ k.role → roles_of (slice_set ks 0 l) ≡ roles_of ks
first_roles [] k l first same = refl
first_roles (x ∷ ks) k l first same = let here : k ≡ x = cc in ap (λ (r : Role). r ∷ roles_of ks) (same ∙ ap (λ (y : Known). y.role) here)

pub first_in : (ks : List Known) (k : Known) → slice_get ks 0 ≡ Some k → In k ks
first_in [] k first = absurd (cc)
first_in (x ∷ ks) k first = inl (cc)
