-- Marks that go on, and a commit of them.
use Rattle.std.proofs.Common.{◌≡◌, inl, inr, ⊎_elim, ◌≤◌, ℕ, List, [], ◌∷◌, refl, sym, subst, ◌∙◌, arith, slice_get, slice_set, Some}
use Rattle.ss_model.specs.declared.catalog.Catalog.{Catalog}
use Rattle.ss_model.specs.Accepted.{Accepted}
use Rattle.ss_model.specs.Database.{Database}
use Rattle.ss_commitlog.specs.declared.role.Role.TheVariants.{Part}
use Rattle.ss_commitlog.specs.declared.rule.Item.{Item}
use Rattle.ss_commitlog.specs.Right.{AgreesWith}
use Rattle.ss_commitlog.specs.Roles.{In}
use Rattle.ss_commitlog.specs.Tokens.{Known, AllContinue, AllKnow, Continues, Knows, known, roles_of}
use Rattle.ss_commitlog.proofs.CallerLemmas.{own_part}
use Rattle.ss_hand.specs.declared.hand.Hand.{Hand}
use Rattle.ss_hand.specs.Hands.{IsInHand}
use Rattle.ss_commitlog.specs.Growing.{GoesOn}
use Rattle.ss_turns.specs.Stepping.{EachGoesOn}
use Rattle.ss_commitlog.proofs.CallerLemmas.{on_and_on, on_itself}

-- marks that came back as they were
pub all_on_itself : (catalog : Catalog) (parts : ℕ) (ks : List Known) → EachGoesOn catalog parts ks ks
all_on_itself catalog parts [] = tt
all_on_itself catalog parts (k ∷ ks) = (on_itself catalog parts k, all_on_itself catalog parts ks)

pub all_on_and_on : (catalog : Catalog) (parts : ℕ) (ks ls ms : List Known) → EachGoesOn catalog parts ks ls → EachGoesOn catalog parts ls ms → EachGoesOn catalog parts ks ms
all_on_and_on catalog parts [] [] ms a b = b
all_on_and_on catalog parts [] (l ∷ ls) ms a b = absurd a
all_on_and_on catalog parts (k ∷ ks) [] ms a b = absurd a
all_on_and_on catalog parts (k ∷ ks) (l ∷ ls) [] a b = absurd b
all_on_and_on catalog parts (k ∷ ks) (l ∷ ls) (m ∷ ms) a b = (on_and_on catalog parts k l m a.0 b.0, all_on_and_on catalog parts ks ls ms a.1 b.1)

-- marks that know a list which goes on from what each of them knew
pub all_met : (catalog : Catalog) (parts : ℕ) (list : List Item) (ks ls : List Known) → AllKnow list ks ls → AllContinue catalog parts list ks → EachGoesOn catalog parts ks ls
all_met catalog parts list [] [] know on = tt
all_met catalog parts list [] (l ∷ ls) know on = absurd know
all_met catalog parts list (k ∷ ks) [] know on = absurd know
all_met catalog parts list (k ∷ ks) (l ∷ ls) know on = (
  record { role = know.0.role; sees = know.0.sees; on = subst (λ (x : List Item). Continues catalog parts x k) (sym know.0.list_is) (on k (inl refl)) },
  all_met catalog parts list ks ls know.1 (λ m i. on m (inr i)),
)

-- the first mark of some goes on
pub first_goes_on : (catalog : Catalog) (parts : ℕ) (ks : List Known) (k l : Known) → slice_get ks 0 ≡ Some k → GoesOn catalog parts k l → EachGoesOn catalog parts ks (slice_set ks 0 l)
first_goes_on catalog parts [] k l first on = absurd (cc)
first_goes_on catalog parts (x ∷ ks) k l first on =
    let here : k ≡ x = cc in
    (subst (λ (y : Known). GoesOn catalog parts y l) here on, all_on_itself catalog parts ks)

pub first_in : (ks : List Known) (k l : Known) → slice_get ks 0 ≡ Some k → In l (slice_set ks 0 l)
first_in [] k l first = absurd (cc)
first_in (x ∷ ks) k l first = inl refl

pub roles_go_on : (catalog : Catalog) (parts : ℕ) (ks ls : List Known) → EachGoesOn catalog parts ks ls → roles_of ls ≡ roles_of ks
roles_go_on catalog parts [] [] all = refl
roles_go_on catalog parts [] (l ∷ ls) all = absurd all
roles_go_on catalog parts (k ∷ ks) [] all = absurd all
roles_go_on catalog parts (k ∷ ks) (l ∷ ls) all = λ i. all.0.role i ∷ roles_go_on catalog parts ks ls all.1 i

-- the mark that it was
pub went_in : (catalog : Catalog) (parts : ℕ) (ks ls : List Known) → EachGoesOn catalog parts ks ls → (l : Known) → In l ls → (k : Known) × In k ks × GoesOn catalog parts k l
went_in catalog parts [] [] all l i = absurd i
went_in catalog parts [] (x ∷ ls) all l i = absurd all
went_in catalog parts (k ∷ ks) [] all l i = absurd all
went_in catalog parts (k ∷ ks) (x ∷ ls) all l i =
    ⊎_elim (λ (e : l ≡ x). (k, inl refl, subst (GoesOn catalog parts k) (sym e) all.0))
    (λ (j : In l ls). let (m, there, on) = went_in catalog parts ks ls all.1 l j in (m, inr there, on)) i

-- and the one that it is
came_out : (catalog : Catalog) (parts : ℕ) (ks ls : List Known) → EachGoesOn catalog parts ks ls → (k : Known) → In k ks → (l : Known) × In l ls × GoesOn catalog parts k l
came_out catalog parts [] [] all k i = absurd i
came_out catalog parts [] (l ∷ ls) all k i = absurd all
came_out catalog parts (x ∷ ks) [] all k i = absurd all
came_out catalog parts (x ∷ ks) (l ∷ ls) all k i =
    ⊎_elim (λ (e : k ≡ x). (l, inl refl, subst (λ (y : Known). GoesOn catalog parts y l) (sym e) all.0))
    (λ (j : In k ks). let (m, there, on) = came_out catalog parts ks ls all.1 k j in (m, inr there, on)) i

-- each mark's own part stays as it was
pub agree_on : (catalog : Catalog) → Accepted catalog → (n : ℕ) → 1 ≤ n → (db d : Database) (ks ls : List Known) → EachGoesOn catalog n ks ls → AgreesWith catalog n db ks d → AgreesWith catalog n db ls d
agree_on catalog accepted n some db d ks ls all agrees p l i is =
    let (k, there, on) = went_in catalog n ks ls all l i in
    let own : k.role ≡ Part p = sym on.role ∙ is in
    let alone : AllContinue catalog n l.list (k ∷ []) = λ x j. ⊎_elim (λ (e : x ≡ k). subst (Continues catalog n l.list) (sym e) on.on) (λ (z : ⊥). absurd z) j in
    agrees p k there own ∙ sym (own_part catalog accepted n some db l.list (k ∷ []) alone p k (inl refl) own)

pub looked_in_hand : {I : Type 0} (catalog : Catalog) → Accepted catalog → (n : ℕ) → 1 ≤ n → (db : Database) (held : List ℕ) (hand : Hand I) (ks : List Known) → EachGoesOn catalog n hand.marks ks → IsInHand catalog n db held hand
    → IsInHand catalog n db held (record hand { marks = ks })
looked_in_hand catalog accepted n some db held hand ks all in_hand = record {
  rising = in_hand.rising;
  run = in_hand.run;
  numbers = in_hand.numbers;
  parts = in_hand.parts;
  left = in_hand.left;
  roles = roles_go_on catalog n hand.marks ks all ∙ in_hand.roles;
  of_one = record { database = in_hand.of_one.database; holds = in_hand.of_one.holds; agrees = agree_on catalog accepted n some db in_hand.of_one.database hand.marks ks all in_hand.of_one.agrees };
}

-- ---- a commit of marks that had gone on

-- a mark whose list would go on to this one
pub reaching : (catalog : Catalog) (parts : ℕ) (list : List Item) (k : Known) → Continues catalog parts list k → GoesOn catalog parts k (known k.role list k.count k.faults)
reaching catalog parts list k on = record { role = refl; sees = record { count = omega arith; faults = omega arith; disk = λ d. (refl, refl) }; on = on }

pub continue_through : (catalog : Catalog) (parts : ℕ) (list : List Item) (ks ls : List Known) → EachGoesOn catalog parts ks ls → AllContinue catalog parts list ls → AllContinue catalog parts list ks
continue_through catalog parts list ks ls all on k i =
    let (l, there, goes) = came_out catalog parts ks ls all k i in
    (on_and_on catalog parts k l (known l.role list l.count l.faults) goes (reaching catalog parts list l (on l there))).on

know_one : (catalog : Catalog) (parts : ℕ) (list : List Item) (k l m : Known) → GoesOn catalog parts k l → Knows list l m → Knows list k m
know_one catalog parts list k l m on knows = record {
  role = knows.role ∙ on.role;
  list_is = knows.list_is;
  sees = record {
    count = (let a = on.sees.count in let b = knows.sees.count in omega arith);
    faults = (let a = on.sees.faults in let b = knows.sees.faults in omega arith);
    disk = λ d. (let a = on.sees.disk d in let b = knows.sees.disk (on.role ∙ d) in (b.0 ∙ a.0, b.1 ∙ a.1));
  };
}

pub know_through : (catalog : Catalog) (parts : ℕ) (list : List Item) (ks ls ms : List Known) → EachGoesOn catalog parts ks ls → AllKnow list ls ms → AllKnow list ks ms
know_through catalog parts list [] [] ms all know = know
know_through catalog parts list [] (l ∷ ls) ms all know = absurd all
know_through catalog parts list (k ∷ ks) [] ms all know = absurd all
know_through catalog parts list (k ∷ ks) (l ∷ ls) [] all know = absurd know
know_through catalog parts list (k ∷ ks) (l ∷ ls) (m ∷ ms) all know = (know_one catalog parts list k l m all.0 know.0, know_through catalog parts list ks ls ms all.1 know.1)
