-- The marks of the partitions in hand.
use Rattle.std.proofs.Common.{◌≡◌, ◌==◌, inl, inr, ⊎_elim, ℕ, true, List, [], ◌∷◌, ◌++◌, map, refl, sym, ap, subst, ◌∙◌, true≢false}
use Rattle.std.specs.List.{list_any}
use Rattle.ss_lemmas.proofs.Bools.{either_so}
use Rattle.ss_lemmas.proofs.Numbers.{eqb_is}
use Rattle.ss_model.specs.declared.catalog.Catalog.{Catalog}
use Rattle.ss_model.specs.declared.entry.Entry.{Entry}
use Rattle.ss_model.specs.declared.entry.Entry.TheVariants.{Call, Push, Step as StepEntry, Install}
use Rattle.ss_model.specs.Database.{Database}
use Rattle.ss_model.specs.Partitions.{part, touches}
use Rattle.ss_model.specs.parts.HeldParts.{HoldsTouched}
use Rattle.ss_model.specs.Replays.{after}
use Rattle.ss_commitlog.specs.declared.role.Role.{Role}
use Rattle.ss_commitlog.specs.declared.role.Role.TheVariants.{Reader, Part, Client, Disk, Log}
use Rattle.ss_commitlog.specs.declared.rule.Item.{Item}
use Rattle.ss_commitlog.specs.Meaning.{is_of_client, listed_of}
use Rattle.ss_commitlog.specs.Right.{AgreesWith}
use Rattle.ss_commitlog.specs.Roles.{In}
use Rattle.ss_commitlog.specs.Tokens.{Known, AllKnow, Covers, roles_of}
use Rattle.ss_commitlog.proofs.CallerLemmas.{token_of}
use Rattle.ss_hand.specs.declared.hand.Hand.{Hand}
use Rattle.ss_hand.specs.Hands.{IsInHand}
use Rattle.ss_shard.specs.Parts.{is_among}
use Rattle.ss_shard.specs.Unions.{numbers_of}
use Rattle.ss_turns.specs.Commits.{with_client}
use Rattle.ss_turns.specs.Executed.{IsOfRole}

-- ---- which partitions have marks

-- a partition that is held has its role among theirs
in_parts : (held : List ℕ) (p : ℕ) → is_among held p ≡ true → In (Part p) (map Part held)
in_parts [] p h = absurd (true≢false (sym h))
in_parts (q ∷ held) p h = ⊎_elim (λ (e : (q == p) ≡ true). inl (ap Part (sym (eqb_is q p e)))) (λ (e : list_any (λ x. x == p) held ≡ true). inr (in_parts held p e)) (either_so (q == p) (list_any (λ x. x == p) held) h)

pub role_there : (held : List ℕ) (ks : List Known) → roles_of ks ≡ map Part held → (p : ℕ) → is_among held p ≡ true → In (Part p) (roles_of ks)
role_there held ks roles p h = subst (λ (rs : List Role). In (Part p) rs) (sym roles) (in_parts held p h)

pub in_roles : (role : Role) (ks ls : List Known) → In role (roles_of ks) → In role (roles_of (ks ++ ls))
in_roles role [] ls i = absurd i
in_roles role (k ∷ ks) ls i = ⊎_elim (λ (e : role ≡ k.role). inl e) (λ (j : In role (roles_of ks)). inr (in_roles role ks ls j)) i

client_role : (role : Role) (ks : List Known) (k : Known) → role ≡ k.role → In role (roles_of (with_client ks k))
client_role role [] k e = inl e
client_role role (x ∷ ks) k e = inr (client_role role ks k e)

-- ---- the marks of an execution cover its entry

module _ (catalog : Catalog) (n : ℕ) (held : List ℕ) (ks : List Known) (roles : roles_of ks ≡ map Part held) (e : Entry) (touched : HoldsTouched catalog n (is_among held) e) where
  part_there : (p : ℕ) → touches catalog n e p ≡ true → In (Part p) (roles_of ks)
  part_there p t = role_there held ks roles p (touched p t)

  of_asked : (k : Known) (x : Entry) → IsOfRole k.role x → (c : ℕ) → is_of_client c x ≡ true → Client c ≡ k.role
  of_asked k (Call client index q args) role c is = ap Client (sym (eqb_is client c is)) ∙ sym role
  of_asked k (Push client index s source seq rows) role c is = ap Client (sym (eqb_is client c is)) ∙ sym role
  of_asked k (Install client index q text) role c is = ap Client (sym (eqb_is client c is)) ∙ sym role
  of_asked k (StepEntry q r) role c is = absurd role

  pub covers_asked : (k : Known) → IsOfRole k.role e → Covers catalog n (roles_of (with_client ks k)) e
  covers_asked k role Reader is = absurd (true≢false (sym is))
  covers_asked k role (Part p) is = in_roles (Part p) ks (k ∷ []) (part_there p is)
  covers_asked k role (Client c) is = client_role (Client c) ks k (of_asked k e role c is)
  covers_asked k role Disk is = absurd (true≢false (sym is))
  covers_asked k role Log is = absurd (true≢false (sym is))

pub covers_step : (catalog : Catalog) (n : ℕ) (held : List ℕ) (ks : List Known) → roles_of ks ≡ map Part held → (q r : ℕ) → HoldsTouched catalog n (is_among held) (StepEntry q r) → Covers catalog n (roles_of ks) (StepEntry q r)
covers_step catalog n held ks roles q r touched Reader is = absurd (true≢false (sym is))
covers_step catalog n held ks roles q r touched (Part p) is = part_there catalog n held ks roles (StepEntry q r) touched p is
covers_step catalog n held ks roles q r touched (Client c) is = absurd (true≢false (sym is))
covers_step catalog n held ks roles q r touched Disk is = absurd (true≢false (sym is))
covers_step catalog n held ks roles q r touched Log is = absurd (true≢false (sym is))

-- ---- marks that all know one list

pub same_roles : (list : List Item) (ks ls : List Known) → AllKnow list ks ls → roles_of ls ≡ roles_of ks
same_roles list [] [] all = refl
same_roles list [] (l ∷ ls) all = absurd all
same_roles list (k ∷ ks) [] all = absurd all
same_roles list (k ∷ ks) (l ∷ ls) all = λ i. all.0.role i ∷ same_roles list ks ls all.1 i

know_list : (list : List Item) (ks ls : List Known) → AllKnow list ks ls → (l : Known) → In l ls → l.list ≡ list
know_list list [] [] all l i = absurd i
know_list list [] (x ∷ ls) all l i = absurd all
know_list list (k ∷ ks) [] all l i = absurd all
know_list list (k ∷ ks) (x ∷ ls) all l i = ⊎_elim (λ (e : l ≡ x). ap (λ (y : Known). y.list) e ∙ all.0.list_is) (λ (j : In l ls). know_list list ks ls all.1 l j) i

-- they agree with the database after it
pub agree_behind : (catalog : Catalog) (n : ℕ) (db : Database) (list : List Item) (ks ls : List Known) → AllKnow list ks ls → AgreesWith catalog n db ls (after catalog db (listed_of list))
agree_behind catalog n db list ks ls all p l i is = ap (λ (x : List Item). part catalog n p (after catalog db (listed_of x))) (sym (know_list list ks ls all l i))

-- ---- what some of the marks agree with

pub agree_fewer : (catalog : Catalog) (n : ℕ) (db d : Database) (ks ms : List Known) → ((k : Known) → In k ks → In k ms) → AgreesWith catalog n db ms d → AgreesWith catalog n db ks d
agree_fewer catalog n db d ks ms more agrees p k i is = agrees p k (more k i) is

-- two databases that the marks agree with have the same parts in hand
pub same_held : (catalog : Catalog) (n : ℕ) (db : Database) (held : List ℕ) (ks : List Known) → roles_of ks ≡ map Part held → (x y : Database) → AgreesWith catalog n db ks x → AgreesWith catalog n db ks y
    → (p : ℕ) → is_among held p ≡ true → part catalog n p x ≡ part catalog n p y
same_held catalog n db held ks roles x y agrees_x agrees_y p h =
    let (k, i, is) = token_of (Part p) ks (role_there held ks roles p h) in
    agrees_x p k i is ∙ sym (agrees_y p k i is)

-- a hand has marks
pub some_marks : {I : Type 0} (catalog : Catalog) (n : ℕ) (db : Database) (held : List ℕ) (hand : Hand I) → IsInHand catalog n db held hand → hand.marks ≡ [] → ⊥
some_marks catalog n db held hand in_hand none =
    let e : roles_of [] ≡ map Part (hand.shard.number ∷ numbers_of hand.shells.items) = ap roles_of (sym none) ∙ in_hand.roles ∙ ap (map Part) (sym in_hand.numbers) in
    absurd (cc)
