-- What marks and a note know after the log's seat took in all of them, showed them its list, and gave them back, the note last.
use Rattle.std.proofs.Common.{◌≡◌, ℕ, ◌+◌, ◌<◌, ◌≤◌, List, [], ◌∷◌, ◌++◌, map, take, drop, length, refl, sym, ap, ◌∙◌, subst, inl, ⊎_elim, arith, append_assoc, length-append}
use Rattle.atomic_table.specs.Table.{Me}
use Rattle.ss_model.specs.declared.entry.Listed.{Listed}
use Rattle.ss_model.specs.declared.catalog.Catalog.{Catalog}
use Rattle.ss_model.specs.Database.{Database}
use Rattle.ss_commitlog.specs.declared.role.Role.{Role}
use Rattle.ss_commitlog.specs.declared.role.Role.TheVariants.{Log}
use Rattle.ss_commitlog.specs.declared.rule.Item.{Item}
use Rattle.ss_commitlog.specs.declared.rule.Stamp.{Stamp}
use Rattle.ss_commitlog.specs.declared.rule.View.{View}
use Rattle.ss_commitlog.specs.Roles.{In}
use Rattle.ss_commitlog.specs.Rule.{Shown, at_rest, stamp}
use Rattle.ss_commitlog.specs.Meaning.{Recorded, IsLegal}
use Rattle.ss_commitlog.specs.Tokens.{Known, head_or_reader, joined, token, cut, roles_of, log_view, Knows, AllKnow, Continues, AllContinue, AllSeeAs}
use Rattle.ss_commitlog.proofs.Lists.{in_left, in_right}
use Rattle.ss_commitlog.proofs.Meeting.{drop_front, length-roles_of, now_known, take_front, took_continue, took_list, took_none, took_roles}

roles_with : (ks : List Known) (k : Known) → roles_of (ks ++ k ∷ []) ≡ roles_of ks ++ k.role ∷ []
roles_with [] k = refl
roles_with (l ∷ ks) k = ap (λ (ns : List Role). l.role ∷ ns) (roles_with ks k)

-- all know, and so the last one does
known_apart : (list : List Item) (f : Role → Known) (ks : List Known) (k : Known) → AllKnow list (ks ++ k ∷ []) (map f (roles_of (ks ++ k ∷ []))) → AllKnow list ks (map f (roles_of ks)) × Knows list k (f k.role)
known_apart list f [] k all = (tt, all.0)
known_apart list f (l ∷ ks) k all = let r = known_apart list f ks k all.1 in ((all.0, r.0), r.1)

-- tokens of one stamp have seen what it has
seen_alike : (o : Stamp) (ns : List Role) (k : Known) → In k (map (token o) ns) → (k.count ≡ o.count) × (k.faults ≡ o.faults)
seen_alike o [] k there = absurd there
seen_alike o (n ∷ ns) k there = ⊎_elim (λ (is : k ≡ token o n). (ap (λ (l : Known). l.count) is, ap (λ (l : Known). l.faults) is)) (λ (i : In k (map (token o) ns)). seen_alike o ns k i) there

module _ (marks : List Known) (k : Known) (me0 me1 me2 : Me Listed View) (log : me0 ≡ (log_view me0.0.now.known me0.0.now.count me0.0.now.faults, []))
    (took : me1 ≡ (joined me0.0 (marks ++ k ∷ []), me0.1)) (stepped : me2 ≡ (at_rest me1.0.now, me1.1)) where
  roles_are : me1.0.now.roles ≡ roles_of marks ++ k.role ∷ Log ∷ []
  roles_are = took_roles (marks ++ k ∷ []) me0 me1 log took ∙ (ap (λ (ns : List Role). ns ++ Log ∷ []) (roles_with marks k) ∙ append_assoc (roles_of marks) (k.role ∷ []) (Log ∷ []))

  listed : me1.0.now.known ≡ me0.0.now.known
  listed = took_list (marks ++ k ∷ []) me0 me1 log took

  pub with_roles : (n : ℕ) → n ≡ length marks → (n ≤ length me2.0.now.roles) × (me2.0 ≡ at_rest me2.0.now)
  with_roles n count =
      let many : length me1.0.now.roles ≡ length (roles_of marks) + 2 = ap length roles_are ∙ length-append (roles_of marks) (k.role ∷ Log ∷ []) in
      let low : n ≤ length me1.0.now.roles = omega (arith, many, count, length-roles_of marks) in
      subst (λ (m : Me Listed View). (n ≤ length m.0.now.roles) × (m.0 ≡ at_rest m.0.now)) (sym stepped) (low, refl)

  pub with_legal : (catalog : Catalog) (parts clients limit : ℕ) (db : Database) → IsLegal catalog parts clients limit db me0.0.now.known → IsLegal catalog parts clients limit db me2.0.now.known
  with_legal catalog parts clients limit db r = subst (λ (m : Me Listed View). IsLegal catalog parts clients limit db m.0.now.known) (sym stepped) (subst (IsLegal catalog parts clients limit db) (sym listed) r)

  -- the marks, which were given back first
  marks_are : (n : ℕ) (news : List Known) → n ≡ length marks → news ≡ map (token me2.0.now) (take n me2.0.now.roles) → news ≡ map (token me1.0.now) (roles_of marks)
  marks_are n news count given =
      given ∙ (ap (λ (m : Me Listed View). map (token m.0.now) (take n m.0.now.roles)) stepped
      ∙ (ap (λ (ns : List Role). map (token me1.0.now) (take n ns)) roles_are ∙ ap (map (token me1.0.now)) (take_front (roles_of marks) (k.role ∷ Log ∷ []) n (count ∙ sym (length-roles_of marks)))))

  -- the seat behind it
  abbrev seat_left : List Role → Me Listed View
  seat_left ns = (at_rest (stamp ns me1.0.now.known me1.0.now.count me1.0.now.faults), me1.1)

  left : (n : ℕ) (me3 : Me Listed View) → n ≡ length marks → me3 ≡ (cut n me2.0, me2.1) → me3 ≡ seat_left (k.role ∷ Log ∷ [])
  left n me3 count back =
      back ∙ (ap (λ (m : Me Listed View). (cut n m.0, m.1)) stepped ∙ ap seat_left (ap (drop n) roles_are ∙ drop_front (roles_of marks) (k.role ∷ Log ∷ []) n (count ∙ sym (length-roles_of marks))))

  note_is : (n : ℕ) (me3 : Me Listed View) (x : Known) → n ≡ length marks → me3 ≡ (cut n me2.0, me2.1) → x ≡ token me3.0.now (head_or_reader me3.0.now.roles) → x ≡ token me1.0.now k.role
  note_is n me3 x count back is = is ∙ ap (λ (m : Me Listed View). token m.0.now (head_or_reader m.0.now.roles)) (left n me3 count back)

  pub left_roles : (n : ℕ) (me3 : Me Listed View) → n ≡ length marks → me3 ≡ (cut n me2.0, me2.1) → (0 < length me3.0.now.roles) × (me3.0 ≡ at_rest me3.0.now)
  left_roles n me3 count back = subst (λ (m : Me Listed View). (0 < length m.0.now.roles) × (m.0 ≡ at_rest m.0.now)) (sym (left n me3 count back)) (omega arith, refl)

  pub left_legal : (n : ℕ) (me3 : Me Listed View) → n ≡ length marks → me3 ≡ (cut n me2.0, me2.1) → (catalog : Catalog) (parts clients limit : ℕ) (db : Database)
      → IsLegal catalog parts clients limit db me0.0.now.known → IsLegal catalog parts clients limit db me3.0.now.known
  left_legal n me3 count back catalog parts clients limit db r =
      subst (λ (m : Me Listed View). IsLegal catalog parts clients limit db m.0.now.known) (sym (left n me3 count back)) (subst (IsLegal catalog parts clients limit db) (sym listed) r)

  pub log_left : (n : ℕ) (me3 me4 : Me Listed View) → n ≡ length marks → me3 ≡ (cut n me2.0, me2.1) → me4 ≡ (cut 1 me3.0, me3.1) → me4 ≡ (log_view me0.0.now.known me4.0.now.count me4.0.now.faults, [])
  log_left n me3 me4 count back last =
      let bare : List Item → List (ℕ × Listed) → Me Listed View = λ l e. (log_view l me1.0.now.count me1.0.now.faults, e) in
      let whole : me4 ≡ bare me0.0.now.known [] = last ∙ (ap (λ (m : Me Listed View). (cut 1 m.0, m.1)) (left n me3 count back)
      ∙ (ap (λ (l : List Item). bare l me1.1) listed ∙ ap (bare me0.0.now.known) (took_none (marks ++ k ∷ []) me0 me1 log took))) in
      subst (λ (m : Me Listed View). m ≡ (log_view me0.0.now.known m.0.now.count m.0.now.faults, [])) (sym whole) refl

  -- what all of them know
  all_told : Shown me1.0 → AllKnow me0.0.now.known marks (map (token me1.0.now) (roles_of marks)) × Knows me0.0.now.known k (token me1.0.now k.role)
  all_told shown =
      let ks = marks ++ k ∷ [] in
      let many = length ks in
      let all = now_known ks me0 me1 me2 me1.0.now me0.0.now.known many log took stepped refl listed refl refl refl shown in
      let same : map (token me2.0.now) (take many me2.0.now.roles) ≡ map (token me1.0.now) (roles_of ks) =
      ap (λ (m : Me Listed View). map (token m.0.now) (take many m.0.now.roles)) stepped
      ∙ (ap (λ (ns : List Role). map (token me1.0.now) (take many ns)) (took_roles ks me0 me1 log took) ∙ ap (map (token me1.0.now)) (take_front (roles_of ks) (Log ∷ []) many (sym (length-roles_of ks)))) in
      known_apart me0.0.now.known (token me1.0.now) marks k (subst (AllKnow me0.0.now.known ks) same all)

  pub marks_told : (n : ℕ) (news : List Known) → n ≡ length marks → news ≡ map (token me2.0.now) (take n me2.0.now.roles) → Shown me1.0 → AllKnow me0.0.now.known marks news
  marks_told n news count given shown = subst (AllKnow me0.0.now.known marks) (sym (marks_are n news count given)) (all_told shown).0

  pub note_told : (n : ℕ) (me3 : Me Listed View) (x : Known) → n ≡ length marks → me3 ≡ (cut n me2.0, me2.1) → x ≡ token me3.0.now (head_or_reader me3.0.now.roles) → Shown me1.0 → Knows me0.0.now.known k x
  note_told n me3 x count back is shown = subst (Knows me0.0.now.known k) (sym (note_is n me3 x count back is)) (all_told shown).1

  pub see_alike : (n : ℕ) (me3 : Me Listed View) (x : Known) (news : List Known) → n ≡ length marks → me3 ≡ (cut n me2.0, me2.1) → x ≡ token me3.0.now (head_or_reader me3.0.now.roles)
      → news ≡ map (token me2.0.now) (take n me2.0.now.roles) → AllSeeAs x news
  see_alike n me3 x news count back is given l there =
      let mine = seen_alike me1.0.now (roles_of marks) l (subst (In l) (marks_are n news count given) there) in
      let own = note_is n me3 x count back is in
      (mine.0 ∙ sym (ap (λ (y : Known). y.count) own), mine.1 ∙ sym (ap (λ (y : Known). y.faults) own))

  pub both_continue : (catalog : Catalog) (parts : ℕ) → Recorded catalog parts me0.0.now.known → Shown me1.0 → AllContinue catalog parts me0.0.now.known marks × Continues catalog parts me0.0.now.known k
  both_continue catalog parts recorded shown =
      let all = took_continue (marks ++ k ∷ []) me0 me1 log took catalog parts recorded shown in
      (λ l i. all l (in_left l marks (k ∷ []) i), all k (in_right k marks (k ∷ []) (inl refl)))
