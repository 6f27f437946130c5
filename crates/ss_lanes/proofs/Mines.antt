-- A client's entries in lists that go on.
use Rattle.std.proofs.Common.{◌≡◌, ℕ, suc, ◌+◌, ◌<◌, ◌≤◌, Bool, true, false, cond, List, [], ◌∷◌, ◌++◌, length, refl, sym, ap, ◌∙◌, subst, inl, inr, ⊎_elim, arith, length-append, append-nil}
use Rattle.std.proofs.lemmas.List.{nil_from_length}
use Rattle.ss_lemmas.proofs.Ends.{ends_alike}
use Rattle.ss_model.specs.declared.catalog.Catalog.{Catalog}
use Rattle.ss_model.specs.declared.entry.Entry.{Entry}
use Rattle.ss_model.specs.declared.entry.Entry.TheVariants.{Call, Push, Step as StepEntry, Install}
use Rattle.ss_model.specs.declared.entry.Listed.{Listed}
use Rattle.ss_report_laws.specs.Replies.{is_of, mine}
use Rattle.ss_commitlog.specs.declared.role.Role.{Role}
use Rattle.ss_commitlog.specs.declared.role.Role.TheVariants.{Client}
use Rattle.ss_commitlog.specs.declared.rule.Item.{Item}
use Rattle.ss_commitlog.specs.Meaning.{concerns, is_of_client, listed_of}
use Rattle.ss_commitlog.specs.Roles.{In}
use Rattle.ss_commitlog.specs.Tokens.{Known, Continues}
use Rattle.ss_commitlog.proofs.CallerLemmas.{length-listed_of, listed_of-append}
use Rattle.ss_lanes.specs.Mines.{Mine, mine_in}

kept_first : (b : Bool) (p : Mine) (both xs ys : List Mine) → both ≡ xs ++ ys → cond b (p ∷ both) both ≡ cond b (p ∷ xs) xs ++ ys
kept_first true p both xs ys e = ap (λ (l : List Mine). p ∷ l) e
kept_first false p both xs ys e = e

-- of two lists, the second of which begins behind the first
pub mine-append : (c first : ℕ) (xs ys : List Listed) → mine c first (xs ++ ys) ≡ mine c first xs ++ mine c (first + length xs) ys
mine-append c first [] ys = ap (λ n. mine c n ys) (omega arith)
mine-append c first (x ∷ xs) ys =
    let on : mine c (first + 1) (xs ++ ys) ≡ mine c (first + 1) xs ++ mine c (first + length (x ∷ xs)) ys = mine-append c (first + 1) xs ys ∙ ap (λ n. mine c (first + 1) xs ++ mine c n ys) (omega arith) in
    kept_first (is_of c x.entry) (first, x) (mine c (first + 1) (xs ++ ys)) (mine c (first + 1) xs) (mine c (first + length (x ∷ xs)) ys) on

-- the same of lists of items
pub mine_in-append : (c first : ℕ) (xs ys : List Item) → mine_in c first (xs ++ ys) ≡ mine_in c first xs ++ mine_in c (first + length xs) ys
mine_in-append c first xs ys =
    ap (mine c first) (listed_of-append xs ys) ∙ (mine-append c first (listed_of xs) (listed_of ys)
    ∙ ap (λ n. mine_in c first xs ++ mine c (first + n) (listed_of ys)) (length-listed_of xs))

-- to concern a client is to be its own
of_client_is : (c : ℕ) (e : Entry) → is_of_client c e ≡ is_of c e
of_client_is c (Call client index q args) = refl
of_client_is c (Push client index s source seq rows) = refl
of_client_is c (StepEntry q r) = refl
of_client_is c (Install client index q text) = refl

mine_spared : (catalog : Catalog) (parts c first : ℕ) (rest : List Item) → ((i : Item) → In i rest → concerns catalog parts i.listed.entry (Client c) ≡ false) → mine_in c first rest ≡ []
mine_spared catalog parts c first [] quiet = refl
mine_spared catalog parts c first (x ∷ xs) quiet =
    ap (λ (b : Bool). cond b ((first, x.listed) ∷ mine_in c (first + 1) xs) (mine_in c (first + 1) xs)) (sym (of_client_is c x.listed.entry) ∙ quiet x (inl refl))
    ∙ mine_spared catalog parts c (first + 1) xs (λ i j. quiet i (inr j))

-- behind what the client's own mark knew the list has no entry of the client
pub mine_own : (catalog : Catalog) (parts c first : ℕ) (list : List Item) (k : Known) → Continues catalog parts list k → k.role ≡ Client c → mine_in c first list ≡ mine_in c first k.list
mine_own catalog parts c first list k on own =
    ap (mine_in c first) on.is ∙ (mine_in-append c first k.list on.rest
    ∙ (ap (λ l. mine_in c first k.list ++ l) (mine_spared catalog parts c (first + length k.list) on.rest (subst (λ (r : Role). (j : Item) → In j on.rest → concerns catalog parts j.listed.entry r ≡ false) own on.quiet))
    ∙ append-nil (mine_in c first k.list)))

more_places : (b : Bool) (p : Mine) (ps : List Mine) (n : ℕ) → n ≤ p.0 → ((q : Mine) → In q ps → n ≤ q.0) → (q : Mine) → In q (cond b (p ∷ ps) ps) → n ≤ q.0
more_places true p ps n here there q i = ⊎_elim (λ (e : q ≡ p). subst (λ (x : Mine). n ≤ x.0) (sym e) here) (λ j. there q j) i
more_places false p ps n here there q i = there q i

-- no entry stands before the list's first place
pub mine_from : (c first : ℕ) (list : List Listed) (q : Mine) → In q (mine c first list) → first ≤ q.0
mine_from c first [] q i = absurd i
mine_from c first (x ∷ xs) q i =
    more_places (is_of c x.entry) (first, x) (mine c (first + 1) xs) first (omega arith) (λ p j. let a = mine_from c (first + 1) xs p j in omega arith) q i

-- nor behind its end
pub mine_below : (c first : ℕ) (list : List Listed) (q : Mine) → In q (mine c first list) → q.0 < first + length list
mine_below c first [] q i = absurd i
mine_below c first (x ∷ xs) q i = by (is_of c x.entry) (λ k. let a = mine_below c (first + 1) xs q k in omega arith) i
  where
    by : (b : Bool) → (In q (mine c (first + 1) xs) → q.0 < first + length (x ∷ xs)) → In q (cond b ((first, x) ∷ mine c (first + 1) xs) (mine c (first + 1) xs)) → q.0 < first + length (x ∷ xs)
    by true later j = ⊎_elim (λ (e : q ≡ (first, x)). subst (λ (y : Mine). y.0 < first + length (x ∷ xs)) (sym e) (omega arith)) later j
    by false later j = later j

one_more : {A : Type 0} (xs : List A) → length xs ≡ 1 → (x : A) × (xs ≡ x ∷ [])
one_more [] e = absurd (omega arith)
one_more (x ∷ []) e = (x, refl)
one_more (x ∷ y ∷ xs) e = absurd (omega arith)

module _ (c first : ℕ) (list old rest : List Item) (is : list ≡ old ++ rest) where
  split : mine_in c first list ≡ mine_in c first old ++ mine_in c (first + length old) rest
  split = ap (mine_in c first) is ∙ mine_in-append c first old rest

  -- the list went on from an old one, with as many entries of the client
  pub no_more : length (mine_in c first list) ≡ length (mine_in c first old) → mine_in c first list ≡ mine_in c first old
  no_more same =
      let m = ap (λ (z : List Mine). length z) split in
      let n = length-append (mine_in c first old) (mine_in c (first + length old) rest) in
      split ∙ (ap (λ z. mine_in c first old ++ z) (nil_from_length (mine_in c (first + length old) rest) (omega arith)) ∙ append-nil (mine_in c first old))

  -- the list went on from an old one, with one entry of the client more, which is the client's last
  pub just_one : (front : List Mine) (p : Mine) → length (mine_in c first list) ≡ length (mine_in c first old) + 1 → mine_in c first list ≡ front ++ p ∷ []
      → (mine_in c first list ≡ mine_in c first old ++ p ∷ []) × (first + length old ≤ p.0)
  just_one front p count ends =
      let m = ap (λ (z : List Mine). length z) split in
      let n = length-append (mine_in c first old) (mine_in c (first + length old) rest) in
      let o = one_more (mine_in c (first + length old) rest) (omega arith) in
      let whole : mine_in c first list ≡ mine_in c first old ++ o.0 ∷ [] = split ∙ ap (λ z. mine_in c first old ++ z) o.1 in
      let same : o.0 ≡ p = (ends_alike (mine_in c first old) front o.0 p (sym whole ∙ ends)).1 in
      let here : In o.0 (mine_in c (first + length old) rest) = subst (In o.0) (sym o.1) (inl refl) in
      (whole ∙ ap (λ (q : Mine). mine_in c first old ++ q ∷ []) same, subst (λ (q : Mine). first + length old ≤ q.0) same (mine_from c (first + length old) (listed_of rest) o.0 here))

shorter_first : (b : Bool) (p : Mine) (ps : List Mine) (n : ℕ) → length ps ≤ n → length (cond b (p ∷ ps) ps) ≤ suc n
shorter_first true p ps n l = omega arith
shorter_first false p ps n l = omega arith

-- a client has no more entries than the list
pub mine_shorter : (c first : ℕ) (list : List Item) → length (mine_in c first list) ≤ length list
mine_shorter c first [] = omega arith
mine_shorter c first (x ∷ xs) = shorter_first (is_of c x.listed.entry) (first, x.listed) (mine_in c (first + 1) xs) (length xs) (mine_shorter c (first + 1) xs)
