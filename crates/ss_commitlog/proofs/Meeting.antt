-- What the tokens know after the log's seat has shown them its list.
use Rattle.std.proofs.Common.{◌≡◌, ◌≢◌, ◌⊎◌, ℕ, true, false, true≢false, zero, suc, ◌+◌, ◌≤◌, List, [], ◌∷◌, ◌++◌, map, take, drop, length, refl, sym, ap, ◌∙◌, subst, inl, inr, ⊎_elim, arith, length-append, eqb}
use mathlib.Core.Option.{some, none}
use prog.Atomic.{either}
use Rattle.atomic_table.specs.Table.{Me, Allows, step}
use Rattle.ss_model.specs.declared.entry.Listed.{Listed}
use Rattle.ss_commitlog.specs.declared.role.Role.{Role}
use Rattle.ss_commitlog.specs.declared.role.Role.TheVariants.{Log, Reader, Disk}
use Rattle.ss_commitlog.specs.declared.rule.Item.{Item}
use Rattle.ss_commitlog.specs.declared.rule.Stamp.{Stamp}
use Rattle.ss_commitlog.specs.declared.rule.View.{View}
use Rattle.ss_commitlog.specs.Roles.{In, Begins}
use Rattle.ss_commitlog.specs.Rule.{Shown, at_rest, together, IsKept, Looked, Added, item, SawCount, SawFaults, PostedCount, PostedFaults}
use Rattle.ss_commitlog.specs.Meaning.{concerns, Recorded, IsLegal}
use Rattle.ss_model.specs.declared.catalog.Catalog.{Catalog}
use Rattle.ss_model.specs.declared.entry.Entry.{Entry}
use Rattle.ss_model.specs.Database.{Database}
use Rattle.ss_commitlog.specs.Tokens.{Known, known, head_or_reader, stamp_of, seat_view, joined, token, cut, role_of, roles_of, log_view, SeesMore, AllKnow, AllContinue, added}
use Rattle.ss_commitlog.proofs.Lists.{in_left, in_right, true_or_false}
use Rattle.ss_commitlog.proofs.Steps.{looks, adds, at_seat, sees_count, sees_faults, posts_count, posts_faults}

pub joined_roles : (v : View) (ks : List Known) → (joined v ks).now.roles ≡ roles_of ks ++ v.now.roles
joined_roles v [] = refl
joined_roles v (k ∷ ks) = ap (λ (l : List Role). k.role ∷ l) (joined_roles v ks)

pub joined_list : (v : View) (ks : List Known) → (joined v ks).now.known ≡ v.now.known
joined_list v [] = refl
joined_list v (k ∷ ks) = joined_list v ks

in_olds : (v : View) (ks : List Known) (k : Known) → In k ks → In (stamp_of k) (joined v ks).olds
in_olds v [] k i = absurd i
in_olds v (x ∷ ks) k i = ⊎_elim (λ (is : k ≡ x). inl (ap stamp_of is)) (λ (j : In k ks). inr (in_olds v ks k j)) i

joined_seen : (v : View) (ks : List Known) (k : Known) → In k ks → (k.count ≤ (joined v ks).now.count) × (k.faults ≤ (joined v ks).now.faults)
joined_seen v [] k i = absurd i
joined_seen v (x ∷ ks) k i = ⊎_elim
    (λ (is : k ≡ x). let a : k.count ≡ x.count = ap (λ (z : Known). z.count) is in let b : k.faults ≡ x.faults = ap (λ (z : Known). z.faults) is in (omega arith, omega arith))
    (λ (j : In k ks). let r = joined_seen v ks k j in let a = r.0 in let b = r.1 in (omega arith, omega arith)) i

concerned_somebody : (catalog : Catalog) (parts : ℕ) (e : Entry) (role : Role) → concerns catalog parts e role ≡ true → role ≢ Reader
concerned_somebody catalog parts e role t is = true≢false (sym t ∙ ap (concerns catalog parts e) is)

pub all_continue : (catalog : Catalog) (parts : ℕ) (v : View) (ks : List Known) → Recorded catalog parts v.now.known → Shown (joined v ks) → AllContinue catalog parts v.now.known ks
all_continue catalog parts v ks r s k i =
    let b = subst (λ (l : List Item). Begins l (k.role ∷ []) k.list) (joined_list v ks) (s.3 (stamp_of k) (in_olds v ks k i)).begins in
    record {
      rest = b.0;
      is = b.1;
      quiet = λ x j. ⊎_elim
          (λ (t : concerns catalog parts x.listed.entry k.role ≡ true). absurd (b.2 x k.role (concerned_somebody catalog parts x.listed.entry k.role t) j (inl refl) (r x k.role (subst (In x) (sym b.1) (in_right x k.list b.0 j)) t)))
          (λ (t : concerns catalog parts x.listed.entry k.role ≡ false). t) (true_or_false (concerns catalog parts x.listed.entry k.role));
    }

all_know : (list : List Item) (c f : ℕ) (ks : List Known) → ((k : Known) → In k ks → SeesMore k (known k.role list c f)) → AllKnow list ks (map (λ role. known role list c f) (roles_of ks))
all_know list c f [] seen = tt
all_know list c f (k ∷ ks) seen = (record { role = refl; list_is = refl; sees = seen k (inl refl) }, all_know list c f ks (λ x i. seen x (inr i)))

-- the disk's note has just the numbers that the joined seat then has
pub disk_kept : (v : View) (ks : List Known) (k : Known) → In k ks → k.role ≡ Disk → Shown (joined v ks) → ((joined v ks).now.count ≡ k.count) × ((joined v ks).now.faults ≡ k.faults)
disk_kept v ks k i is s =
    let here : In Disk (joined v ks).now.roles = subst (In Disk) (sym (joined_roles v ks)) (in_left Disk (roles_of ks) v.now.roles (role_in ks i)) in
    let now = s.2.posted here in
    let old = (s.3 (stamp_of k) (in_olds v ks k i)).posted (inl (sym is)) in
    (now.0 ∙ sym old.0, now.1 ∙ sym old.1)
  where
    role_in : (l : List Known) → In k l → In Disk (roles_of l)
    role_in [] j = absurd j
    role_in (x ∷ xs) j = ⊎_elim (λ (e : k ≡ x). inl (sym is ∙ ap role_of e)) (λ r. inr (role_in xs r)) j

pub take_front : {A : Type 0} (xs ys : List A) (n : ℕ) → n ≡ length xs → take n (xs ++ ys) ≡ xs
take_front [] ys zero is = refl
take_front [] ys (suc n) is = absurd (omega arith)
take_front (x ∷ xs) ys zero is = absurd (omega arith)
take_front (x ∷ xs) ys (suc n) is = ap (λ l. x ∷ l) (take_front xs ys n (omega arith))

pub drop_front : {A : Type 0} (xs ys : List A) (n : ℕ) → n ≡ length xs → drop n (xs ++ ys) ≡ ys
drop_front [] ys zero is = refl
drop_front [] ys (suc n) is = absurd (omega arith)
drop_front (x ∷ xs) ys zero is = absurd (omega arith)
drop_front (x ∷ xs) ys (suc n) is = drop_front xs ys n (omega arith)

pub length-roles_of : (ks : List Known) → length (roles_of ks) ≡ length ks
length-roles_of [] = refl
length-roles_of (k ∷ ks) = ap suc (length-roles_of ks)

-- after a step that left the roles of the joined seat as they are, and its list as `list`
pub log_again : (v : View) (ks : List Known) (o : Stamp) (list : List Item) (n : ℕ) → v.now.roles ≡ Log ∷ [] → o.roles ≡ (joined v ks).now.roles → o.known ≡ list → n ≡ length ks
    → cut n (at_rest o) ≡ log_view list o.count o.faults
log_again v ks o list n log same is count =
    let rest : drop n o.roles ≡ Log ∷ [] = ap (drop n) (same ∙ joined_roles v ks) ∙ (drop_front (roles_of ks) v.now.roles n (count ∙ sym (length-roles_of ks)) ∙ log) in
    λ i. at_rest (record { roles = rest i; known = is i; count = o.count; faults = o.faults })

pub known_by_all : (v : View) (ks : List Known) (o : Stamp) (list : List Item) (n : ℕ) → Shown (joined v ks) → o.roles ≡ (joined v ks).now.roles → o.known ≡ list → o.count ≡ (joined v ks).now.count → o.faults ≡ (joined v ks).now.faults
    → n ≡ length ks → AllKnow list ks (map (token o) (take n o.roles))
known_by_all v ks o list n shown same is counts faults count =
    let front : take n o.roles ≡ roles_of ks = ap (take n) (same ∙ joined_roles v ks) ∙ take_front (roles_of ks) v.now.roles n (count ∙ sym (length-roles_of ks)) in
    let seen : (k : Known) → In k ks → SeesMore k (known k.role list o.count o.faults) = λ k i. record {
      count = (let r = joined_seen v ks k i in let a = r.0 in omega arith);
      faults = (let r = joined_seen v ks k i in let a = r.1 in omega arith);
      disk = λ d. (let e = disk_kept v ks k i d shown in (counts ∙ e.0, faults ∙ e.1));
    } in
    let out : List Item → List Role → List Known = λ l ns. map (λ m. known m l o.count o.faults) ns in
    subst (λ (l : List Known). AllKnow list ks l) (ap (λ (ns : List Role). out list ns) (sym front) ∙ ap (λ (l : List Item). out l (take n o.roles)) (sym is)) (all_know list o.count o.faults ks seen)

pub enough : (v : View) (ks : List Known) (o : Stamp) (n : ℕ) → o.roles ≡ (joined v ks).now.roles → n ≡ length ks → n ≤ length o.roles
enough v ks o n same count = let l : length o.roles ≡ length (roles_of ks) + length v.now.roles = ap length (same ∙ joined_roles v ks) ∙ length-append (roles_of ks) v.now.roles in let m = length-roles_of ks in omega arith

-- The seat me0 is the log's. It took in the tokens, and then a step left it with the stamp o.
module _ (ks : List Known) (me0 me1 me2 : Me Listed View) (o : Stamp) (list : List Item) (n : ℕ) (log : me0 ≡ (log_view me0.0.now.known me0.0.now.count me0.0.now.faults, []))
    (took : me1 ≡ (joined me0.0 ks, me0.1)) (stepped : me2 ≡ (at_rest o, me1.1)) (same : o.roles ≡ me1.0.now.roles) (is : o.known ≡ list) (counts : o.count ≡ me1.0.now.count) (faults : o.faults ≡ me1.0.now.faults)
    (count : n ≡ length ks) where
  roles_joined : o.roles ≡ (joined me0.0 ks).now.roles
  roles_joined = same ∙ ap (λ (m : Me Listed View). m.0.now.roles) took

  pub req_roles : (n ≤ length me2.0.now.roles) × (me2.0 ≡ at_rest me2.0.now)
  req_roles = subst (λ (m : Me Listed View). (n ≤ length m.0.now.roles) × (m.0 ≡ at_rest m.0.now)) (sym stepped) (enough me0.0 ks o n roles_joined count, refl)

  pub req_legal : (catalog : Catalog) (parts clients limit : ℕ) (db : Database) → IsLegal catalog parts clients limit db list → IsLegal catalog parts clients limit db me2.0.now.known
  req_legal catalog parts clients limit db r = subst (λ (m : Me Listed View). IsLegal catalog parts clients limit db m.0.now.known) (sym stepped) (subst (IsLegal catalog parts clients limit db) (sym is) r)

  pub log_kept : (me3 : Me Listed View) → me3 ≡ (cut n me2.0, me2.1) → me3 ≡ (log_view list me3.0.now.count me3.0.now.faults, [])
  log_kept me3 e =
      let cuts : Me Listed View → Me Listed View = λ m. (cut n m.0, m.1) in
      let empty : List (ℕ × Listed) → Me Listed View = λ l. (log_view list o.count o.faults, l) in
      let pair : View → Me Listed View = λ v. (v, me1.1) in
      let whole : me3 ≡ (log_view list o.count o.faults, []) = e ∙ (ap cuts stepped ∙ (ap pair (log_again me0.0 ks o list n (ap (λ (m : Me Listed View). m.0.now.roles) log) roles_joined is count)
      ∙ ap empty (ap (λ (m : Me Listed View). m.1) took ∙ ap (λ (m : Me Listed View). m.1) log))) in
      subst (λ (m : Me Listed View). m ≡ (log_view list m.0.now.count m.0.now.faults, [])) (sym whole) refl

  pub now_known : Shown me1.0 → AllKnow list ks (map (token me2.0.now) (take n me2.0.now.roles))
  now_known shown = subst (λ (m : Me Listed View). AllKnow list ks (map (token m.0.now) (take n m.0.now.roles))) (sym stepped)
      (known_by_all me0.0 ks o list n (subst (λ (m : Me Listed View). Shown m.0) took shown) roles_joined is (counts ∙ ap (λ (m : Me Listed View). m.0.now.count) took) (faults ∙ ap (λ (m : Me Listed View). m.0.now.faults) took) count)

-- the seat me1 is the log's, which took in the tokens
module _ (ks : List Known) (me0 me1 : Me Listed View) (log : me0 ≡ (log_view me0.0.now.known me0.0.now.count me0.0.now.faults, [])) (took : me1 ≡ (joined me0.0 ks, me0.1)) where
  pub took_roles : me1.0.now.roles ≡ roles_of ks ++ Log ∷ []
  took_roles = ap (λ (m : Me Listed View). m.0.now.roles) took ∙ (joined_roles me0.0 ks ∙ ap (λ (m : Me Listed View). roles_of ks ++ m.0.now.roles) log)

  pub took_list : me1.0.now.known ≡ me0.0.now.known
  took_list = ap (λ (m : Me Listed View). m.0.now.known) took ∙ joined_list me0.0 ks

  pub took_log : In Log me1.0.now.roles
  took_log = subst (In Log) (sym took_roles) (in_right Log (roles_of ks) (Log ∷ []) (inl refl))

  pub took_none : me1.1 ≡ []
  took_none = ap (λ (m : Me Listed View). m.1) took ∙ ap (λ (m : Me Listed View). m.1) log

  -- the list with the entry, as the step left it
  pub took_added : (e : Listed) → me1.0.now.known ++ item e me1.0.now.roles ∷ [] ≡ added me0.0.now.known (roles_of ks) e
  took_added e = ap (λ (l : List Item). l ++ item e me1.0.now.roles ∷ []) took_list ∙ ap (λ (ns : List Role). me0.0.now.known ++ item e ns ∷ []) took_roles

  pub took_continue : (catalog : Catalog) (parts : ℕ) → Recorded catalog parts me0.0.now.known → Shown me1.0 → AllContinue catalog parts me0.0.now.known ks
  took_continue catalog parts r s = all_continue catalog parts me0.0 ks r (subst (λ (m : Me Listed View). Shown m.0) took s)

pub looks_at : (first slots id : ℕ) (me : Me Listed View) → In Log me.0.now.roles → me.1 ≡ [] → Allows (IsKept first) slots id me 0 (λ n. n) (Looked (step slots 0 0 0 none) me)
looks_at first slots id me log empty =
    let full : List (ℕ × Listed) → Me Listed View = λ l. (me.0, l) in
    subst (λ (m : Me Listed View). Allows (IsKept first) slots id m 0 (λ n. n) (Looked (step slots 0 0 0 none) m)) (ap full (sym empty)) (looks first slots id me.0 log)

pub adds_at : (first slots id old : ℕ) (me : Me Listed View) (e : Listed) → In Log me.0.now.roles → me.1 ≡ [] → old ≡ first + length me.0.now.known
    → Allows (IsKept first) slots id me 0 (λ n. either (eqb n old) (old + 1) n) (Added (step slots 0 old (old + 1) (some e)) me)
adds_at first slots id old me e log empty place =
    let full : List (ℕ × Listed) → Me Listed View = λ l. (me.0, l) in
    subst (λ (m : Me Listed View). Allows (IsKept first) slots id m 0 (λ n. either (eqb n old) (old + 1) n) (Added (step slots 0 old (old + 1) (some e)) m)) (ap full (sym empty)) (adds first slots id old me.0 e log place)

pub sees_count_at : (first slots id : ℕ) (me : Me Listed View) → me.1 ≡ [] → Allows (IsKept first) slots id me 1 (λ n. n) (SawCount (step slots 1 0 0 none) me)
sees_count_at first slots id me empty = at_seat (λ m. Allows (IsKept first) slots id m 1 (λ n. n) (SawCount (step slots 1 0 0 none) m)) me empty (sees_count first slots id me.0)

pub sees_faults_at : (first slots id : ℕ) (me : Me Listed View) → me.1 ≡ [] → Allows (IsKept first) slots id me 2 (λ n. n) (SawFaults (step slots 2 0 0 none) me)
sees_faults_at first slots id me empty = at_seat (λ m. Allows (IsKept first) slots id m 2 (λ n. n) (SawFaults (step slots 2 0 0 none) m)) me empty (sees_faults first slots id me.0)

pub posts_count_at : (first slots id : ℕ) (me : Me Listed View) (new : ℕ) → me.1 ≡ [] → In Disk me.0.now.roles → me.0.now.count ≤ new → Allows (IsKept first) slots id me 1 (λ _. new) (λ _. PostedCount (step slots 1 new 0 none) me new)
posts_count_at first slots id me new empty disk more = at_seat (λ m. Allows (IsKept first) slots id m 1 (λ _. new) (λ _. PostedCount (step slots 1 new 0 none) m new)) me empty (posts_count first slots id me.0 new disk more)

pub posts_faults_at : (first slots id : ℕ) (me : Me Listed View) (new : ℕ) → me.1 ≡ [] → In Disk me.0.now.roles → (me.0.now.faults ≡ 0) ⊎ (me.0.now.faults ≡ new) → Allows (IsKept first) slots id me 2 (λ _. new) (λ _. PostedFaults (step slots 2 new 0 none) me new)
posts_faults_at first slots id me new empty disk more = at_seat (λ m. Allows (IsKept first) slots id m 2 (λ _. new) (λ _. PostedFaults (step slots 2 new 0 none) m new)) me empty (posts_faults first slots id me.0 new disk more)

-- two tokens, one after the other
pub two_taken : (me0 me1 me2 : Me Listed View) (a b : Known) → me1 ≡ (joined me0.0 (b ∷ []), me0.1) → me2 ≡ (joined me1.0 (a ∷ []), me1.1) → me2 ≡ (joined me0.0 (a ∷ b ∷ []), me0.1)
two_taken me0 me1 me2 a b one two = let f : Me Listed View → Me Listed View = λ m. (joined m.0 (a ∷ []), m.1) in two ∙ ap f one

-- what a token knows that was cut off
pub one_given : (o : Stamp) (a : Role) (rest : List Role) (x : Known) → o.roles ≡ a ∷ rest → x ≡ token o (head_or_reader o.roles) → map (token o) (take 1 o.roles) ≡ x ∷ []
one_given o a rest x roles ex =
    let m : List Role → List Known = λ ns. map (token o) (take 1 ns) in
    let f : List Role → Known = λ ns. token o (head_or_reader ns) in
    ap m roles ∙ ap (λ (k : Known). k ∷ []) (sym (ex ∙ ap f roles))

-- first one token, then others
joined-append : (v : View) (ks ls : List Known) → joined (joined v ls) ks ≡ joined v (ks ++ ls)
joined-append v [] ls = refl
joined-append v (k ∷ ks) ls = ap (λ (w : View). together w (seat_view k)) (joined-append v ks ls)

pub all_taken : (me0 me1 me2 : Me Listed View) (k : Known) (ks : List Known) → me1 ≡ (joined me0.0 (k ∷ []), me0.1) → me2 ≡ (joined me1.0 ks, me1.1) → me2 ≡ (joined me0.0 (ks ++ k ∷ []), me0.1)
all_taken me0 me1 me2 k ks one two =
    let f : Me Listed View → Me Listed View = λ m. (joined m.0 ks, m.1) in
    let g : View → Me Listed View = λ v. (v, me0.1) in
    two ∙ (ap f one ∙ ap g (joined-append me0.0 ks (k ∷ [])))

-- what two tokens know that were cut off one after the other
pub two_given : (o : Stamp) (a b : Role) (rest : List Role) (me3 me4 : Me Listed View) (x y : Known) → me3.0 ≡ at_rest o → o.roles ≡ a ∷ b ∷ rest → me4.0 ≡ cut 1 me3.0 → x ≡ token me3.0.now (head_or_reader me3.0.now.roles) → y ≡ token me4.0.now (head_or_reader me4.0.now.roles)
    → map (token o) (take 2 o.roles) ≡ x ∷ y ∷ []
two_given o a b rest me3 me4 x y is roles cuts ex ey =
    let t : View → Known = λ v. token v.now (head_or_reader v.now.roles) in
    let f : List Role → Known = λ ns. token o (head_or_reader ns) in
    let h : List Role → Known = λ ns. token o (head_or_reader (drop 1 ns)) in
    let c : View → View = λ v. cut 1 v in
    let x' : x ≡ token o a = ex ∙ (ap t is ∙ ap f roles) in
    let y' : y ≡ token o b = ey ∙ (ap t (cuts ∙ ap c is) ∙ ap h roles) in
    let m : List Role → List Known = λ ns. map (token o) (take 2 ns) in
    let pair : Known → Known → List Known = λ p q. p ∷ q ∷ [] in
    ap m roles ∙ (ap (λ p. pair p (token o b)) (sym x') ∙ ap (pair x) (sym y'))

-- what any token had seen is not above what the disk's note has
pub seen_below : (v : View) (ks : List Known) (d k : Known) → In d ks → d.role ≡ Disk → In k ks → Shown (joined v ks) → (k.count ≤ d.count) × ((k.faults ≡ 0) ⊎ (k.faults ≡ d.faults))
seen_below v ks d k i is j s =
    let disk = (s.3 (stamp_of d) (in_olds v ks d i)).posted (inl (sym is)) in
    let own = s.3 (stamp_of k) (in_olds v ks k j) in
    let below = own.counted in
    let same : d.count ≡ s.0 = disk.0 in
    ((omega arith), ⊎_elim (λ z. inl z) (λ (z : k.faults ≡ s.1). inr (z ∙ sym disk.1)) own.faulted)
