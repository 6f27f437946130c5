-- Partitions, one by one: the shards of a list with the marks of another.
use Rattle.std.proofs.Common.{◌≡◌, ◌≤◌, ◌<◌, ℕ, zero, suc, ◌||◌, Bool, true, false, List, [], ◌∷◌, ◌++◌, ◌==◌, inl, inr, map, length, get_or, refl, sym, ap, subst, ◌∙◌, arith, append_assoc, length-append}
use Rattle.std.proofs.Math.Seq.{get_or-append_seam}
use Rattle.std.specs.List.{AllByRecursion, AllPairs}
use Rattle.atomic_table.specs.Seated.{TableId}
use Rattle.ss_lemmas.proofs.Ends.{ends_alike}
use Rattle.ss_lemmas.proofs.Numbers.{eqb_apart, eqb_is}
use Rattle.ss_model.specs.declared.catalog.Catalog.{Catalog}
use Rattle.ss_model.specs.Database.{Database}
use Rattle.ss_model.specs.Partitions.{part}
use Rattle.ss_commitlog.specs.declared.role.Role.TheVariants.{Part}
use Rattle.ss_commitlog.specs.Right.{AgreesWith, known_database}
use Rattle.ss_commitlog.specs.Tokens.{Known, roles_of}
use Rattle.ss_party.specs.Turns.{TurnValue, turn_of}
use Rattle.ss_shard.specs.Parts.{is_among, HoldsParts}
use Rattle.ss_shard.specs.ShardValue.{ShardValue}
use Rattle.ss_shard.specs.Unions.{numbers_of, AreFresh, HaveTheirOwn, HoldTheirOwn}
use Rattle.ss_hand.specs.Partitions.{IsPartition}
use Rattle.ss_hand.specs.Apart.{ArePartitions}
use Rattle.ss_hand.proofs.Carrying.{holds_same_parts}

-- the partition of one alone
own_is : (p q : ℕ) → is_among (p ∷ []) q ≡ true → p ≡ q
own_is p q e = eqb_is p q (by (p == q) e)
  where
    by : (b : Bool) → (b || false) ≡ true → b ≡ true
    by true h = refl
    by false h = h

-- ---- partitions in rising order

not_before : (held : List ℕ) (p : ℕ) (ps : List ℕ) → AllPairs (λ (x y : ℕ). x < y) (held ++ p ∷ ps) → is_among held p ≡ false
not_before [] p ps up = refl
not_before (q ∷ held) p ps up =
    let long = length-append held (p ∷ ps) in
    let seam : get_or (held ++ p ∷ ps) (length held) 0 ≡ p = get_or-append_seam held p ps 0 in
    let less : q < get_or (held ++ p ∷ ps) (length held) 0 = up zero (suc (length held)) 0 (omega arith) (omega arith) in
    ap (λ b. b || is_among held p) (eqb_apart q p (λ e. absurd (omega arith)))
    ∙ not_before held p ps (λ i j d l w. up (suc i) (suc j) d (omega arith) (omega arith))

pub fresh : (held ps : List ℕ) → AllPairs (λ (x y : ℕ). x < y) (held ++ ps) → AreFresh held ps
fresh held [] up = tt
fresh held (p ∷ ps) up = (
  not_before held p ps up,
  fresh (held ++ p ∷ []) ps (subst (AllPairs (λ (x y : ℕ). x < y)) (sym (append_assoc held (p ∷ []) ps)) up),
)

-- ---- shards with their marks

-- where one runs there are some
some_run : (p n : ℕ) → p < n → 1 ≤ n
some_run p n runs = omega arith

module _ (catalog : Catalog) (n : ℕ) (db : Database) where
  pub as_many : (ss : List ShardValue) (ks : List Known) → ArePartitions catalog n db ss ks → length ss ≡ length ks
  as_many [] [] all = refl
  as_many [] (k ∷ ks) all = absurd all
  as_many (s ∷ ss) [] all = absurd all
  as_many (s ∷ ss) (k ∷ ks) all = ap suc (as_many ss ks all.1)

  pub one_more : (ss : List ShardValue) (ks : List Known) (s : ShardValue) (k : Known) → ArePartitions catalog n db ss ks → IsPartition catalog n db s k → ArePartitions catalog n db (ss ++ s ∷ []) (ks ++ k ∷ [])
  one_more [] [] s k all one = (one, tt)
  one_more [] (j ∷ ks) s k all one = absurd all
  one_more (x ∷ ss) [] s k all one = absurd all
  one_more (x ∷ ss) (j ∷ ks) s k all one = (all.0, one_more ss ks s k all.1 one)

  pub one_less : (ss : List ShardValue) (ks : List Known) (s : ShardValue) (k : Known) → ArePartitions catalog n db (ss ++ s ∷ []) (ks ++ k ∷ []) → ArePartitions catalog n db ss ks × IsPartition catalog n db s k
  one_less [] [] s k all = (tt, all.0)
  one_less [] (j ∷ ks) s k all =
      let many = as_many [] (ks ++ k ∷ []) all.1 in
      let long = length-append ks (k ∷ []) in
      absurd (omega arith)
  one_less (x ∷ ss) [] s k all =
      let many = as_many (ss ++ s ∷ []) [] all.1 in
      let long = length-append ss (s ∷ []) in
      absurd (omega arith)
  one_less (x ∷ ss) (j ∷ ks) s k all = let r = one_less ss ks s k all.1 in ((all.0, r.0), r.1)

  pub roles_are : (ss : List ShardValue) (ks : List Known) → ArePartitions catalog n db ss ks → roles_of ks ≡ map Part (numbers_of ss)
  roles_are [] [] all = refl
  roles_are [] (k ∷ ks) all = absurd all
  roles_are (s ∷ ss) [] all = absurd all
  roles_are (s ∷ ss) (k ∷ ks) all = λ i. (all.0).own i ∷ roles_are ss ks all.1 i

  pub all_run : (ss : List ShardValue) (ks : List Known) → ArePartitions catalog n db ss ks → AllByRecursion (λ p. p < n) (numbers_of ss)
  all_run [] [] all = tt
  all_run [] (k ∷ ks) all = absurd all
  all_run (s ∷ ss) [] all = absurd all
  all_run (s ∷ ss) (k ∷ ks) all = ((all.0).runs, all_run ss ks all.1)

  pub have_own : (ss : List ShardValue) (ks : List Known) → ArePartitions catalog n db ss ks → HaveTheirOwn catalog n ss
  have_own [] [] all = tt
  have_own [] (k ∷ ks) all = absurd all
  have_own (s ∷ ss) [] all = absurd all
  have_own (s ∷ ss) (k ∷ ks) all = ((all.0).parts, have_own ss ks all.1)

  -- of one partition: what it holds by its mark's list it holds of a database that agrees with the mark, and back
  to_one : (s : ShardValue) (k : Known) (d : Database) → s.number < n → part catalog n s.number d ≡ part catalog n s.number (known_database catalog db k)
      → HoldsParts catalog n (s.number ∷ []) s (known_database catalog db k) → HoldsParts catalog n (s.number ∷ []) s d
  to_one s k d runs same =
      holds_same_parts catalog n (some_run s.number n runs) (known_database catalog db k) d (s.number ∷ []) (omega arith)
      (λ p among. subst (λ (q : ℕ). part catalog n q (known_database catalog db k) ≡ part catalog n q d) (own_is s.number p among) (sym same)) s

  from_one : (s : ShardValue) (k : Known) (d : Database) → s.number < n → part catalog n s.number d ≡ part catalog n s.number (known_database catalog db k)
      → HoldsParts catalog n (s.number ∷ []) s d → HoldsParts catalog n (s.number ∷ []) s (known_database catalog db k)
  from_one s k d runs same =
      holds_same_parts catalog n (some_run s.number n runs) d (known_database catalog db k) (s.number ∷ []) (omega arith)
      (λ p among. subst (λ (q : ℕ). part catalog n q d ≡ part catalog n q (known_database catalog db k)) (own_is s.number p among) same) s

  -- the shards hold their own of each database that agrees with their marks
  pub hold_own : (d : Database) (ss : List ShardValue) (ks : List Known) → ArePartitions catalog n db ss ks → AgreesWith catalog n db ks d → HoldTheirOwn catalog n ss d
  hold_own d [] [] all agrees = tt
  hold_own d [] (k ∷ ks) all agrees = absurd all
  hold_own d (s ∷ ss) [] all agrees = absurd all
  hold_own d (s ∷ ss) (k ∷ ks) all agrees = (
    to_one s k d (all.0).runs (agrees s.number k (inl refl) (all.0).own) (all.0).holds,
    hold_own d ss ks all.1 (λ p l i is. agrees p l (inr i) is),
  )

  -- and shards that hold their own of such a database are partitions
  pub partitions_of : (d : Database) (ss : List ShardValue) (ks : List Known) → AllByRecursion (λ p. p < n) (numbers_of ss) → roles_of ks ≡ map Part (numbers_of ss)
      → HaveTheirOwn catalog n ss → HoldTheirOwn catalog n ss d → AgreesWith catalog n db ks d → ArePartitions catalog n db ss ks
  partitions_of d [] [] run roles have hold agrees = tt
  partitions_of d [] (k ∷ ks) run roles have hold agrees = absurd (cc)
  partitions_of d (s ∷ ss) [] run roles have hold agrees = absurd (cc)
  partitions_of d (s ∷ ss) (k ∷ ks) run roles have hold agrees =
      let own : k.role ≡ Part s.number = cc in
      let rest : roles_of ks ≡ map Part (numbers_of ss) = cc in (
        record {
          runs = run.0;
          own = own;
          parts = have.0;
          holds = from_one s k d run.0 (agrees s.number k (inl refl) own) hold.0;
        },
        partitions_of d ss ks run.1 rest have.1 hold.1 (λ p l i is. agrees p l (inr i) is),
      )

  -- the last one of several is taken off
  pub popped : (first : ShardValue) (olds others : List ShardValue) (s : ShardValue) (marks0 marks : List Known) (k : Known) → olds ≡ others ++ s ∷ [] → marks0 ≡ marks ++ k ∷ []
      → ArePartitions catalog n db (first ∷ olds) marks0 → ArePartitions catalog n db (first ∷ others) marks × IsPartition catalog n db s k
  popped first olds others s marks0 marks k e f all =
      one_less (first ∷ others) marks s k (subst (λ (ks : List Known). ArePartitions catalog n db (first ∷ (others ++ s ∷ [])) ks) f (subst (λ (ss : List ShardValue). ArePartitions catalog n db (first ∷ ss) marks0) e all))

  pub last_one : (first : ShardValue) (others : List ShardValue) (marks0 marks : List Known) (k : Known) → length others ≡ 0 → marks0 ≡ marks ++ k ∷ [] → ArePartitions catalog n db (first ∷ others) marks0
      → IsPartition catalog n db first k
  last_one first [] marks0 marks k none e all = (one_less [] marks first k (subst (λ (ks : List Known). ArePartitions catalog n db (first ∷ []) ks) e all)).1
  last_one first (x ∷ xs) marks0 marks k none e all = absurd (omega arith)

-- ---- turns

pub turns_more : (bays : TableId) (ss : List ShardValue) (s : ShardValue) → map (turn_of bays) (numbers_of (ss ++ s ∷ [])) ≡ map (turn_of bays) (numbers_of ss) ++ turn_of bays s.number ∷ []
turns_more bays [] s = refl
turns_more bays (x ∷ ss) s = ap (λ (l : List TurnValue). turn_of bays x.number ∷ l) (turns_more bays ss s)

pub popped_turn : (bays : TableId) (first : ShardValue) (olds others : List ShardValue) (s : ShardValue) (turns0 turns : List TurnValue) (t : TurnValue) → olds ≡ others ++ s ∷ [] → turns0 ≡ turns ++ t ∷ []
    → turns0 ≡ map (turn_of bays) (numbers_of (first ∷ olds)) → (turns ≡ map (turn_of bays) (numbers_of (first ∷ others))) × (t ≡ turn_of bays s.number)
popped_turn bays first olds others s turns0 turns t e f is =
    ends_alike turns (map (turn_of bays) (numbers_of (first ∷ others))) t (turn_of bays s.number)
    (sym f ∙ is ∙ ap (λ (l : List ShardValue). map (turn_of bays) (numbers_of (first ∷ l))) e ∙ turns_more bays (first ∷ others) s)
