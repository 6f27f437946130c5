-- What goes with the counts of the procedures, and the least count of those that take a stream.
use Rattle.std.proofs.Common.{◌≡◌, ◌∙◌, ⊎_elim, ℕ, zero, suc, ◌+◌, ◌-◌, ◌<◌, ◌≤◌, ◌==◌, ◌&&◌, ◌^◌, min, nat_le, List, [], ◌∷◌, ◌++◌, length, get_or, take, slice_get, Bool, true, false, cond, refl, sym, ap, subst, arith}
use Rattle.std.specs.List.{fold, list_all, range_with_len}
use Rattle.std.proofs.lemmas.Bool.{leb-true, le-leb, and_parts, and_from, cases_lt}
use Rattle.std.proofs.lemmas.List.{get_or-take, length-take-le, take_more}
use Rattle.std.proofs.lemmas.List.Sums.{fold-append}
use Rattle.ss_lemmas.proofs.Bools.{implied}
use Rattle.ss_lemmas.proofs.Numbers.{eqb_is}
use Rattle.ss_model.specs.declared.catalog.Catalog.{Catalog}
use Rattle.ss_value.specs.Rows.{Rows}
use Rattle.ss_model.specs.Database.{is_call}
use Rattle.ss_model.specs.Orders.{procedure_emits, procedure_has, procedure_takes}
use Rattle.ss_standing.specs.ImageForm.{implies, takes_last, least_of, goes_with, may_have_taken, no_batches}
use Rattle.ss_standing.proofs.Chains.{chained_at, at_chained}
use Rattle.ss_standing.proofs.Places.{range_parts, fold_idle, fold_alike, behind_last}
use Rattle.ss_standing.proofs.ImageParts.{AreCountsOf, equal_is}

pub implying : (a b : Bool) → (a ≡ true → b ≡ true) → implies a b ≡ true
implying true b so = so refl
implying false b so = refl

pub in_range : (p : ℕ → Bool) (n from : ℕ) → list_all p (range_with_len from n) ≡ true → (i : ℕ) → from ≤ i → i < from + n → p i ≡ true
in_range p zero from all i above below = absurd (omega (arith, above, below))
in_range p (suc n) from all i above below =
    let parts = and_parts (p from) (list_all p (range_with_len (from + 1) n)) all in
    ⊎_elim
    (λ (later : from < i). in_range p n (from + 1) parts.1 i (omega arith) (omega (arith, below)))
    (λ (le : i ≤ from). (let is : from ≡ i = omega (arith, above, le) in subst (λ j. p j ≡ true) is parts.0))
    (cases_lt from i)

pub range_all : (p : ℕ → Bool) (n from : ℕ) → ((i : ℕ) → from ≤ i → i < from + n → p i ≡ true) → list_all p (range_with_len from n) ≡ true
range_all p zero from each = refl
range_all p (suc n) from each =
    and_from (p from) (list_all p (range_with_len (from + 1) n)) (each from (omega arith) (omega arith)) (range_all p n (from + 1) (λ i above below. each i (omega (arith, above)) (omega (arith, below))))

abbrev pub Streams : Type 0
Streams = List (ℕ × (ℕ × List Rows))

module _ (catalog : Catalog) where
  abbrev pub procedures : ℕ
  procedures = length catalog.procedures

  -- with the last that takes a stream the least count is that of all
  pub least_so_far : (s had : ℕ) (counts : List ℕ) (q : ℕ) → length counts ≡ procedures → q < procedures → takes_last catalog q s ≡ true
      → least_of catalog s had (take q counts ++ get_or counts q 0 ∷ []) ≡ least_of catalog s had counts
  least_so_far s had counts q long there last =
      let front : take q counts ++ get_or counts q 0 ∷ [] ≡ take (q + 1) counts = sym (take_more counts q 0 (omega (arith, long, there))) in
      let size : length (take (q + 1) counts) ≡ q + 1 = length-take-le (q + 1) counts (omega (arith, long, there)) in
      let step : List ℕ → ℕ → ℕ → ℕ = λ cs least p. cond (procedure_takes catalog p s) (min least (get_or cs p 0)) least in
      let rest : ℕ = procedures - (q + 1) in
      let parts : procedures ≡ (q + 1) + rest = omega (arith, there) in
      let split : range_with_len 0 (length counts) ≡ range_with_len 0 (q + 1) ++ range_with_len (0 + (q + 1)) rest = ap (range_with_len 0) (long ∙ parts) ∙ range_parts (q + 1) rest 0 in
      let idle : (b : ℕ) → fold (step counts) b (range_with_len (0 + (q + 1)) rest) ≡ b = λ b. fold_idle (step counts) b rest (0 + (q + 1))
      (λ p above below c. ap (λ (t : Bool). cond t (min c (get_or counts p 0)) c) (behind_last (λ p. procedure_takes catalog p s) procedures q there last p (omega (arith, above)) (omega (arith, below, parts)))) in
      ap (least_of catalog s had) front
      ∙ ap (λ n. fold (step (take (q + 1) counts)) had (range_with_len 0 n)) size
      ∙ fold_alike (step (take (q + 1) counts)) (step counts) had (q + 1) 0
      (λ p above below c. ap (λ n. cond (procedure_takes catalog p s) (min c n) c) (get_or-take (q + 1) counts p 0 (omega (arith, below))))
      ∙ sym (ap (fold (step counts) had) split ∙ fold-append (step counts) had (range_with_len 0 (q + 1)) (range_with_len (0 + (q + 1)) rest) ∙ idle (fold (step counts) had (range_with_len 0 (q + 1))))

  -- what a stream and a count have to say of each other
  pub record GoTogether (streams : Streams) (counts : List ℕ) (q s : ℕ) : Type 0 where
    pub emits : procedure_emits catalog q s ≡ true → (get_or streams s no_batches).0 ≡ get_or counts q 0
    pub takes : procedure_takes catalog q s ≡ true → get_or counts q 0 ≤ (get_or streams s no_batches).0
    pub last : takes_last catalog q s ≡ true → (get_or streams s no_batches).1.0 ≡ least_of catalog s (get_or streams s no_batches).0 counts

  -- all counts and streams
  pub record AllGoTogether (streams : Streams) (counts : List ℕ) : Type 0 where
    pub many : length counts ≡ procedures
    pub small : (q : ℕ) → q < procedures → get_or counts q 0 < 2 ^ 64
    pub calls : (q : ℕ) → q < procedures → procedure_has (λ p. is_call p.kind) (slice_get catalog.procedures q) ≡ true → get_or counts q 0 ≡ 0
    pub each : (q s : ℕ) → q < procedures → s < length catalog.streams → GoTogether streams counts q s

  module _ (streams : Streams) (counts : List ℕ) where
    abbrev has_taken : List ℕ → ℕ → Type 0
    has_taken before n = (n < 256 ^ 8) × (may_have_taken catalog streams before n ≡ true)

    at : AreCountsOf catalog streams counts → (q : ℕ) → q < procedures → has_taken (take q counts) (get_or counts q 0)
    at are q there = chained_at has_taken [] counts q 0 are.each (omega (arith, are.many, there))

    -- the tests at one procedure, by its number
    abbrev tests_at : ℕ → ℕ → Bool
    tests_at m q =
        implies (procedure_has (λ p. is_call p.kind) (slice_get catalog.procedures m)) (get_or counts q 0 == 0)
        && list_all (λ s. goes_with catalog s (get_or streams s no_batches) m (get_or counts q 0) (take q counts ++ get_or counts q 0 ∷ [])) (range_with_len 0 (length catalog.streams))

    number_of : AreCountsOf catalog streams counts → (q : ℕ) → q < procedures → length (take q counts) ≡ q
    number_of are q there = length-take-le q counts (omega (arith, are.many, there))

    passed : (are : AreCountsOf catalog streams counts) (q : ℕ) → q < procedures → tests_at q q ≡ true
    passed are q there = ap (λ m. tests_at m q) (sym (number_of are q there)) ∙ (at are q there).1

    together : (many : length counts ≡ procedures) (q s : ℕ) → q < procedures
        → goes_with catalog s (get_or streams s no_batches) q (get_or counts q 0) (take q counts ++ get_or counts q 0 ∷ []) ≡ true → GoTogether streams counts q s
    together many q s there passes =
        let stream = get_or streams s no_batches in
        let n = get_or counts q 0 in
        let so_far = take q counts ++ n ∷ [] in
        let outer = and_parts (implies (procedure_emits catalog q s) (stream.0 == n) && implies (procedure_takes catalog q s) (nat_le n stream.0)) (implies (takes_last catalog q s) (stream.1.0 == least_of catalog s stream.0 so_far)) passes in
        let inner = and_parts (implies (procedure_emits catalog q s) (stream.0 == n)) (implies (procedure_takes catalog q s) (nat_le n stream.0)) outer.0 in
        record {
          emits = λ yes. eqb_is stream.0 n (implied (procedure_emits catalog q s) (stream.0 == n) inner.0 yes);
          takes = λ yes. leb-true n stream.0 (implied (procedure_takes catalog q s) (nat_le n stream.0) inner.1 yes);
          last = λ yes. eqb_is stream.1.0 (least_of catalog s stream.0 so_far) (implied (takes_last catalog q s) (stream.1.0 == least_of catalog s stream.0 so_far) outer.1 yes) ∙ least_so_far s stream.0 counts q many there yes;
        }

    pub all_together : AreCountsOf catalog streams counts → AllGoTogether streams counts
    all_together are = record {
      many = are.many;
      small = λ q there. (let small = (at are q there).0 in omega (arith, small));
      calls = λ q there call. eqb_is (get_or counts q 0) 0 (implied (procedure_has (λ p. is_call p.kind) (slice_get catalog.procedures q)) (get_or counts q 0 == 0)
          (and_parts (implies (procedure_has (λ p. is_call p.kind) (slice_get catalog.procedures q)) (get_or counts q 0 == 0))
          (list_all (λ s. goes_with catalog s (get_or streams s no_batches) q (get_or counts q 0) (take q counts ++ get_or counts q 0 ∷ [])) (range_with_len 0 (length catalog.streams))) (passed are q there)).0 call);
      each = λ q s there in_streams. together are.many q s there
          (in_range (λ s. goes_with catalog s (get_or streams s no_batches) q (get_or counts q 0) (take q counts ++ get_or counts q 0 ∷ [])) (length catalog.streams) 0
          (and_parts (implies (procedure_has (λ p. is_call p.kind) (slice_get catalog.procedures q)) (get_or counts q 0 == 0))
          (list_all (λ s. goes_with catalog s (get_or streams s no_batches) q (get_or counts q 0) (take q counts ++ get_or counts q 0 ∷ [])) (range_with_len 0 (length catalog.streams))) (passed are q there)).1 s (omega arith) (omega (arith, in_streams)));
    }

    goes : (many : length counts ≡ procedures) (q s : ℕ) → q < procedures → GoTogether streams counts q s
        → goes_with catalog s (get_or streams s no_batches) q (get_or counts q 0) (take q counts ++ get_or counts q 0 ∷ []) ≡ true
    goes many q s there go =
        let stream = get_or streams s no_batches in
        let n = get_or counts q 0 in
        let so_far = take q counts ++ n ∷ [] in
        and_from (implies (procedure_emits catalog q s) (stream.0 == n) && implies (procedure_takes catalog q s) (nat_le n stream.0)) (implies (takes_last catalog q s) (stream.1.0 == least_of catalog s stream.0 so_far))
        (and_from (implies (procedure_emits catalog q s) (stream.0 == n)) (implies (procedure_takes catalog q s) (nat_le n stream.0))
        (implying (procedure_emits catalog q s) (stream.0 == n) (λ yes. equal_is stream.0 n (go.emits yes)))
        (implying (procedure_takes catalog q s) (nat_le n stream.0) (λ yes. le-leb n stream.0 (go.takes yes))))
        (implying (takes_last catalog q s) (stream.1.0 == least_of catalog s stream.0 so_far) (λ yes. equal_is stream.1.0 (least_of catalog s stream.0 so_far) (go.last yes ∙ sym (least_so_far s stream.0 counts q many there yes))))

    pub counts_together : AllGoTogether streams counts → AreCountsOf catalog streams counts
    counts_together all = record {
      many = all.many;
      each = at_chained has_taken [] counts 0 (λ q lt.
          (let there : q < procedures = omega (arith, lt, all.many) in
          let small = all.small q there in
          let size : q ≡ length (take q counts) = sym (length-take-le q counts (omega (arith, lt))) in (
            omega (arith, small),
            ap (λ m. tests_at m q) (sym size) ∙ and_from (implies (procedure_has (λ p. is_call p.kind) (slice_get catalog.procedures q)) (get_or counts q 0 == 0))
                (list_all (λ s. goes_with catalog s (get_or streams s no_batches) q (get_or counts q 0) (take q counts ++ get_or counts q 0 ∷ [])) (range_with_len 0 (length catalog.streams)))
                (implying (procedure_has (λ p. is_call p.kind) (slice_get catalog.procedures q)) (get_or counts q 0 == 0) (λ call. equal_is (get_or counts q 0) 0 (all.calls q there call)))
                (range_all (λ s. goes_with catalog s (get_or streams s no_batches) q (get_or counts q 0) (take q counts ++ get_or counts q 0 ∷ [])) (length catalog.streams) 0
                (λ s above below. goes all.many q s there (all.each q s there (omega (arith, below))))),
          )));
    }
