-- Where the marks of all partitions know one list, nothing stands behind it.
use Rattle.std.proofs.Common.{◌≡◌, ◌≢◌, ◌==◌, ◌≤◌, ◌<◌, ◌+◌, ◌⊎◌, inl, inr, ℕ, zero, suc, true, false, List, [], ◌∷◌, ◌++◌, map, refl, sym, ap, ◌∙◌, subst, arith, append-nil, true≢false}
use Rattle.std.proofs.lemmas.Bool.Decides.{eqb_tells}
use Rattle.std.proofs.lemmas.List.{append_cancel_left}
use Rattle.std.specs.List.{range_with_len}
use Rattle.ss_model.specs.declared.catalog.Catalog.{Catalog}
use Rattle.ss_model_laws.proofs.CallerLemmas.{touched_run}
use Rattle.ss_commitlog.specs.declared.role.Role.{Role}
use Rattle.ss_commitlog.specs.declared.role.Role.TheVariants.{Part}
use Rattle.ss_commitlog.specs.declared.rule.Item.{Item}
use Rattle.ss_commitlog.specs.Meaning.{concerns}
use Rattle.ss_commitlog.specs.Roles.{In}
use Rattle.ss_commitlog.specs.Tokens.{Known, AllContinue}
use Rattle.ss_commitlog.proofs.CallerLemmas.{in_right, token_of}
use Rattle.ss_receipts.specs.Checkpointing.{AllAt, AreOfAllParts, EachTouches}

part_there : (a m p : ℕ) → a ≤ p → p < a + m → In (Part p) (map Part (range_with_len a m))
part_there a zero p from low = absurd (omega arith)
part_there a (suc m) p from low = by (eqb_tells p a) (λ on. part_there (a + 1) m p on (omega arith))
  where
    by : ((p == a ≡ true) × (p ≡ a)) ⊎ ((p == a ≡ false) × (p ≢ a)) → (a + 1 ≤ p → In (Part p) (map Part (range_with_len (a + 1) m))) → In (Part p) (map Part (range_with_len a (suc m)))
    by (inl same) later = inl (ap Part same.1)
    by (inr other) later = let apart : p ≢ a = other.1 in inr (later (omega arith))

module _ (catalog : Catalog) (n : ℕ) (some : 1 ≤ n) where
  -- the mark of each partition
  mark_of : (p : ℕ) → p < n → (ks : List Known) → AreOfAllParts n ks → (k : Known) × In k ks × (k.role ≡ Part p)
  mark_of p low ks roles = token_of (Part p) ks (subst (In (Part p)) (sym roles) (part_there 0 n p (omega arith) (omega arith)))

  -- an entry behind what they know would touch some partition, whose mark is among them
  pub none_behind : (list old : List Item) (ks : List Known) → AreOfAllParts n ks → AllAt old ks → EachTouches catalog n list → AllContinue catalog n list ks → list ≡ old
  none_behind list old ks roles know touch on =
      let (k, there, is) = mark_of 0 some ks roles in
      let b = on k there in
      let whole : list ≡ old ++ b.rest = b.is ∙ ap (λ (l : List Item). l ++ b.rest) (know k there) in
      whole ∙ (ap (λ (l : List Item). old ++ l) (none b.rest whole) ∙ append-nil old)
    where
      none : (rest : List Item) → list ≡ old ++ rest → rest ≡ []
      none [] whole = refl
      none (i ∷ is) whole =
          let (p, touched) = touch i (subst (In i) (sym whole) (in_right i old (i ∷ is) (inl refl))) in
          let (k, there, role) = mark_of p (touched_run catalog n some i.listed.entry p touched) ks roles in
          let b = on k there in
          let mine : list ≡ old ++ b.rest = b.is ∙ ap (λ (l : List Item). l ++ b.rest) (know k there) in
          let same : b.rest ≡ i ∷ is = append_cancel_left old b.rest (i ∷ is) (sym mine ∙ whole) in
          let quiet : concerns catalog n i.listed.entry (Part p) ≡ false = subst (λ (r : Role). concerns catalog n i.listed.entry r ≡ false) role (b.quiet i (subst (In i) (sym same) (inl refl))) in
          absurd (true≢false (sym touched ∙ quiet))
