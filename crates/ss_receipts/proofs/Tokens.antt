-- A token that goes on twice.
use Rattle.std.proofs.Common.{◌≡◌, ◌∙◌, ⊎_elim, inl, inr, ℕ, List, [], ◌∷◌, ◌++◌, false, refl, sym, ap, subst, arith, append_assoc}
use Rattle.ss_model.specs.declared.catalog.Catalog.{Catalog}
use Rattle.ss_commitlog.specs.declared.role.Role.{Role}
use Rattle.ss_commitlog.specs.declared.rule.Item.{Item}
use Rattle.ss_commitlog.specs.Meaning.{concerns}
use Rattle.ss_commitlog.specs.Roles.{In}
use Rattle.ss_commitlog.specs.Tokens.{Known, Follows, Knows, AllKnow, Continues, AllContinue}
use Rattle.ss_commitlog.proofs.CallerLemmas.{in_either}

pub follows_twice : (catalog : Catalog) (parts limit : ℕ) (a b c : Known) → Follows catalog parts limit a b → Follows catalog parts limit b c → Follows catalog parts limit a c
follows_twice catalog parts limit a b c f g = record {
  role = g.role ∙ f.role;
  sees = record {
    count = omega (arith, f.sees.count, g.sees.count);
    faults = omega (arith, f.sees.faults, g.sees.faults);
    disk = λ d. let m = f.sees.disk d in let n = g.sees.disk (f.role ∙ d) in (n.0 ∙ m.0, n.1 ∙ m.1);
  };
  goes_on = record {
    rest = f.goes_on.rest ++ g.goes_on.rest;
    is = g.goes_on.is ∙ (ap (λ (l : List Item). l ++ g.goes_on.rest) f.goes_on.is ∙ append_assoc a.list f.goes_on.rest g.goes_on.rest);
    quiet = λ i j. ⊎_elim (λ (x : In i f.goes_on.rest). f.goes_on.quiet i x)
        (λ (y : In i g.goes_on.rest). subst (λ (r : Role). concerns catalog parts i.listed.entry r ≡ false) f.role (g.goes_on.quiet i y)) (in_either i f.goes_on.rest g.goes_on.rest j);
  };
  within = g.within;
}

-- ---- all tokens, twice

-- the same token, shown a list and then another
knows_twice : (a b : List Item) (k l m : Known) → Knows a k l → Knows b l m → Knows b k m
knows_twice a b k l m f g = record {
  role = g.role ∙ f.role;
  list_is = g.list_is;
  sees = record {
    count = omega (arith, f.sees.count, g.sees.count);
    faults = omega (arith, f.sees.faults, g.sees.faults);
    disk = λ d. let e = f.sees.disk d in let h = g.sees.disk (f.role ∙ d) in (h.0 ∙ e.0, h.1 ∙ e.1);
  };
}

pub know_twice : (a b : List Item) (ks ls ms : List Known) → AllKnow a ks ls → AllKnow b ls ms → AllKnow b ks ms
know_twice a b [] [] [] f g = tt
know_twice a b (k ∷ ks) (l ∷ ls) (m ∷ ms) f g = (knows_twice a b k l m f.0 g.0, know_twice a b ks ls ms f.1 g.1)
know_twice a b [] [] (m ∷ ms) f g = absurd g
know_twice a b [] (l ∷ ls) ms f g = absurd f
know_twice a b (k ∷ ks) [] ms f g = absurd f
know_twice a b (k ∷ ks) (l ∷ ls) [] f g = absurd g

-- whoever was shown a list goes on as it goes on
shown_on : (catalog : Catalog) (parts : ℕ) (a b : List Item) (k l : Known) → Knows a k l → Continues catalog parts a k → Continues catalog parts b l → Continues catalog parts b k
shown_on catalog parts a b k l f c d = record {
  rest = c.rest ++ d.rest;
  is = d.is ∙ (ap (λ (list : List Item). list ++ d.rest) (f.list_is ∙ c.is) ∙ append_assoc k.list c.rest d.rest);
  quiet = λ i j. ⊎_elim (λ (x : In i c.rest). c.quiet i x)
      (λ (y : In i d.rest). subst (λ (r : Role). concerns catalog parts i.listed.entry r ≡ false) f.role (d.quiet i y)) (in_either i c.rest d.rest j);
}

pub continue_twice : (catalog : Catalog) (parts : ℕ) (a b : List Item) (ks ls : List Known) → AllKnow a ks ls → AllContinue catalog parts a ks → AllContinue catalog parts b ls → AllContinue catalog parts b ks
continue_twice catalog parts a b [] ls f c d k there = absurd there
continue_twice catalog parts a b (x ∷ ks) [] f c d k there = absurd f
continue_twice catalog parts a b (x ∷ ks) (l ∷ ls) f c d k there =
    ⊎_elim (λ (is : k ≡ x). subst (λ (y : Known). Continues catalog parts b y) (sym is) (shown_on catalog parts a b x l f.0 (c x (inl refl)) (d l (inl refl))))
    (λ (i : In k ks). continue_twice catalog parts a b ks ls f.1 (λ y j. c y (inr j)) (λ y j. d y (inr j)) k i) there
