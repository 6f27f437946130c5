-- Tokens whose lists go on.
use Rattle.std.proofs.Common.{◌≡◌, ◌≤◌, ℕ, false, List, [], ◌++◌, length, refl, sym, ap, ◌∙◌, subst, arith, ⊎_elim, length-append, append_assoc, append-nil}
use Rattle.ss_model.specs.declared.catalog.Catalog.{Catalog}
use Rattle.ss_commitlog.specs.declared.role.Role.{Role}
use Rattle.ss_commitlog.specs.declared.rule.Item.{Item}
use Rattle.ss_commitlog.specs.Meaning.{concerns}
use Rattle.ss_commitlog.specs.Roles.{In}
use Rattle.ss_commitlog.specs.Tokens.{Known, Continues, Follows}
use Rattle.ss_commitlog.proofs.Lists.{in_either}
use Rattle.ss_commitlog.specs.Growing.{GoesOn}

pub on_itself : (catalog : Catalog) (parts : ℕ) (k : Known) → GoesOn catalog parts k k
on_itself catalog parts k = record {
  role = refl;
  sees = record { count = omega arith; faults = omega arith; disk = λ d. (refl, refl) };
  on = record { rest = []; is = sym (append-nil k.list); quiet = λ i j. absurd j };
}

pub follows_on : (catalog : Catalog) (parts limit : ℕ) (k l : Known) → Follows catalog parts limit k l → GoesOn catalog parts k l
follows_on catalog parts limit k l f = record { role = f.role; sees = f.sees; on = f.goes_on }

pub on_and_on : (catalog : Catalog) (parts : ℕ) (a b c : Known) → GoesOn catalog parts a b → GoesOn catalog parts b c → GoesOn catalog parts a c
on_and_on catalog parts a b c f g = record {
  role = g.role ∙ f.role;
  sees = record {
    count = (let m = f.sees.count in let n = g.sees.count in omega arith);
    faults = (let m = f.sees.faults in let n = g.sees.faults in omega arith);
    disk = λ d. (let m = f.sees.disk d in let n = g.sees.disk (f.role ∙ d) in (n.0 ∙ m.0, n.1 ∙ m.1));
  };
  on = record {
    rest = f.on.rest ++ g.on.rest;
    is = g.on.is ∙ (ap (λ (l : List Item). l ++ g.on.rest) f.on.is ∙ append_assoc a.list f.on.rest g.on.rest);
    quiet = λ i j. ⊎_elim (λ (x : In i f.on.rest). f.on.quiet i x)
        (λ (y : In i g.on.rest). subst (λ (r : Role). concerns catalog parts i.listed.entry r ≡ false) f.role (g.on.quiet i y)) (in_either i f.on.rest g.on.rest j);
  };
}

pub on_longer : (catalog : Catalog) (parts : ℕ) (list : List Item) (k : Known) → Continues catalog parts list k → length k.list ≤ length list
on_longer catalog parts list k on = let e : length list ≡ length (k.list ++ on.rest) = ap (λ (l : List Item). length l) on.is in let l = length-append k.list on.rest in omega arith
