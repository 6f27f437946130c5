-- A catalogue with no nests joined is the catalogue itself, but for its text.
use Rattle.std.proofs.Common.{◌≡◌, ◌∙◌, ◌==◌, ℕ, suc, cond, List, [], ◌∷◌, length, map, refl, ap}
use Rattle.std.specs.List.{filter, range_with_len}
use Rattle.std.proofs.lemmas.List.FromFn.{length-range_with_len}
use Rattle.ss_lemmas.proofs.Numbers.{eqb_self}
use Rattle.ss_model.specs.declared.catalog.Catalog.{Catalog}
use Rattle.ss_model.specs.declared.catalog.Nest.{Nest}
use Rattle.ss_model.specs.declared.catalog.WindowDef.{WindowDef}
use Rattle.ss_model.specs.Nests.{items_in_place, nested_number, nested_window, nested_catalog, nest_procedure}

pub none_in_place : {A : Type 0} (f : Nest → A → A) (q : ℕ) (xs : List A) → items_in_place f [] q xs ≡ xs
none_in_place f q [] = refl
none_in_place {A = A} f q (x ∷ xs) = ap (λ (ys : List A). x ∷ ys) (none_in_place f (suc q) xs)

all_stand : (ns : List ℕ) → filter (λ n. n == n) ns ≡ ns
all_stand [] = refl
all_stand (n ∷ ns) = (λ i. cond (eqb_self n i) (n ∷ filter (λ m. m == m) ns) (filter (λ m. m == m) ns)) ∙ ap (λ (ms : List ℕ). n ∷ ms) (all_stand ns)

-- numbers stay
same_number : (q : ℕ) → nested_number [] q ≡ q
same_number q = ap length (all_stand (range_with_len 0 q)) ∙ length-range_with_len 0 q

same_windows : (ds : List WindowDef) → map (nested_window []) ds ≡ ds
same_windows [] = refl
same_windows (d ∷ ds) = λ i. record d { owner = same_number d.owner i } ∷ same_windows ds i

pub nested_none : (c : Catalog) (text : List ℕ) → nested_catalog c [] text ≡ record c { text = text }
nested_none c text = λ i. record c {
  windows = same_windows c.windows i;
  procedures = none_in_place (nest_procedure c) 0 c.procedures i;
  own_texts = none_in_place (λ nest own. []) 0 c.own_texts i;
  spares = none_in_place (λ nest bodies. []) 0 c.spares i;
  text = text;
}
