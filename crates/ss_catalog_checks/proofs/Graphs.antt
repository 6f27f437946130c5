-- Graphs that are built edge by edge.
use Rattle.std.proofs.Common.{◌≡◌, ◌==◌, ◌<◌, ◌≤◌, ◌⊎◌, inl, inr, ℕ, zero, suc, Bool, true, false, ◌&&◌, ◌||◌, List, [], ◌∷◌, ◌++◌, length, get_or, slice_get, Some, None, set, arith, refl, ap, sym, subst, ◌∙◌}
use Rattle.std.proofs.lemmas.Bool.{cases_eq, eq-eqb, eqb-true, ne_eqb, or_cases, and_parts}
use Rattle.std.proofs.lemmas.List.{get_or-set_same, get_or-set_other, length-set}
use Rattle.std.proofs.lemmas.List.Folds.{list_any-append}
use Rattle.ss_catalog_checks.specs.declared.graph.Edge.{Edge}
use Rattle.ss_catalog_checks.specs.Graphs.{is_among, has_edge, joins, is_edge, IsGraphOf}

pub or_none : (a : Bool) → (a || false) ≡ a
or_none true = refl
or_none false = refl

-- a row of no edges has none
pub empty_row : (graph : List (List ℕ)) (n : ℕ) → get_or (graph ++ [] ∷ []) n [] ≡ get_or graph n []
empty_row [] zero = refl
empty_row [] (suc n) = refl
empty_row (r ∷ graph) zero = refl
empty_row (r ∷ graph) (suc n) = empty_row graph n

-- one node more in a row
among_more : (ns : List ℕ) (t m : ℕ) → is_among (ns ++ t ∷ []) m ≡ (is_among ns m || m == t)
among_more ns t m = list_any-append (λ x. m == x) ns (t ∷ []) ∙ ap (λ b. is_among ns m || b) (or_none (m == t))

-- one edge more
added_by : (graph : List (List ℕ)) (f t n m : ℕ) → f < length graph → (n ≡ f) ⊎ (n ≡ f → ⊥) → has_edge (set graph f (get_or graph f [] ++ t ∷ [])) n m ≡ (has_edge graph n m || (n == f && m == t))
added_by graph f t n m l (inl e) =
    let at : get_or (set graph f (get_or graph f [] ++ t ∷ [])) n [] ≡ get_or graph n [] ++ t ∷ [] =
    ap (λ k. get_or (set graph f (get_or graph f [] ++ t ∷ [])) k []) e ∙ get_or-set_same graph f (get_or graph f [] ++ t ∷ []) [] l ∙ ap (λ k. get_or graph k [] ++ t ∷ []) (sym e) in
    ap (λ ns. is_among ns m) at ∙ among_more (get_or graph n []) t m ∙ ap (λ b. has_edge graph n m || (b && m == t)) (sym (eq-eqb n f e))
added_by graph f t n m l (inr d) =
    ap (λ ns. is_among ns m) (get_or-set_other graph f n (get_or graph f [] ++ t ∷ []) [] d)
    ∙ sym (or_none (has_edge graph n m))
    ∙ ap (λ b. has_edge graph n m || (b && m == t)) (sym (ne_eqb n f d))

edge_added : (graph : List (List ℕ)) (f t n m : ℕ) → f < length graph → has_edge (set graph f (get_or graph f [] ++ t ∷ [])) n m ≡ (has_edge graph n m || (n == f && m == t))
edge_added graph f t n m l = added_by graph f t n m l (cases_eq n f)

more_edges : (edges : List Edge) (e : Edge) (n m : ℕ) → is_edge (edges ++ e ∷ []) n m ≡ (is_edge edges n m || joins n m e)
more_edges edges e n m = list_any-append (joins n m) edges (e ∷ []) ∙ ap (λ b. is_edge edges n m || b) (or_none (joins n m e))

-- where the rows of a graph stay, and there are no fewer
pub same_graph : (edges : List Edge) (old new : List (List ℕ)) → IsGraphOf edges old → ((n : ℕ) → get_or new n [] ≡ get_or old n []) → length old ≤ length new → IsGraphOf edges new
same_graph edges old new g rows l = record {
  has_these = λ n m. ap (λ ns. is_among ns m) (rows n) ∙ g.has_these n m;
  closed = λ n m h. within (g.closed n m (sym (ap (λ ns. is_among ns m) (rows n)) ∙ h));
}
  where
    within : {m : ℕ} → m < length old → m < length new
    within h = omega arith

-- an edge between two of its nodes joins the others
pub graph_grows : (edges : List Edge) (e : Edge) (graph : List (List ℕ)) → IsGraphOf edges graph → e.from < length graph → e.to < length graph → IsGraphOf (edges ++ e ∷ []) (set graph e.from (get_or graph e.from [] ++ e.to ∷ []))
graph_grows edges e graph g f t = record {
  has_these = λ n m. edge_added graph e.from e.to n m f ∙ ap (λ b. b || joins n m e) (g.has_these n m) ∙ sym (more_edges edges e n m);
  closed = λ n m h.
      subst (λ l. m < l) (sym (length-set graph e.from (get_or graph e.from [] ++ e.to ∷ [])))
      (elim (or_cases (has_edge graph n m) (joins n m e) (sym (edge_added graph e.from e.to n m f) ∙ h)) [
        | inl y ↦ g.closed n m y
        | inr y ↦ subst (λ k. k < length graph) (sym (eqb-true m e.to ((and_parts (n == e.from) (m == e.to) y).1))) t
      ]);
}

-- no edges
pub no_edges : IsGraphOf [] []
no_edges = record { has_these = λ n m. refl; closed = λ n m h. absurd (cc) }

-- a row that is there, and one that is not
pub row_there : (graph : List (List ℕ)) (n : ℕ) (row : List ℕ) → slice_get graph n ≡ Some row → get_or graph n [] ≡ row
row_there [] n row e = absurd (cc)
row_there (r ∷ graph) zero row e = cc
row_there (r ∷ graph) (suc n) row e = row_there graph n row e

pub row_missing : (graph : List (List ℕ)) (n : ℕ) → slice_get graph n ≡ None → get_or graph n [] ≡ []
row_missing [] n e = refl
row_missing (r ∷ graph) zero e = absurd (cc)
row_missing (r ∷ graph) (suc n) e = row_missing graph n e
