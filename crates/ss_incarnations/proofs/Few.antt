-- Few entries of a client stand behind a count, in a list that was cut below it and goes on otherwise.
use Rattle.std.proofs.Common.{◌≡◌, ◌∙◌, ℕ, ◌+◌, ◌<◌, ◌≤◌, List, [], ◌∷◌, ◌++◌, length, take, sym, ap, arith, append_assoc, length-take-le}
use Rattle.std.specs.List.{AllByRecursion}
use Rattle.ss_model.specs.declared.entry.Listed.{Listed}
use Rattle.ss_report_laws.specs.Replies.{mine}
use Rattle.ss_report_laws.proofs.CallerLemmas.{mine_below, mine_join}
use Rattle.ss_headline.specs.Layers.{FewUnreceipted}

abbrev Below : ℕ → List (ℕ × Listed) → Type 0
Below n ps = AllByRecursion (λ (p : ℕ × Listed). p.0 < n) ps

both_below : (n : ℕ) (ps qs : List (ℕ × Listed)) → Below n ps → Below n qs → Below n (ps ++ qs)
both_below n [] qs a b = b
both_below n (p ∷ ps) qs a b = (a.0, both_below n ps qs a.1 b)

-- what stays stands below the place of the cut, which is receipted
pub few_joined : (client first : ℕ) (list : List Listed) (stayed : ℕ) (more : List Listed) (place count : ℕ) → stayed ≤ length list → place ≡ first + stayed → place ≤ count
    → FewUnreceipted client place more count → FewUnreceipted client first (take stayed list ++ more) count
few_joined client first list stayed more place count within is reaches few =
    let long = length-take-le stayed list within in
    let at : first + length (take stayed list) ≡ place = omega (arith, long, is) in record {
      receipted = mine client first (take stayed list) ++ few.receipted;
      others = few.others;
      parts = mine_join client first (take stayed list) more
          ∙ ap (λ m. mine client first (take stayed list) ++ mine client m more) at
          ∙ ap (λ (ps : List (ℕ × Listed)). mine client first (take stayed list) ++ ps) few.parts
          ∙ sym (append_assoc (mine client first (take stayed list)) few.receipted few.others);
      below = both_below count (mine client first (take stayed list)) few.receipted (mine_below client first count (take stayed list) (omega (arith, at, reaches))) few.below;
      few = few.few;
    }
