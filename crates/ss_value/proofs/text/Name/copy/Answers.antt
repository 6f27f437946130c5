use Rattle.std.proofs.Common.{rules, ◌≡◌, List, ℕ, IsTrue, subst, sym, string_bytes}
use Rattle.ss_value.specs.Words.{is_name}
use Rattle.ss_value.proofs.text.Name.copy.Goals as goal

pub invariant_of-result : goal.invariant_of-result
invariant_of-result c =
    let same : string_bytes c.in-Ok.text ≡ string_bytes c.self.inside.text = search rules in
    subst (λ (n : List ℕ). IsTrue (is_name n)) (sym same) c.self.invariant
