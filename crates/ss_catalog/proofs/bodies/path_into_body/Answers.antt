use Rattle.std.proofs.Common.{◌∙◌, ◌++◌, ℕ, List, decimal, codes, append_assoc, ap, sym}
use Rattle.ss_catalog.proofs.bodies.path_into_body.Goals as goal

pub returns : goal.returns
returns c =
    let q = c.args.procedure in
    c.from_string.ensures ∙ c.in_ok-path.ensures.ok
    ∙ ap (λ (way : List ℕ). codes "$.procedures[" ++ (decimal q ++ (codes "].body" ++ way))) c.as_str-way.ensures
    ∙ ap (λ (rest : List ℕ). codes "$.procedures[" ++ rest) (sym (append_assoc (decimal q) (codes "]") (codes ".body" ++ c.args.way.now)))
