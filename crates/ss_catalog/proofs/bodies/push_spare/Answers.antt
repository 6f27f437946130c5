use Rattle.std.proofs.Common.{◌≡◌, ◌∙◌, ◌<◌, ◌+◌, ◌-◌, ◌++◌, ◌∷◌, [], List, length, ap, set, get_or, replicate, arith}
use Rattle.ss_lemmas.proofs.Results.{on_so}
use Rattle.ss_model.specs.declared.catalog.Body.{Body}
use Rattle.ss_catalog.specs.Bodies.{with_spare}
use Rattle.ss_catalog.proofs.WithSpare.{list_there, list_missing}
use Rattle.ss_catalog.proofs.bodies.push_spare.Goals as goal

pub returns-then-number-len-clause-ok : goal.returns-then-number-len-clause-ok
returns-then-number-len-clause-ok c =
    let xs = c.args.spares.now in
    let n = c.from-number.result in
    let b = c.args.body in
    let new = c.add_to_list.new.spares in
    let within : n < length xs = omega arith in
    on_so c.add_to_list.result (new ≡ set xs n (get_or xs n [] ++ b ∷ [])) (new ≡ with_spare xs c.args.procedure b)
    (λ h. h ∙ list_there xs n b within ∙ ap (λ k. with_spare xs k b) c.from-number.ensures) c.add_to_list.ensures.ok

pub returns-clause-ok : goal.returns-clause-ok
returns-clause-ok c =
    let xs = c.args.spares.now in
    let q = c.args.procedure in
    let b = c.args.body in
    let new = c.add_list.new.spares in
    let missing = q - length xs in
    let count : missing + length xs ≡ q = omega arith in
    on_so c.add_list.result (new ≡ xs ++ (replicate missing [] ++ c.push.new.self ∷ [])) (new ≡ with_spare xs q b)
    (λ h. h ∙ ap (λ (l : List Body). xs ++ (replicate missing [] ++ l ∷ [])) (c.in_ok-push.ensures.ok ∙ ap (λ (l : List Body). l ++ b ∷ []) c.new-bodies.ensures)
    ∙ list_missing xs q missing b count) c.add_list.ensures.ok
