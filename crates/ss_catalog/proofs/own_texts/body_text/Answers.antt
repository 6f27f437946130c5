use Rattle.std.proofs.Common.{◌≡◌, ◌≤◌, ◌∙◌, ℕ, List, [], Option, false, sym, ap, arith}
use Rattle.std.specs.Prelude.{codes, unwrap_or, option_map}
use Rattle.serde_json.specs.Data.{Data, depth}
use Rattle.serde_json.specs.View.{view}
use Rattle.serde_json.specs.Written.{compact_text, has_float}
use Rattle.ss_lemmas.proofs.Results.{if_ok}
use Rattle.ss_catalog.specs.Texts.{body_text}
use Rattle.ss_catalog.proofs.Inside.{get_depth, get_floatless}
use Rattle.ss_catalog.proofs.own_texts.body_text.Goals as goal

pub text_of-requires : goal.text_of-requires
text_of-requires c =
    let less : depth (view c.in-Some.body.now) ≤ depth (view c.args.procedure.now) = get_depth (codes "body") (view c.args.procedure.now) (view c.in-Some.body.now) (sym c.in-Some.ensures) in
    omega arith

pub returns-in-Some : goal.returns-in-Some
returns-in-Some c =
    let d = view c.args.procedure.now in
    let body = view c.in-Some.body.now in
    let none = get_floatless (codes "body") d body c.requires.no_float (sym c.in-Some.ensures) in
    if_ok (λ (text : List ℕ). has_float body ≡ false → text ≡ compact_text body) (λ (text : List ℕ). text ≡ body_text d)
    (λ text told. told none ∙ ap (λ (o : Option Data). unwrap_or (option_map compact_text o) []) c.in-Some.ensures) c.text_of.result c.text_of.ensures.text
