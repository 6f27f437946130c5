use Rattle.std.proofs.Common.{◌≡◌, ◌∙◌, ◌∷◌, [], ◌++◌, ℕ, List, Bool, false, cond, Some, ap, sym, append-nil}
use Rattle.std.specs.Option.{option_copied}
use Rattle.ss_model.specs.Nests.{is_head, text_in_place}
use Rattle.ss_nest.specs.Moves.{nest_with}
use Rattle.ss_nest.proofs.Places.{text_in_place_of}
use Rattle.ss_nest.proofs.joined.add_text.Goals as goal

pub returns-else-is_head : goal.returns-else-is_head
returns-else-is_head c =
    let nests = c.args.nests.now in
    let q = c.args.number in
    let text = c.args.text.now in
    let all = c.args.all.now in
    let found : nest_with nests q ≡ Some c.in-Some.nest.now = sym c.nest_with.ensures ∙ ap option_copied c.in-Some.is in
    let other : is_head q c.in-Some.nest.now.members ≡ false = sym c.is_head.ensures ∙ c.if-is_head.false in
    let none : text_in_place nests q text ≡ [] = text_in_place_of nests q text (Some c.in-Some.nest.now) found ∙ ap (λ (b : Bool). cond b ([] ∷ []) []) other in
    sym (append-nil all) ∙ ap (λ (ts : List (List ℕ)). all ++ ts) (sym none)
