use Rattle.std.proofs.Common.{◌≡◌, ◌∙◌, ◌∷◌, [], ◌++◌, List, Bool, false, cond, Some, ap, sym, append-nil}
use Rattle.std.specs.Option.{option_copied}
use Rattle.ss_model.specs.declared.catalog.Procedure.{Procedure}
use Rattle.ss_model.specs.Nests.{in_place, is_head, nest_procedure}
use Rattle.ss_nest.specs.Moves.{nest_with}
use Rattle.ss_nest.proofs.Places.{in_place_of}
use Rattle.ss_nest.proofs.joined.add_in_place.Goals as goal

pub returns-else-is_head : goal.returns-else-is_head
returns-else-is_head c =
    let catalog = c.args.catalog.now in
    let nests = c.args.nests.now in
    let q = c.args.number in
    let p = c.args.procedure.now in
    let nest = c.in-Some.nest.now in
    let all = c.args.all.now in
    let found : nest_with nests q ≡ Some nest = sym c.nest_with.ensures ∙ ap option_copied c.in-Some.is in
    let other : is_head q nest.members ≡ false = sym c.is_head.ensures ∙ c.if-is_head.false in
    let none : in_place catalog nests q p ≡ [] = in_place_of catalog nests q p (Some nest) found ∙ ap (λ (b : Bool). cond b (nest_procedure catalog nest p ∷ []) []) other in
    sym (append-nil all) ∙ ap (λ (ps : List Procedure). all ++ ps) (sym none)
