use Rattle.std.proofs.Common.{◌∙◌, ap, ℕ, List, ◌++◌}
use Rattle.std.specs.List.{flat_map}
use Rattle.ss_catalog_outline.specs.declared.types.StepOutline.{StepOutline}
use Rattle.ss_names.specs.Names.{itself}
use Rattle.ss_catalog_outline.specs.Unknown.{names_in, Scope, touch_uses, step_uses, first_unknown}
use Rattle.ss_catalog_names.proofs.Same.{either}
use Rattle.ss_catalog_names.proofs.unknown.Scope.unknown_in.Goals as goal

pub returns : goal.returns
returns c =
    let s = c.args.self.now in
    let p = c.args.procedure.now in
    either (names_in itself s.streams p.inputs ++ touch_uses s p.touch) (flat_map (step_uses s) p.body) c.or.result c.unknown_in_body.result c.or-2.result c.or-2.ensures
    (either (names_in itself s.streams p.inputs) (touch_uses s p.touch) c.unknown_in.result c.unknown_touch.result c.or.result c.or.ensures
    (c.unknown_in.ensures
    ∙ ap (λ (l : List (List ℕ)). first_unknown (names_in itself c.self.inside.streams.now l)) c.as_slice.ensures
    ∙ ap (λ (t : Scope). first_unknown (names_in itself t.streams p.inputs)) c.self.view_is)
    c.unknown_touch.ensures)
    (c.unknown_in_body.ensures ∙ ap (λ (l : List StepOutline). first_unknown (flat_map (step_uses s) l)) c.as_slice-2.ensures)
