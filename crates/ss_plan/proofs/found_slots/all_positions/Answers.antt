use Rattle.std.proofs.Common.{ℕ, [], ◌∷◌, ◌++◌, refl, sym, ap, ◌∙◌}
use Rattle.std.proofs.lemmas.List.{map-append}
use Rattle.ss_value.specs.Rows.{Row}
use Rattle.ss_rows.proofs.CallerLemmas.{walked_on, walked_falls}
use Rattle.ss_plan.proofs.found_slots.all_positions.Goals as goal

pub loop-at-init : goal.loop-at-init
loop-at-init g c = ([], g.X.RowsOf.positioned c.args.from.now c.args.source.now, (refl, c.first-at.ensures), c.new-positions.ensures.items)

pub loop-at-smaller : goal.loop-at-smaller
loop-at-smaller g c =
    let positioned = g.X.RowsOf.positioned c.args.from.now c.args.source.now in
    let i = c.loop-at.invariant in
    walked_falls positioned c.loop-at.at i.0 c.in-Some.position c.after-next.result.0 i.1 i.2 c.in-Some.is c.after-next.ensures

pub loop-at-preserved : goal.loop-at-preserved
loop-at-preserved g c =
    let positioned = g.X.RowsOf.positioned c.args.from.now c.args.source.now in
    let i = c.loop-at.invariant in
    let s = walked_on positioned c.loop-at.at i.0 c.in-Some.position c.after-next.result.0 i.1 i.2 c.in-Some.is c.after-next.ensures in (
      i.0 ++ (c.in-Some.position, s.0) ∷ [],
      s.1,
      s.4,
      c.in_ok-push.ensures.items ∙ ap (λ ps. ps ++ c.in-Some.position ∷ []) i.3 ∙ sym (map-append (λ (p : ℕ × Row). p.0) i.0 ((c.in-Some.position, s.0) ∷ [])),
    )
