use Rattle.std.proofs.Common.{◌≡◌, ◌∷◌, [], ◌++◌, ◌&&◌, true, false, ap, sym, ◌∙◌, ℕ, rules}
use Rattle.ss_lemmas.proofs.Filtered.{filter_takes, filter_passes_by}
use Rattle.ss_model.specs.Nests.{members_emit, members_take}
use Rattle.ss_nest.proofs.joined.inner_streams.Goals as goal
use Rattle.ss_nest.proofs.joined.inner_streams.Goals.{then-is_between+in-Ok+in_ok-push, else-is_between}

pub loop-stream-preserved : goal.loop-stream-preserved
loop-stream-preserved c =
    let between = λ (s : ℕ). members_emit c.args.catalog.now c.args.members.now s && members_take c.args.catalog.now c.args.members.now s in
    elim c.if-is_between.branch [
      | then-is_between+in-Ok+in_ok-push w ↦
          let number : w.in-Ok.number ≡ c.loop-stream.stream = search rules in
          let pushed : w.push.new.self ≡ c.loop-stream.inner ++ w.in-Ok.number ∷ [] = search rules in
          let passes : between c.loop-stream.stream ≡ true = sym c.is_between.ensures ∙ w.if-is_between.true in
          w.inner-is ∙ pushed ∙ ap (λ n. c.loop-stream.inner ++ n ∷ []) number ∙ ap (λ ns. ns ++ c.loop-stream.stream ∷ []) c.loop-stream.invariant
          ∙ filter_takes between c.loop-stream.stream passes
      | else-is_between w ↦
          let passes : between c.loop-stream.stream ≡ false = sym c.is_between.ensures ∙ w.if-is_between.false in
          w.inner-is ∙ c.loop-stream.invariant ∙ filter_passes_by between c.loop-stream.stream passes
    ]
