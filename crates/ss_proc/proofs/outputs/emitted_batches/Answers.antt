use Rattle.std.proofs.Common.{◌≡◌, ◌+◌, ◌<◌, ◌++◌, ℕ, List, length, sym, ap, ◌∙◌, rules}
use Rattle.std.specs.List.{list_any}
use Rattle.ss_value.specs.Rows.{Rows}
use Rattle.ss_model.specs.declared.entry.Emitted.{Emitted}
use Rattle.ss_model.specs.Database.{emits_to}
use Rattle.ss_proc.specs.Entries.{batches_for}
use Rattle.ss_proc.proofs.Owned.{numbers_from}
use Rattle.ss_proc.proofs.Batches.{batch_taken, none_taken}
use Rattle.ss_proc.proofs.outputs.emitted_batches.Goals as goal
use Rattle.ss_proc.proofs.outputs.emitted_batches.Goals.{then-emits+in_ok-add_output, else-emits}

pub loop-n-preserved : goal.loop-n-preserved
loop-n-preserved c =
    let body = c.args.procedure.now.body in
    let count = length c.args.catalog.now.streams in
    let n = c.loop-n.n in
    let emitting = λ (s : ℕ). list_any (emits_to s) body in
    let within : n < count = search rules in
    let test : c.emits.result ≡ emitting n = c.emits.ensures ∙ ap (λ steps. list_any (emits_to n) steps) c.as_slice.ensures in
    let after = λ (made : List Emitted) (left : List Rows). made ++ batches_for (numbers_from emitting (n + 1) count) left in
    elim c.if-emits.branch [
      | then-emits+in_ok-add_output w ↦
          (λ i. after ((w.batches-is ∙ w.in_ok-add_output.ensures.ok) i) ((w.left-is ∙ w.in_ok-add_output.ensures.left) i))
          ∙ batch_taken emitting c.loop-n.left n count c.loop-n.batches within (sym test ∙ w.if-emits.true)
          ∙ c.loop-n.invariant
      | else-emits w ↦
          (λ i. after (w.batches-is i) (w.left-is i))
          ∙ none_taken emitting c.loop-n.left n count c.loop-n.batches within (sym test ∙ w.if-emits.false)
          ∙ c.loop-n.invariant
    ]
