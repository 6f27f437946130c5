use Rattle.std.proofs.Common.{◌≡◌, ap, ◌∙◌, [], ◌∷◌, ◌++◌, length, slice_get, true, rules}
use Rattle.std.specs.Prelude.{is_ok}
use Rattle.ss_lemmas.proofs.LoopItem.{get_last}
use Rattle.ss_fragment.specs.declared.cell.Cell.TheVariants.{Free}
use Rattle.ss_fragment.proofs.cell.make_free.Goals as goal

pub returns-clause-ok : goal.returns-clause-ok
returns-clause-ok c =
    let ok : is_ok c.push.result ≡ true = search rules in
    let items = rw ok at c.push.ensures.items in
    let at : c.len-at.result ≡ length c.args.cells.now.items = c.len-at.ensures ∙ c.args.cells.now.ok.0 in
    (c.args.free.now, (ap (λ s. slice_get s c.len-at.result) items ∙ ap (slice_get (c.args.cells.now.items ++ Free c.args.free.now ∷ [])) at ∙ get_last c.args.cells.now.items (Free c.args.free.now)))
