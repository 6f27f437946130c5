use Rattle.std.proofs.Common.{◌≡◌, ◌∙◌, [], ap, sym, slice_get, get_or, unwrap_or}
use Rattle.std.specs.Option.{option_copied}
use Rattle.std.proofs.lemmas.Option.{unwrap_or-slice_get}
use Rattle.ss_value.specs.Rows.{Rows}
use Rattle.ss_plan.specs.Seen.{rows_numbered}
use Rattle.ss_plan.proofs.visible_rows.batch_of.Goals as goal

pub returns-in-None : goal.returns-in-None
returns-in-None c = λ catalog split.
    let none = ap (slice_get c.args.batches.now) (sym c.from.ensures) ∙ sym c.get.ensures ∙ ap option_copied c.in-None.is in
    let nothing : [] ≡ get_or c.args.batches.now c.args.at [] = ap (λ o. unwrap_or o []) (sym none) ∙ unwrap_or-slice_get c.args.batches.now c.args.at [] in
    ap (λ (rows : Rows). rows_numbered 0 rows) nothing
