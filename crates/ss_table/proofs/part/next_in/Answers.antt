use Rattle.std.proofs.Common.{sym, ap, ◌∙◌}
use Rattle.std.specs.Option.{option_copied}
use Rattle.std.specs.FinMap as finite
use Rattle.ss_table.specs.TableValue.{LiveRows, first_in}
use Rattle.ss_table.specs.Parts.{rows_beyond}
use Rattle.ss_table.proofs.Firsts.{all_beyond}
use Rattle.ss_table.proofs.part.next_in.Goals as goal

pub returns-in-None : goal.returns-in-None
returns-in-None c =
    let key = c.args.rows.now.key in
    let live = c.args.rows.now.live in
    c.first.ensures ∙ sym (ap (λ o. first_in (finite.entries (rows_beyond c.args.rows.now.key o c.args.rows.now.live))) (ap option_copied c.in-None.is) ∙ ap (λ (m : LiveRows). first_in (finite.entries m)) (all_beyond key live))
