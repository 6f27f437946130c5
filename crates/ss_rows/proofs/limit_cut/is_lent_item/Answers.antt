use Rattle.std.proofs.Common.{subst, sym}
use Rattle.ss_rows.specs.Lent.{IsLentItem}
use Rattle.ss_rows.proofs.Lent.{plain_lent}
use Rattle.ss_rows.proofs.limit_cut.is_lent_item.Goals as goal

pub returns-in-Plain : goal.returns-in-Plain
returns-in-Plain c = λ yes. subst IsLentItem (sym c.in-Plain.is) (plain_lent _ (c.is_lent.ensures yes))
