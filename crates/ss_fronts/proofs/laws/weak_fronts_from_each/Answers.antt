use Rattle.ss_fronts.proofs.WeakFronts.{front_from}
use Rattle.ss_fronts.proofs.laws.weak_fronts_from_each.Goals as goal

pub returns : goal.returns
returns c = λ catalog. front_from catalog c.wholeness_stays.ensures c.kept_carries.ensures
