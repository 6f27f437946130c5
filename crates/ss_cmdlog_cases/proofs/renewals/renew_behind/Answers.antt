use Rattle.std.proofs.Common.{refl}
use Rattle.ss_cmdlog_cases.proofs.renewals.renew_behind.Goals as goal

pub renew-requires-clause-open : goal.renew-requires-clause-open
renew-requires-clause-open g c = λ going. (_, (c.in_ok-receipt.ensures.adds c.requires.open.0 c.requires.open.1).done refl)

pub returns-clause-open : goal.returns-clause-open
returns-clause-open g c =
    let flushed = (c.in_ok-receipt.ensures.adds c.requires.open.0 c.requires.open.1).done refl in
    (_, (c.in_ok-renew.ensures.renews _ flushed).done)
