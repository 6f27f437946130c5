use Rattle.std.proofs.Common.{refl}
use Rattle.ss_cmdlog_cases.proofs.weak.flush_among.Goals as goal

pub flush-requires-2-clause-open : goal.flush-requires-2-clause-open
flush-requires-2-clause-open g c = λ going. (_, (c.in_ok-flush.ensures.adds c.requires.open.0 c.requires.open.1).done refl)

pub flush-requires-3-clause-open : goal.flush-requires-3-clause-open
flush-requires-3-clause-open g c =
    let opened = (c.in_ok-flush.ensures.adds c.requires.open.0 c.requires.open.1).done refl in
    λ going. (_, (c.in_ok-flush-2.ensures.adds _ opened).done refl)
