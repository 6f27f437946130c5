use Rattle.ss_cmdlog_cases.proofs.renewals.renewed_behind.Goals as goal

pub renew_behind-requires-2-clause-open : goal.renew_behind-requires-2-clause-open
renew_behind-requires-2-clause-open c = c.in-Ok-renew_behind.ensures.open
