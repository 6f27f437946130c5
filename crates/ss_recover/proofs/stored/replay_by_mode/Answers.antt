use Rattle.std.proofs.Common.{◌≡◌, subst}
use Rattle.ss_model.specs.declared.entry.Mode.{Mode}
use Rattle.ss_cmdlog.specs.Logged.{logged}
use Rattle.ss_recover.proofs.stored.replay_by_mode.Goals as goal

pub replay_asked-requires-clause-asked : goal.replay_asked-requires-clause-asked
replay_asked-requires-clause-asked g c =
    let entries = c.args.loaded.entries in
    subst (λ (m : Mode). logged m entries ≡ entries) c.in-Weak.is c.requires.logged
