use Rattle.ss_table_cases.proofs.Running.{committed}
use Rattle.ss_table_cases.proofs.real.Real.commit.Goals as goal

pub invariant_of-self : goal.invariant_of-self
invariant_of-self c =
    let r = c.self.inside in
    committed c.committed_at_first.ensures r.key r.tables c.commit.new.tables r.windows c.commit.new.windows c.commit.new.self.items c.self.invariant.keyed c.commit.ensures.tables c.self.invariant.no_window c.commit.ensures.windows
    c.commit.ensures.empty
