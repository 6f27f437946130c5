use Rattle.std.proofs.Common.{◌≡◌, rules}
use Rattle.std.specs.List.{fold}
use Rattle.std.specs.FinMap as finmap
use Rattle.ss_model_computed.proofs.Stores.{same_again}
use Rattle.ss_model_computed.proofs.table.Table.copy.Goals as goal

pub returns : goal.returns
returns c =
    let put : c.insert_all.new.self ≡ fold (λ m e. finmap.insert m e.0 e.1) c.new-copy.result c.in_ok-entries.entries = search rules in
    rw (put, c.new-copy.ensures, c.in_ok-entries.ensures) (same_again c.args.self.now)
