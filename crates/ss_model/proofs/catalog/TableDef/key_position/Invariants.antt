use Rattle.std.proofs.Common.{◌≡◌, ◌+◌, drop}
use Rattle.ss_model.specs.Contents.{key_position}
use Rattle.ss_model.proofs.catalog.TableDef.key_position.Given as goal

abbrev pub invariant-loop-position : goal.invariant-loop-position
invariant-loop-position l = key_position l.column (drop l.position l.self.key) + l.position ≡ key_position l.column l.self.key
