use Rattle.std.proofs.Common.{◌≡◌, ◌++◌, ◌≤◌, ◌+◌, ◌*◌, length, take, All}
use Rattle.std.specs.List.{flat_map}
use Rattle.ss_record.specs.Spelling.{value_bytes}
use Rattle.ss_record.specs.Bounds.{IsTypedValue}
use Rattle.ss_record.proofs.write.push_row.Given as goal

abbrev pub invariant-loop-value : goal.invariant-loop-value
invariant-loop-value l = record {
  spelled : l.out.items ≡ l.initial.out.items ++ flat_map value_bytes (take l.value-index l.value-items);
  long : length l.out.items ≤ length l.initial.out.items + 257 * l.value-index;
  typed : All IsTypedValue (take l.value-index l.value-items);
}
