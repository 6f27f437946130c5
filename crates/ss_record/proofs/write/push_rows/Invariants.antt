use Rattle.std.proofs.Common.{◌≡◌, ◌++◌, ◌≤◌, ◌+◌, ◌*◌, length, take, All}
use Rattle.std.specs.List.{flat_map}
use Rattle.ss_record.specs.Spelling.{row_bytes}
use Rattle.ss_record.specs.Bounds.{IsTypedRow}
use Rattle.ss_record.proofs.write.push_rows.Given as goal

abbrev pub invariant-loop-row : goal.invariant-loop-row
invariant-loop-row l = record {
  spelled : l.out.items ≡ l.initial.out.items ++ flat_map row_bytes (take l.row-index l.row-items);
  long : length l.out.items ≤ length l.initial.out.items + 4113 * l.row-index;
  typed : All IsTypedRow (take l.row-index l.row-items);
}
