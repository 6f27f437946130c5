use Rattle.std.proofs.Common.{◌≡◌, ◌≤◌, length, take, vec_capacity}
use Rattle.ss_standing.specs.Standing.{listed_entries}
use Rattle.ss_receipts.proofs.rest.copied_entries.Given as goal

-- the entries of the first items, and room for all
abbrev pub invariant-loop-listed : goal.invariant-loop-listed
invariant-loop-listed l = record {
  so_far : l.entries.items ≡ listed_entries (take l.listed-index l.list);
  many : length l.entries.items ≡ l.listed-index;
  room : length l.list ≤ vec_capacity l.entries;
}
