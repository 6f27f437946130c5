use Rattle.std.proofs.Common.{◌≡◌, ◌+◌, ◌≤◌, ◌++◌, length, vec_capacity}
use Rattle.ss_standing.specs.Standing.{listed_entries}
use Rattle.ss_receipts.proofs.rest.entries_of.Given as goal

-- the entries so far, before those of the items that are left, and room for all
abbrev pub invariant-loop-listed : goal.invariant-loop-listed
invariant-loop-listed l = record {
  so_far : l.entries.items ++ listed_entries l.listed-iterator.rest.items ≡ listed_entries l.fn.list;
  many : length l.entries.items + length l.listed-iterator.rest.items ≡ length l.fn.list;
  room : length l.fn.list ≤ vec_capacity l.entries;
}
