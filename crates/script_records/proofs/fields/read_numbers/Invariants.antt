use Rattle.std.proofs.Common.{◌≡◌, ◌≤◌, ◌++◌, length, take, drop}
use Rattle.script_records.specs.ReadRecords.{numbers_at, size_of}
use Rattle.script_records.proofs.fields.read_numbers.Given as goal

abbrev pub invariant-loop-i : goal.invariant-loop-i
invariant-loop-i g l = record {
  whole : length l.numbers ≡ length l.fields;
  capacity : size_of (drop l.i l.fields) ≤ length l.rest;
  reads : take l.i l.numbers ++ numbers_at (drop l.i l.fields) l.rest ≡ numbers_at l.fn.fields l.fn.bytes;
}
