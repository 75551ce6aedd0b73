use Rattle.std.proofs.Common.{◌≡◌, length, take, drop}
use Rattle.sfu_script.specs.Fields.{fields_of}
use Rattle.sfu_script.proofs.FieldSteps.{with_front}
use Rattle.sfu_script.proofs.fields.read_fields.Given as goal

abbrev pub invariant-loop-i : goal.invariant-loop-i
invariant-loop-i g l = record {
  whole : length l.numbers ≡ length l.places;
  reads : with_front (take l.i l.numbers) (fields_of (drop l.i l.places) l.rest) ≡ fields_of l.fn.places l.fn.text;
}
