use Rattle.std.proofs.Common.{◌≡◌, ◌++◌, drop}
use Rattle.script_texts.specs.Texts.{GoesOn}
use Rattle.script_records.specs.Values.{values_bytes}
use Rattle.script_records.proofs.values.append_values.Given as goal

abbrev pub invariant-loop-value : goal.invariant-loop-value
invariant-loop-value l = record {
  written : l.out ++ values_bytes (drop l.value-index l.values) ≡ l.fn.out ++ values_bytes l.values;
  begun : GoesOn l.fn.out l.out;
}
