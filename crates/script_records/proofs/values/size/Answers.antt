use Rattle.std.proofs.Common.{arith}
use Rattle.std.proofs.lemmas.List.Folds.{length-flat_map-take}
use Rattle.script_records.specs.Values.{value_bytes}
use Rattle.script_records.specs.declared.values.Value.TheVariants.{Of8}
use Rattle.script_records.proofs.values.size.Goals as goal

pub overflow_add-count : goal.overflow_add-count
overflow_add-count c =
    omega (arith, c.size-count.ensures, c.loop-value.invariant, length-flat_map-take value_bytes c.args.values.now c.loop-value.value-index (Of8 0) c.loop-value-test.true)
