use Rattle.std.proofs.lemmas.Result.{err_from_is_err_and}
use Rattle.dd_bits.specs.Bits.{bits_of}
use Rattle.dd_bits.proofs.WritingLoops.{until_past_capacity, until_end, puts_from}
use Rattle.dd_structure.specs.TemplateStructure.{first_layer}
use Rattle.dd_structure.specs.Spelling.{layer_bits}
use Rattle.dd_structure.proofs.writing.layers.put_layers_after.Goals as goal

pub returns-in_err-put : goal.returns-in_err-put
returns-in_err-put c =
    let p = err_from_is_err_and c.from_residual.result c.from_residual.ensures.1 in
    rw p.1 (until_past_capacity layer_bits (bits_of 2 3) _ _ c.loop-layer.layer-index first_layer _ _ _ c.loop-layer-test.true c.loop-layer.invariant (rw c.code_of.ensures.value at c.in_err-put.ensures.put))

pub returns : goal.returns
returns c = puts_from _ _ _ _ _ _ c.put-2.ensures.put (until_end layer_bits (bits_of 2 3) _ _ c.loop-layer.layer-index _ _ c.loop-layer-test.false c.loop-layer.invariant)
