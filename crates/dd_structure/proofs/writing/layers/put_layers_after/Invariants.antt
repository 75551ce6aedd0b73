use Rattle.std.proofs.Common.{◌≡◌, ◌++◌, drop}
use Rattle.dd_bits.specs.Bits.{bits_of}
use Rattle.dd_bits.specs.Sequences.{until_spelled}
use Rattle.dd_bits.specs.Writer.{written}
use Rattle.dd_structure.specs.Spelling.{layer_bits}
use Rattle.dd_structure.proofs.writing.layers.put_layers_after.Given as goal

abbrev pub invariant-loop-layer : goal.invariant-loop-layer
invariant-loop-layer l = written l.out ++ until_spelled layer_bits (bits_of 2 3) l.before (drop l.layer-index l.layers) ≡ written l.fn.out ++ until_spelled layer_bits (bits_of 2 3) l.fn.first l.layers
