use Rattle.std.proofs.Common.{◌≡◌, ◌-◌, length, take}
use Rattle.dd_bits.specs.Reader.{bits_left}
use Rattle.dd_bits.specs.Sequences.{until_at}
use Rattle.dd_bits.proofs.ReadingLoops.{with_front}
use Rattle.dd_structure.specs.Reading.{next_layer_at, layers_at}
use Rattle.dd_structure.specs.declared.fault.StructureFault.TheVariants.{Templates}
use Rattle.dd_structure.proofs.reading.layers.fill_layers.Given as goal

abbrev pub invariant-loop-count : goal.invariant-loop-count
invariant-loop-count l = record {
  whole : length l.out ≡ 64;
  reads : with_front (take l.count l.out) (until_at next_layer_at Templates (64 - l.count) l.before (bits_left l.bits)) ≡ layers_at (bits_left l.fn.bits);
}
