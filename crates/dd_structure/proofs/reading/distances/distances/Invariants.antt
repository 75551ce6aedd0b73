use Rattle.std.proofs.Common.{◌≡◌, ℕ, ◌-◌, length, take}
use Rattle.dd_bits.specs.Reader.{bits_left}
use Rattle.dd_bits.specs.Sequences.{until_at}
use Rattle.dd_bits.proofs.ReadingLoops.{with_front}
use Rattle.dd_structure.specs.Reading.{next_distance_at, distances_at}
use Rattle.dd_structure.specs.declared.fault.StructureFault.TheVariants.{References}
use Rattle.dd_structure.proofs.reading.distances.distances.Given as goal

abbrev pub invariant-loop-count : goal.invariant-loop-count
invariant-loop-count l = record {
  whole : length l.items ≡ 16;
  reads : with_front (take l.count l.items) (until_at (λ (before : ℕ). next_distance_at) References (16 - l.count) 0 (bits_left l.bits)) ≡ distances_at (bits_left l.fn.bits);
}
