use Rattle.std.proofs.Common.{◌≡◌, ◌++◌, drop}
use Rattle.std.specs.List.{flat_map}
use Rattle.dd_bits.specs.Numbers.{non_symmetric_bits}
use Rattle.dd_bits.specs.Writer.{written}
use Rattle.dd_structure.proofs.writing.chains.put_guards.Given as goal

abbrev pub invariant-loop-guard : goal.invariant-loop-guard
invariant-loop-guard l = written l.out ++ flat_map (non_symmetric_bits l.chains) (drop l.guard-index l.guards) ≡ written l.fn.out ++ flat_map (non_symmetric_bits l.chains) l.guards
