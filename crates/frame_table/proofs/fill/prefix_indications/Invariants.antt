use Rattle.std.proofs.Common.{◌≡◌, length, take}
use Rattle.sfu_base.specs.declared.frame.Dti.TheVariants.{NotPresent}
use Rattle.frame_table.proofs.Fronts.{front}
use Rattle.frame_table.proofs.fill.prefix_indications.Given as goal

abbrev pub invariant-loop-place : goal.invariant-loop-place
invariant-loop-place l = record { whole : length l.out ≡ 32; done : take l.place l.out ≡ take l.place (front 32 NotPresent l.count l.row) }
