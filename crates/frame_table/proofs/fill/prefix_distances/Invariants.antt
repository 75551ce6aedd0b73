use Rattle.std.proofs.Common.{◌≡◌, length, take}
use Rattle.frame_table.proofs.Fronts.{front}
use Rattle.frame_table.proofs.fill.prefix_distances.Given as goal

abbrev pub invariant-loop-place : goal.invariant-loop-place
invariant-loop-place l = record { whole : length l.out ≡ 16; done : take l.place l.out ≡ take l.place (front 16 0 l.count l.row) }
