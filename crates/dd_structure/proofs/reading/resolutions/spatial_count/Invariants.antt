use Rattle.std.proofs.Common.{◌≡◌, drop, max}
use Rattle.dd_structure.specs.Reading.{greatest_spatial}
use Rattle.dd_structure.proofs.reading.resolutions.spatial_count.Given as goal

abbrev pub invariant-loop-layer : goal.invariant-loop-layer
invariant-loop-layer l = max l.greatest (greatest_spatial (drop l.layer-index l.layers)) ≡ greatest_spatial l.layers
