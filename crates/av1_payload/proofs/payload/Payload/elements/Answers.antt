use Rattle.std.proofs.Common.{refl}
use Rattle.av1_payload.specs.Seen.{elements_within}
use Rattle.av1_payload.proofs.payload.Payload.elements.Goals as goal

pub returns : goal.returns
unfolding elements_within
returns c = refl
