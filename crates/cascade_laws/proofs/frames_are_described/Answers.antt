use Rattle.cascade_laws.proofs.Described.{frames_are_described as proved}
use Rattle.cascade_laws.proofs.frames_are_described.Goals as goal

pub returns : goal.returns
returns g c = λ format items facts. proved format items facts
