use Rattle.forwarding_laws.proofs.Decoding.{all_decodable}
use Rattle.forwarding_laws.proofs.forwarding.passed_frames_are_decodable.Goals as goal

pub returns : goal.returns
returns g c = all_decodable
