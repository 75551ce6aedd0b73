use Rattle.cascade_laws.proofs.HandedOn.{handed_on_frames_pass as proved}
use Rattle.cascade_laws.proofs.handed_on_frames_pass.Goals as goal

pub returns : goal.returns
returns g c = λ by target now wish since past x second_wish second_since second_past y h. proved by target now wish since past x second_wish second_since second_past y h
