use Rattle.room_core.proofs.Opened.{frames_open}
use Rattle.room_core.proofs.laws.frames_open_their_targets.Goals as goal

pub returns : goal.returns
returns c = frames_open
