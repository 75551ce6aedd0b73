use Rattle.std.proofs.Common.{refl}
use Rattle.leg_switch.specs.FrameNumbers.{number_place}
use Rattle.leg_switch.proofs.MovedDescriptors.{number_shown}
use Rattle.leg_switch.proofs.Bytes.{bytes_are_read}
use Rattle.leg_switch.proofs.laws.frame_numbers_are_read.Goals as goal

pub returns : goal.returns
returns c = λ id packet read force d payload reads shows.
    number_shown id (bytes_are_read id).small packet read force d payload reads shows (number_place id packet) refl
