use Rattle.sfu_script.proofs.Filled.{bytes_found, bytes_again}
use Rattle.sfu_script.proofs.laws.reads_exactly_the_packets.Goals as goal

pub returns : goal.returns
returns c = λ bytes line. (bytes_found line bytes, bytes_again line bytes)
