use Rattle.command_laws.proofs.MadePackets.{made_says}
use Rattle.command_laws.proofs.laws.made_packets_say_their_places.Goals as goal

pub returns : goal.returns
returns c = made_says
