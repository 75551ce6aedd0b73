use Rattle.std.proofs.Common.{arith}
use Rattle.rtp_packet.proofs.Faultless.{header_there}
use Rattle.room_core.proofs.sending.own_marker.Goals as goal

pub bounds-packet-1 : goal.bounds-packet-1
bounds-packet-1 c = omega (arith, header_there c.args.packet.now c.requires)
