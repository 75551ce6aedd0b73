-- The parts that the reader returns, as the contents of a packet.
use Rattle.rtp_packet.specs.declared.packet.Rtp.{Rtp}
use Rattle.rtp_packet.specs.Packet.{Packet}

-- the contents of a packet's parts, without their place in memory
abbrev pub parts : Rtp → Packet
parts r = record {
  marker = r.marker;
  payload_type = r.payload_type;
  sequence = r.seq;
  timestamp = r.timestamp;
  ssrc = r.ssrc;
  profile = r.profile;
  block = r.block.now;
  payload = r.payload.now;
}
