use Rattle.packet_format.specs.Formats.{format_of}
use Rattle.packet_format.specs.Packets.{read_packet}
use Rattle.leg_switch.specs.Marks.{marks_of}
use Rattle.leg_switch.proofs.Bytes.{bytes_are_read}
use Rattle.leg_switch.proofs.Pleasing.{fronts_please}
use Rattle.leg_switch.proofs.Sendings.{is_renumbered, renumbered_sending}
use Rattle.leg_switch.proofs.laws.renumbered_bundles_please_receivers.Goals as goal

pub returns : goal.returns
returns c = λ id first ssrc before events fits calm sends queued e.
    fronts_please (format_of id) read_packet (marks_of id) (bytes_are_read id) (renumbered_sending (marks_of id) id) (is_renumbered id)
    first ssrc fits before events calm sends queued e
