-- What the project's own readers read from a packet of a trial's stream. They read its RTP header (RFC 3550, section 5.1), and the
-- element with id 4 of its header extension (RFC 8285). In that element they read the first three bytes of the dependency descriptor
-- (RTP Payload Format For AV1 v1.0, Appendix A). The definition of the stream concatenates bytes; these readers parse them.
use Rattle.std.specs.Prelude.{◌≡◌, ℕ, ◌%◌, ◌^◌, ◌&&◌, Bool, List, None, Some, Ok}
use Rattle.dd_bits.specs.Bits.{bits_of_bytes}
use Rattle.dd_descriptor.specs.Reading.{head_at}
use Rattle.packet_format.specs.Formats.{element_of}
use Rattle.rtp_packet.specs.Fields.{marker_of, sequence_of, ssrc_of}
use Rattle.rtp_packet.specs.Faults.{first_fault}
use Rattle.stream_maker.specs.declared.place.Place.{Place}
use Rattle.stream_maker.specs.Bytes.{ends_frame, starts_frame, template_of}
use Rattle.stream_maker.specs.Packets.{is_upper}

pub record SaysPlace (p : Place) (bytes : List ℕ) : Type 0 where
  pub is_rtp : first_fault bytes ≡ None
  pub sequence : sequence_of bytes ≡ p.sequence % 2 ^ 16
  pub ssrc : ssrc_of bytes ≡ 0x11111111
  pub marker : marker_of bytes ≡ (is_upper p.frame && ends_frame p)
  pub descriptor : List ℕ
  pub element : element_of 4 bytes ≡ Some descriptor
  pub behind : List Bool
  pub head : head_at (bits_of_bytes descriptor)
      ≡ Ok (record { start = starts_frame p; end = ends_frame p; template = template_of p.frame; number = p.frame % 2 ^ 16 }, behind)
