-- The reason why a packet isn't wrapped for a retransmission stream, or unwrapped: the first one that applies here. Own rule.
use Rattle.std.specs.Prelude.{ℕ, nat_le, nat_lt, if◌then◌else◌, List, length, Option, Some}
use Rattle.std.specs.Option.{option_map}
use Rattle.sfu_base.specs.declared.call.Refusal.TheVariants.{Unreadable}
use Rattle.sfu_base.specs.declared.call.RtpFault.{RtpFault}
use Rattle.rtp_packet.specs.Faults.{first_fault}
use Rattle.rtx_stream.specs.Faults.{unwrap_fault}
use Rattle.rtx_stream.specs.declared.fault.RtxFault.{RtxFault}
use Rattle.rtx_stream.specs.declared.fault.RtxFault.TheVariants as rtx
use Rattle.room_c.specs.declared.code.Code.TheVariants as code
use Rattle.room_c.specs.declared.plain_reply.PlainReply.{PlainReply}
use Rattle.room_c.specs.Numbers.{bare_of, one_of, plain_refusal}

-- the buffer is too small, the packet has more than `most` bytes, or the payload type has more than seven bits; otherwise `other`
abbrev pub refused_first : (space most : ℕ) → List ℕ → ℕ → Option PlainReply → Option PlainReply
refused_first space most bytes payload_type other =
    if nat_lt space 2048 then Some (bare_of code.NoSpace) else
    if nat_lt most (length bytes) then Some (bare_of code.TooLong) else
    if nat_le 128 payload_type then Some (bare_of code.BadStream) else
    other

abbrev pub refused_fault : RtpFault → PlainReply
refused_fault fault = plain_refusal (Unreadable fault)

abbrev pub refused_rtx : RtxFault → PlainReply
refused_rtx (rtx.Unreadable fault) = refused_fault fault
refused_rtx rtx.Cut = one_of code.Unreadable 5

abbrev pub wrap_refusal : ℕ → List ℕ → ℕ → Option PlainReply
wrap_refusal space bytes payload_type = refused_first space 2046 bytes payload_type (option_map refused_fault (first_fault bytes))

abbrev pub unwrap_refusal : ℕ → List ℕ → ℕ → Option PlainReply
unwrap_refusal space bytes payload_type = refused_first space 2048 bytes payload_type (option_map refused_rtx (unwrap_fault bytes))
