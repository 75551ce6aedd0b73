-- From the fields and the first fault to the grammar.
use Rattle.std.proofs.Common.{◌≡◌, ℕ, List, Result, Ok, Err, IfOk, IfErr, Some, None, sym, subst}
use Rattle.sfu_base.specs.declared.call.RtpFault.{RtpFault}
use Rattle.rtp_packet.specs.declared.packet.Rtp.{Rtp}
use Rattle.rtp_packet.specs.Faults.{first_fault}
use Rattle.sfu_base.specs.Bytes.{AreBytes}
use Rattle.rtp_packet.specs.Packet.{IsPacket, Packet, packet_of}
use Rattle.rtp_packet.specs.Seen.{parts}
use Rattle.rtp_packet.proofs.Found.{packet_found}
use Rattle.rtp_packet.proofs.Taken.{faulty_is_none}

pub found_from : (bytes : List ℕ) (r : Result Rtp RtpFault) → AreBytes bytes → IfOk r (λ x. parts x ≡ packet_of bytes)
    → IfOk r (λ _. first_fault bytes ≡ None) → IfOk r (λ x. IsPacket bytes (parts x))
found_from bytes (Ok x) fits fields none = subst (IsPacket bytes) (sym fields) (packet_found bytes fits none)
found_from bytes (Err e) fits fields none = tt

pub none_from : (bytes : List ℕ) (r : Result Rtp RtpFault) → IfErr r (λ e. first_fault bytes ≡ Some e)
    → IfErr r (λ _. (p : Packet) → IsPacket bytes p → ⊥)
none_from bytes (Ok x) faulty = tt
none_from bytes (Err e) faulty = λ p is. faulty_is_none bytes e p faulty is
