-- The bytes that can be sent as a packet: they are valid RTP (RFC 3550, section 5.1), and at most 1,536 bytes (own rule).
use Rattle.std.specs.Prelude.{◌≡◌, ◌≤◌, ℕ, List, None, length}
use Rattle.rtp_packet.specs.Faults.{first_fault}

pub record IsSendable (bytes : List ℕ) : Type 0 where
  pub reads : first_fault bytes ≡ None
  pub fits : length bytes ≤ 1536
