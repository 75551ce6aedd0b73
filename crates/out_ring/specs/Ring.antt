-- What contracts see of the packets that are sent to a subscriber, and how each call changes this value. Own rules, over RTP's fields (RFC
-- 3550, section 5.1). The code has slots for packets as they were pushed. A packet's number follows from its place.
use Rattle.std.specs.Prelude.{◌≡◌, ◌+◌, ◌%◌, ◌==◌, ℕ, List, [], ◌∷◌, ◌++◌, Bool, Result, Ok, Err, length}
use Rattle.std.specs.List.{find}
use Rattle.std.specs.declared.option.Option.{Option}
use Rattle.std.specs.declared.option.Option.TheVariants.{None, Some}
use Rattle.sfu_base.specs.declared.call.Refusal.{Refusal}
use Rattle.sfu_base.specs.declared.call.Refusal.TheVariants.{Empty, NotKept}
use Rattle.rtp_packet.specs.Rewritten.{rewritten}
use Rattle.forwarding_model.specs.Lists.{last_part}

-- a packet as it was pushed, and the marker with which it is sent
pub record Pushed : Type 0 where
  pub bytes : List ℕ
  pub marker : Bool

-- a packet as it is sent, and its sequence number
pub record Sent : Type 0 where
  pub number : ℕ
  pub bytes : List ℕ

-- the packet with this sequence number and SSRC and its marker; no other bit is changed
abbrev pub sent : ℕ → ℕ → Pushed → Sent
sent number ssrc p = record { number = number; bytes = rewritten number ssrc p.marker p.bytes }

pub record Ring : Type 0 where
  pub ssrc : ℕ
  pub next : ℕ  -- the sequence number of the first packet that wasn't taken
  pub queued : List (List ℕ)  -- the packets that weren't taken, the oldest first
  pub kept : List Sent  -- the last 1,024 packets that were taken, the oldest first

-- a ring with no queued and no kept packets
abbrev pub begun : ℕ → ℕ → Ring
begun ssrc first = record { ssrc = ssrc; next = first; queued = []; kept = [] }

-- the sequence number of the next packet that is queued
abbrev pub next_queued : Ring → ℕ
next_queued ring = (ring.next + length ring.queued) % 65536

-- the ring after a packet was appended to the queue
abbrev pub pushed : List ℕ → Bool → Ring → Ring
pushed packet marker ring = record ring { queued = ring.queued ++ rewritten (next_queued ring) ring.ssrc marker packet ∷ [] }

-- the ring after the oldest queued packet was taken and these packets are left
abbrev pub taken : Ring → List ℕ → List (List ℕ) → Ring
taken ring packet rest = record {
  ssrc = ring.ssrc;
  next = (ring.next + 1) % 65536;
  queued = rest;
  kept = last_part 1024 (ring.kept ++ record { number = ring.next; bytes = packet } ∷ []);
}

-- The oldest queued packet is taken. If none is queued, nothing changes.
abbrev pub TakesFrom : List (List ℕ) → Ring → Ring → Result ℕ Refusal → List ℕ → List ℕ → Type 0
TakesFrom [] old new result before bytes = (result ≡ Err Empty) × (new ≡ old) × (bytes ≡ before)
TakesFrom (packet ∷ rest) old new result before bytes = (result ≡ Ok old.next) × (new ≡ taken old packet rest) × (bytes ≡ packet)

abbrev pub Takes : Ring → Ring → Result ℕ Refusal → List ℕ → List ℕ → Type 0
Takes old new result before bytes = TakesFrom old.queued old new result before bytes

-- the sequence number of the oldest kept packet, or of the next take if none is kept
abbrev pub oldest_in : List Sent → ℕ → ℕ
oldest_in [] next = next
oldest_in (packet ∷ kept) next = packet.number

-- The kept packet is returned. If no kept packet has the number, nothing changes.
abbrev pub ResendsIt : Option Sent → Ring → Result (Unit {0}) Refusal → List ℕ → List ℕ → Type 0
ResendsIt None ring result before bytes = (result ≡ Err (NotKept (oldest_in ring.kept ring.next) ring.next)) × (bytes ≡ before)
ResendsIt (Some packet) ring result before bytes = (result ≡ Ok tt) × (bytes ≡ packet.bytes)

abbrev pub Resends : Ring → ℕ → Result (Unit {0}) Refusal → List ℕ → List ℕ → Type 0
Resends ring n result before bytes = ResendsIt (find (λ packet. packet.number == n) ring.kept) ring result before bytes
