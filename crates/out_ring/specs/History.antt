-- All pushes and takes since a ring was made, and the ring after them. Own rules. The code stores only the last packets.
use Rattle.std.specs.Prelude.{◌≡◌, ◌≢◌, ◌<◌, ◌≤◌, ◌+◌, ◌%◌, ℕ, List, [], ◌∷◌, ◌++◌, Bool, length, map, take, drop, slice_get}
use Rattle.std.specs.declared.option.Option.TheVariants.{Some}
use Rattle.forwarding_model.specs.Lists.{last_part}
use Rattle.out_ring.specs.Ring.{Pushed, Ring, Sent, sent}

-- how the ring was made, what was pushed (the oldest first), and how many takes returned a packet
pub record History : Type 0 where
  pub ssrc : ℕ
  pub first : ℕ  -- the first sequence number
  pub pushes : List Pushed
  pub takes : ℕ

abbrev pub nothing_done : ℕ → ℕ → History
nothing_done ssrc first = record { ssrc = ssrc; first = first; pushes = []; takes = 0 }

abbrev pub and_push : History → List ℕ → Bool → History
and_push h packet marker = record h { pushes = h.pushes ++ record { bytes = packet; marker = marker } ∷ [] }

abbrev pub and_take : History → History
and_take h = record h { takes = h.takes + 1 }

-- packets with consecutive sequence numbers from n on, modulo 65,536 (RFC 3550, section 5.1), and with this SSRC
abbrev pub numbered : ℕ → ℕ → List Pushed → List Sent
numbered n ssrc [] = []
numbered n ssrc (p ∷ pushes) = sent (n % 65536) ssrc p ∷ numbered (n + 1) ssrc pushes

-- all packets as they are sent, taken or still queued, the oldest first
abbrev pub outgoing : History → List Sent
outgoing h = numbered h.first h.ssrc h.pushes

-- the ring is in the state after this history
pub record IsAfter (ring : Ring) (h : History) : Type 0 where
  pub ssrc : ring.ssrc ≡ h.ssrc
  pub next : ring.next ≡ (h.first + h.takes) % 65536
  pub queued : ring.queued ≡ map (λ packet. packet.bytes) (drop h.takes (outgoing h))
  pub kept : ring.kept ≡ last_part 1024 (take h.takes (outgoing h))
  pub found : h.takes ≤ length h.pushes

-- the take after `place` other takes returns this packet
abbrev pub Gives : History → ℕ → Sent → Type 0
Gives h takes packet = slice_get (outgoing h) takes ≡ Some packet

-- one of the last 1,024 takes returned this packet
abbrev pub GaveLately : History → Sent → Type 0
GaveLately h packet = (takes : ℕ) × (takes < h.takes) × (h.takes ≤ takes + 1024) × Gives h takes packet

-- none of the last 1,024 takes returned a packet with this number
abbrev pub GaveNoneLately : History → ℕ → Type 0
GaveNoneLately h number = (takes : ℕ) (packet : Sent) → takes < h.takes → h.takes ≤ takes + 1024 → Gives h takes packet → packet.number ≢ number
