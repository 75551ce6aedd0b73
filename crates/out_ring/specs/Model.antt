-- A ring is the queue and the store that a subscriber has in the forwarding model. Own statements. A packet of the model has a sequence number,
-- an SSRC, a marker and a rest. A push to a ring has bytes and a marker.
use Rattle.std.specs.Prelude.{◌≡◌, ◌==◌, ℕ, List, [], ◌∷◌, Bool, map}
use Rattle.std.specs.List.{find}
use Rattle.std.specs.Option.{option_map}
use Rattle.rtp_packet.specs.Rewritten.{rewritten}
use Rattle.forwarding_model.specs.forwarding.Timeline.{Packet, Event, takes_of}
use Rattle.forwarding_model.specs.forwarding.Outgoing.{Sender, Subscriber, forwarded, kept, next_number, oldest_number, queue, resent}
use Rattle.out_ring.specs.Ring.{Pushed, Ring, Sent, oldest_in}
use Rattle.out_ring.specs.History.{History, IsAfter}

-- the bytes of a packet of the model: its rest with its sequence number, SSRC and marker (RFC 3550, section 5.1)
abbrev pub bytes_of : Packet → List ℕ
bytes_of packet = rewritten packet.sequence_number packet.ssrc packet.marker packet.rest

abbrev pub sent_of : Packet → Sent
sent_of packet = record { number = packet.sequence_number; bytes = bytes_of packet }

-- what was pushed is the model's packet: it has the same marker, and is sent with the same bytes for each sequence number
pub record IsPushOf (p : Pushed) (packet : Packet) : Type 0 where
  pub marker : p.marker ≡ packet.marker
  pub bytes : (number ssrc : ℕ) (marker : Bool) → rewritten number ssrc marker p.bytes ≡ rewritten number ssrc marker packet.rest

-- each push is that of the model's packet at the same place, and there are equally many pushes and packets
abbrev pub ArePushesOf : List Pushed → List Packet → Type 0
ArePushesOf [] [] = Unit {0}
ArePushesOf [] (packet ∷ packets) = ⊥
ArePushesOf (p ∷ pushes) [] = ⊥
ArePushesOf (p ∷ pushes) (packet ∷ packets) = IsPushOf p packet × ArePushesOf pushes packets

-- exactly the packets forwarded to this subscriber were pushed, and the number of takes is that of the subscriber
pub record IsHistoryOf {S : Type 0} (h : History) (send : Sender S) (to : Subscriber) (events : List (Event S)) : Type 0 where
  pub ssrc : h.ssrc ≡ to.ssrc
  pub first : h.first ≡ to.first
  pub pushes : ArePushesOf h.pushes (forwarded send to.wish events)
  pub takes : h.takes ≡ takes_of events

-- the ring has the subscriber's queue, kept packets and numbers, and finds a kept packet exactly if the model does
pub record IsStoreOf {S : Type 0} (ring : Ring) (send : Sender S) (to : Subscriber) (events : List (Event S)) : Type 0 where
  pub ssrc : ring.ssrc ≡ to.ssrc
  pub next : ring.next ≡ next_number send to events
  pub queued : ring.queued ≡ map bytes_of (queue send to events)
  pub kept : ring.kept ≡ map sent_of (kept send to events)
  pub oldest : oldest_in ring.kept ring.next ≡ oldest_number send to events
  pub found : (n : ℕ) → find (λ packet. packet.number == n) ring.kept ≡ option_map sent_of (resent send to events n)

-- if the accepted calls on a ring are those of a subscriber's timeline, the ring is the subscriber's queue and store
abbrev pub StoresWhatGoesOut : Type 0 → Type 0
StoresWhatGoesOut S = (send : Sender S) (to : Subscriber) (events : List (Event S)) (ring : Ring) (h : History) → IsAfter ring h → IsHistoryOf h send to events
    → IsStoreOf ring send to events
