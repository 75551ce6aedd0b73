-- Which packets taken from a bundle's legs are forwarded, and with which bytes. Own rule, over RTP's fields (RFC 3550, section 5.1). Legs are
-- counted from 1. Lists of events have the newest first; lists of taken or forwarded packets have the oldest first. The code stores none of these
-- lists.
use Rattle.std.specs.Prelude.{◌+◌, ◌-◌, ◌%◌, ◌^◌, ◌==◌, ◌&&◌, ◌||◌, ℕ, List, [], ◌∷◌, ◌++◌, map, Bool, true, false}
use Rattle.std.specs.Prelude.{if◌then◌else◌, Option, None, Some}
use Rattle.rtp_packet.specs.Fields.{marker_of, timestamp_of}
use Rattle.rtp_packet.specs.Restamped.{restamped}
use Rattle.out_ring.specs.Ring.{Pushed}
use Rattle.out_ring.specs.History.{numbered}
use Rattle.leg_switch.specs.Marks.{Marks}

-- a leg was chosen, or this packet was taken from one
pub data LegEvent : Type 0 where
  Chose : (leg : ℕ) → LegEvent
  Took : (leg : ℕ) → (packet : List ℕ) → LegEvent

-- ---- the state of a bundle's switch

pub record Standing : Type 0 where
  pub chosen : ℕ
  pub active : Option ℕ  -- none before the first forwarded packet
  pub offset : ℕ  -- this is added to the timestamps of the active leg
  pub ended : Bool  -- whether the last forwarded packet ended its frame
  pub timestamp : ℕ  -- the timestamp of the last forwarded packet

-- the standing at the beginning: leg 1 is chosen
abbrev pub begun : Standing
begun = record { chosen = 1; active = None; offset = 0; ended = false; timestamp = 0 }

abbrev pub is_active : ℕ → Option ℕ → Bool
is_active leg None = false
is_active leg (Some active) = active == leg

-- another leg may become active: none is active, or the last forwarded packet ended its frame
abbrev pub may_change : Option ℕ → Bool → Bool
may_change None ended = true
may_change (Some active) ended = ended

-- A packet is forwarded if its leg is active, or if its leg is chosen and may become active, and the packet is a key start.
abbrev pub goes_out : Marks → Standing → ℕ → List ℕ → Bool
goes_out marks s leg packet = is_active leg s.active || (s.chosen == leg && (may_change s.active s.ended && marks.key packet))

-- The offset of a leg that becomes active with a packet of this timestamp. It is 0 for the first leg. For a later leg, the offset is such that
-- this packet's timestamp becomes the last forwarded one plus 3,000.
abbrev pub offset_for : Option ℕ → ℕ → ℕ → ℕ
offset_for None last own = 0
offset_for (Some active) last own = (last + 3000 + (2 ^ 32 - own)) % 2 ^ 32

abbrev pub offset_at : Standing → ℕ → List ℕ → ℕ
offset_at s leg packet = if is_active leg s.active then s.offset else offset_for s.active s.timestamp (timestamp_of packet)

-- the timestamp with which the packet is forwarded
abbrev pub timestamp_at : Standing → ℕ → List ℕ → ℕ
timestamp_at s leg packet = (timestamp_of packet + offset_at s leg packet) % 2 ^ 32

abbrev pub after_sent : Marks → Standing → ℕ → List ℕ → Standing
after_sent marks s leg packet =
    record { chosen = s.chosen; active = Some leg; offset = offset_at s leg packet; ended = marks.end packet; timestamp = timestamp_at s leg packet }

abbrev pub after_packet : Marks → Standing → ℕ → List ℕ → Standing
after_packet marks s leg packet = if goes_out marks s leg packet then after_sent marks s leg packet else s

abbrev pub standing : Marks → List LegEvent → Standing
standing marks [] = begun
standing marks (Chose leg ∷ past) = record (standing marks past) { chosen = leg }
standing marks (Took leg packet ∷ past) = after_packet marks (standing marks past) leg packet

-- the timestamp with which the packet is forwarded; none if it is dropped
abbrev pub stamp_of : Marks → Standing → ℕ → List ℕ → Option ℕ
stamp_of marks s leg packet = if goes_out marks s leg packet then Some (timestamp_at s leg packet) else None

-- ---- the forwarded packets

-- the packet with this timestamp and its own marker
abbrev pub stamped : ℕ → List ℕ → Pushed
stamped timestamp packet = record { bytes = restamped timestamp packet; marker = marker_of packet }

-- the forwarded packets before they are numbered
abbrev pub passed : Marks → List LegEvent → List Pushed
passed marks [] = []
passed marks (Chose leg ∷ past) = passed marks past
passed marks (Took leg packet ∷ past) =
    if goes_out marks (standing marks past) leg packet
    then passed marks past ++ stamped (timestamp_at (standing marks past) leg packet) packet ∷ []
    else passed marks past

-- All forwarded packets, whether they were already taken from the bundle or are queued. The i-th packet, counted from 0, has the first number
-- plus i, modulo 65,536, and the bundle's SSRC. Only the number, the SSRC and the timestamp differ from the packet that was taken from the leg.
abbrev pub outgoing : Marks → (first ssrc : ℕ) → List LegEvent → List (List ℕ)
outgoing marks first ssrc events = map (λ packet. packet.bytes) (numbered first ssrc (passed marks events))

-- ---- what was taken

-- the packets that were taken from this leg
abbrev pub taken_from : ℕ → List LegEvent → List (List ℕ)
taken_from leg [] = []
taken_from leg (Chose other ∷ past) = taken_from leg past
taken_from leg (Took other packet ∷ past) = if other == leg then taken_from leg past ++ packet ∷ [] else taken_from leg past
