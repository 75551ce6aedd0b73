-- Laws of the definitions of `Switching`. Own statements.
use Rattle.std.specs.Prelude.{◌≡◌, ◌+◌, ◌%◌, ◌<◌, ◌^◌, ◌++◌, ℕ, List, [], ◌∷◌, map, true, false, Option, None, Some}
use Rattle.dd_structure.specs.TemplateStructure.{TemplateStructure}
use Rattle.forwarding_model.specs.Receiver.{complaint}
use Rattle.forwarding_model.specs.forwarding.Timeline.{Packet}
use Rattle.forwarding_model.specs.frames.Reading.{Descriptor, Payload, shown}
use Rattle.forwarding_model.specs.frames.Reading.Showing.{Shows}
use Rattle.rtp_packet.specs.Faults.{first_fault}
use Rattle.packet_format.specs.Formats.{format_of}
use Rattle.packet_format.specs.Packets.{read_packet}
use Rattle.leg_switch.specs.Marks.{Marks, marks_of}
use Rattle.leg_switch.specs.FrameNumbers.{frame_number_of, outgoing_renumbered, renumbered}
use Rattle.leg_switch.specs.Switching.{LegEvent, goes_out, is_active, offset_for, outgoing, standing, taken_from}
use Rattle.leg_switch.specs.Switching.LegEvent.{Chose, Took}

-- ---- a strict receiver

-- A strict receiver has no complaint about these packets of a track whose descriptors have this header extension id.
abbrev pub IsPleased : ℕ → List (List ℕ) → Type 0
IsPleased id packets = complaint (format_of id) (map read_packet packets) ≡ None

-- If a strict receiver has no complaint about the packets taken from each leg, before and after the bundle was made, it has none about any prefix
-- of the forwarded packets.
abbrev pub BundlesPlease : Type 0
BundlesPlease = (id first ssrc : ℕ) (before : ℕ → List (List ℕ)) (events : List LegEvent) → ssrc < 2 ^ 32
    → ((leg : ℕ) → IsPleased id (before leg ++ taken_from leg events))
    → (sends queued : List (List ℕ)) → sends ++ queued ≡ outgoing (marks_of id) first ssrc events → IsPleased id sends

-- The same law for a bundle whose frame numbers continue.
abbrev pub RenumberedBundlesPlease : Type 0
RenumberedBundlesPlease = (id first ssrc : ℕ) (before : ℕ → List (List ℕ)) (events : List LegEvent) → ssrc < 2 ^ 32
    → ((leg : ℕ) → IsPleased id (before leg ++ taken_from leg events))
    → (sends queued : List (List ℕ)) → sends ++ queued ≡ outgoing_renumbered (marks_of id) id first ssrc events → IsPleased id sends

-- ---- changes of leg

-- A key start of the chosen leg is forwarded if the last packet taken from the active leg ended its frame. Nothing else prevents the change of
-- leg.
abbrev pub KeyStartsGoOut : Type 0
KeyStartsGoOut = (marks : Marks) (events : List LegEvent) (active chosen : ℕ) (front : List (List ℕ)) (last key : List ℕ)
    → (standing marks events).active ≡ Some active → (standing marks events).chosen ≡ chosen
    → taken_from active events ≡ front ++ last ∷ [] → marks.end last ≡ true → marks.key key ≡ true
    → goes_out marks (standing marks events) chosen key ≡ true

-- A leg that becomes active after another continues at the last timestamp plus 3,000, modulo 2^32.
abbrev pub ChangesStep : Type 0
ChangesStep = (active last own : ℕ) → own < 2 ^ 32 → (own + offset_for (Some active) last own) % 2 ^ 32 ≡ (last + 3000) % 2 ^ 32

-- ---- frame numbers that continue

-- The frame number of a packet is the one that a track or a receiver reads: the frame_number of the packet's descriptor, read with the
-- structure in force.
abbrev pub FrameNumbersAreRead : Type 0
FrameNumbersAreRead = (id : ℕ) (packet : List ℕ) (read : Packet) (force : Option TemplateStructure) (d : Descriptor TemplateStructure) (payload : Payload)
    → read_packet packet ≡ Some read → shown (format_of id) force read.rest ≡ Shows d payload → frame_number_of id packet ≡ Some d.number

-- the packets that were taken are RTP packets
abbrev pub AreRtp : List LegEvent → Type 0
AreRtp [] = Unit {0}
AreRtp (Chose leg ∷ past) = AreRtp past
AreRtp (Took leg packet ∷ past) = (first_fault packet ≡ None) × AreRtp past

-- one more packet is forwarded, and its frame number is that of the packet before it plus 1, modulo 65,536
pub record GoesOn (id : ℕ) (before now : List (List ℕ)) : Type 0 where
  pub front : List (List ℕ)
  pub last : List ℕ
  pub key : List ℕ
  pub number : ℕ
  pub before_is : before ≡ front ++ last ∷ []
  pub now_is : now ≡ before ++ key ∷ []
  pub last_number : frame_number_of id last ≡ Some number
  pub key_number : frame_number_of id key ≡ Some ((number + 1) % 65536)

-- When a leg becomes active after another leg, the frame numbers continue: they rise by 1, so the new number counts as above the old one modulo 65,536.
abbrev pub NumbersGoOn : Type 0
NumbersGoOn = (id first ssrc : ℕ) (past : List LegEvent) (leg active : ℕ) (packet : List ℕ) → AreRtp (Took leg packet ∷ past)
    → (standing (marks_of id) past).active ≡ Some active → is_active leg (Some active) ≡ false
    → goes_out (marks_of id) (standing (marks_of id) past) leg packet ≡ true
    → GoesOn id (outgoing_renumbered (marks_of id) id first ssrc past) (outgoing_renumbered (marks_of id) id first ssrc (Took leg packet ∷ past))

-- packet by packet, the lists differ only in the two bytes of the frame numbers
abbrev pub DifferInNumbers : ℕ → List (List ℕ) → List (List ℕ) → Type 0
DifferInNumbers id [] [] = Unit {0}
DifferInNumbers id [] (other ∷ others) = ⊥
DifferInNumbers id (packet ∷ packets) [] = ⊥
DifferInNumbers id (packet ∷ packets) (other ∷ others) = ((number : ℕ) × (other ≡ renumbered id number packet)) × DifferInNumbers id packets others

-- A bundle whose frame numbers continue forwards the packets that it would forward otherwise, except for their frame numbers.
abbrev pub OnlyNumbersDiffer : Type 0
OnlyNumbersDiffer = (id first ssrc : ℕ) (events : List LegEvent) → AreRtp events
    → DifferInNumbers id (outgoing (marks_of id) first ssrc events) (outgoing_renumbered (marks_of id) id first ssrc events)

-- ---- growth

-- The forwarded packets only grow: whatever happens, they are a prefix of the packets forwarded by any later time.
abbrev pub OutgoingGrows : Type 0
OutgoingGrows = (marks : Marks) (first ssrc : ℕ) (later events : List LegEvent)
    → (more : List (List ℕ)) × (outgoing marks first ssrc (later ++ events) ≡ outgoing marks first ssrc events ++ more)

abbrev pub RenumberedGrows : Type 0
RenumberedGrows = (marks : Marks) (id first ssrc : ℕ) (later events : List LegEvent)
    → (more : List (List ℕ)) × (outgoing_renumbered marks id first ssrc (later ++ events) ≡ outgoing_renumbered marks id first ssrc events ++ more)
