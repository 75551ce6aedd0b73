-- What a strict receiver without a complaint has received, in words: one source, consecutive numbers, whole frames, every reference. Own
-- statements, over RFC 3550, section 5.1, and AV1 RTP payload format, section 4.4 and Appendix A. A receiver that never complains would fulfil
-- the laws on forwarded packets, but not these. The code keeps none of these lists.
use Rattle.std.specs.Prelude.{◌≡◌, ◌⊎◌, ◌+◌, ◌%◌, ◌&&◌, ℕ, List, [], ◌∷◌, ◌++◌, Bool, true, false, if◌then◌else◌, nat_lt, length, map}
use Rattle.std.specs.List.{AllByRecursion}
use Rattle.std.specs.declared.option.Option.{Option}
use Rattle.std.specs.declared.option.Option.TheVariants.{None, Some}
use Rattle.forwarding_model.specs.declared.complaint.Complaint.{Complaint}
use Rattle.forwarding_model.specs.Lists.{IsMember}
use Rattle.forwarding_model.specs.forwarding.Timeline.{Packet}
use Rattle.forwarding_model.specs.forwarding.Outgoing.{AreConsecutive}
use Rattle.forwarding_model.specs.frames.Reading.{Format, is_key_start, referred_distances, shown}
use Rattle.forwarding_model.specs.frames.Reading.Payload.{Elements}
use Rattle.forwarding_model.specs.frames.Reading.Showing.{Shows}
use Rattle.forwarding_model.specs.frames.Cuts.{Part, IsWholeCut, IsUnfinishedCut}
use Rattle.forwarding_model.specs.frames.Frames.{ReadPacket, packet_of}
use Rattle.forwarding_model.specs.Receiver.{structure_after, complaint, frames_accepted, packets_accepted}
use Rattle.forwarding_model.specs.Receiver.Receiver.{Waiting}

-- a whole frame that was received: its unwrapped number, and its parts, the oldest first
pub record ReceivedFrame (S : Type 0) : Type 0 where
  pub number : ℕ
  pub first : Part (ReadPacket S)
  pub more : List (Part (ReadPacket S))

abbrev pub is_key_frame : {S : Type 0} → ReceivedFrame S → Bool
is_key_frame x = is_key_start x.first.brings.descriptor

abbrev pub references_of : {S : Type 0} → ReceivedFrame S → List ℕ
references_of x = referred_distances x.first.brings.descriptor

-- lists of received frames have the newest first, and packets the oldest first
abbrev pub packets_of : {S : Type 0} → List (ReceivedFrame S) → List Packet
packets_of [] = []
packets_of (x ∷ past) = packets_of past ++ map packet_of (x.first ∷ x.more)

-- the structure in force after these frames: that of the newest key frame
abbrev pub structure_in : {S : Type 0} → List (ReceivedFrame S) → Option S
structure_in [] = None
structure_in (x ∷ past) = structure_after (structure_in past) x.first.brings.descriptor

-- the packet of the part, read with this structure in force, has the contents of the part
pub record IsReadAs {S : Type 0} (format : Format S) (force : Option S) (part : Part (ReadPacket S)) : Type 0 where
  pub reads : shown format force part.brings.packet.rest
      ≡ Shows part.brings.descriptor (Elements (record { continues = part.continues; carries = part.carries }))
  pub start : part.start ≡ part.brings.descriptor.start
  pub end : part.end ≡ part.brings.descriptor.end
  pub number : part.number ≡ part.brings.descriptor.number

-- one of these frames has the number that is d below n
abbrev pub IsThere : {S : Type 0} → List (ReceivedFrame S) → ℕ → ℕ → Type 0
IsThere frames n d = (g : ReceivedFrame _) × IsMember g frames × (g.number + d ≡ n)

-- n is above the number of the newest of these frames, but by less than 32,768
abbrev pub is_next_to : {S : Type 0} → List (ReceivedFrame S) → ℕ → Bool
is_next_to [] n = false
is_next_to (g ∷ past) n = nat_lt g.number n && nat_lt n (g.number + 32768)

-- the frames that still count as received when the next frame comes: none if that frame is a key frame, or if its number isn't next to the
-- newest
abbrev pub counting : {S : Type 0} → (is_key is_next : Bool) → List (ReceivedFrame S) → List (ReceivedFrame S)
counting is_key is_next frames = if is_key then [] else (if is_next then frames else [])

-- the frames that count as received
abbrev pub counted : {S : Type 0} → List (ReceivedFrame S) → List (ReceivedFrame S)
counted [] = []
counted (x ∷ past) = x ∷ counting (is_key_frame x) (is_next_to past x.number) (counted past)

-- no number that equals n modulo 65,536 is next to the newest
abbrev pub NoneIsNextTo : {S : Type 0} → List (ReceivedFrame S) → ℕ → Type 0
NoneIsNextTo past n = (m : ℕ) → m % 65536 ≡ n % 65536 → is_next_to past m ≡ false

-- x is a whole frame with its number, read with the structure in force, and all its references count as received when it comes
pub record IsReceived {S : Type 0} (format : Format S) (past : List (ReceivedFrame S)) (x : ReceivedFrame S) : Type 0 where
  pub first : IsReadAs format (structure_in past) x.first
  pub more : AllByRecursion (IsReadAs format (structure_in (x ∷ past))) x.more
  pub whole : IsWholeCut (x.first ∷ x.more)
  pub numbered : x.number % 65536 ≡ x.first.number % 65536
  pub placed : (is_key_frame x ≡ true) ⊎ (is_next_to past x.number ≡ true) ⊎ NoneIsNextTo past x.number
  pub references : AllByRecursion (IsThere (counting (is_key_frame x) (is_next_to past x.number) (counted past)) x.number) (references_of x)

abbrev pub AreReceived : {S : Type 0} → Format S → List (ReceivedFrame S) → Type 0
AreReceived format [] = Unit {0}
AreReceived format (x ∷ past) = IsReceived format past x × AreReceived format past

-- the parts of one frame, which begins when this structure is in force
abbrev pub AreReadAs : {S : Type 0} → Format S → Option S → List (Part (ReadPacket S)) → Type 0
AreReadAs format force [] = Unit {0}
AreReadAs format force (first ∷ more) =
    IsReadAs format force first × AllByRecursion (IsReadAs format (structure_after force first.brings.descriptor)) more

abbrev pub HaveOneSource : List Packet → Type 0
HaveOneSource [] = Unit {0}
HaveOneSource (p ∷ ps) = AllByRecursion (λ q. q.ssrc ≡ p.ssrc) ps

-- the packets are whole frames, one after another, perhaps followed by the first packets of another frame
pub record AreAccepted {S : Type 0} (format : Format S) (packets : List Packet) : Type 0 where
  pub frames : List (ReceivedFrame S)
  pub rest : List (Part (ReadPacket S))
  pub laid : packets ≡ packets_of frames ++ map packet_of rest
  pub received : AreReceived format frames
  pub read : AreReadAs format (structure_in frames) rest
  pub begun : (rest ≡ []) ⊎ IsUnfinishedCut rest
  pub source : HaveOneSource packets
  pub numbers : AreConsecutive packets

-- if a strict receiver has no complaint about packets, they are accepted in this sense
abbrev pub NoComplaintAccepts : Type 0 → Type 0
NoComplaintAccepts S = (format : Format S) (packets : List Packet) → complaint format (map Some packets) ≡ None → AreAccepted format packets

-- a strict receiver has no complaint about packets that are accepted in this sense
abbrev pub AcceptedIsNotComplainedOf : Type 0 → Type 0
AcceptedIsNotComplainedOf S = (format : Format S) (packets : List Packet)
    → AreAccepted format packets → complaint format (map Some packets) ≡ None

-- a strict receiver always complains about bytes that aren't RTP: if it has no complaint, all of the input is packets
abbrev pub NoComplaintIsOfPackets : Type 0 → Type 0
NoComplaintIsOfPackets S = (format : Format S) (came : List (Option Packet))
    → complaint format came ≡ None → (packets : List Packet) × (came ≡ map Some packets)

-- ---- how much was accepted, and the place of a complaint

-- a strict receiver without a complaint has accepted all of the input
abbrev pub CountsAreWhole : Type 0 → Type 0
CountsAreWhole S = (format : Format S) (came : List (Option Packet))
    → complaint format came ≡ None → packets_accepted format Waiting came ≡ length came

-- for packets that are accepted in this sense, a strict receiver counts the frames that `AreAccepted` has; if there is a complaint,
-- `IsComplaintOf` says which frames it counts
abbrev pub FramesAreCounted : Type 0 → Type 0
FramesAreCounted S = (format : Format S) (packets : List Packet) (a : AreAccepted format packets)
    → frames_accepted format Waiting (map Some packets) ≡ length a.frames

-- The accepted packets are all those before the item that is complained about, and the accepted frames are their frames. There is no complaint
-- about these packets alone. With the next item, there is this complaint.
pub record IsComplaintOf {S : Type 0} (format : Format S) (came : List (Option Packet)) (c : Complaint) : Type 0 where
  pub before : List (Option Packet)
  pub next : Option Packet
  pub after : List (Option Packet)
  pub laid : came ≡ before ++ next ∷ after
  pub place : packets_accepted format Waiting came ≡ length before
  pub none : complaint format before ≡ None
  pub frames : frames_accepted format Waiting came ≡ frames_accepted format Waiting before
  pub ground : complaint format (before ++ next ∷ []) ≡ Some c

-- a complaint comes at the item that is complained about
abbrev pub ComplaintsHaveTheirPlace : Type 0 → Type 0
ComplaintsHaveTheirPlace S = (format : Format S) (came : List (Option Packet)) (c : Complaint)
    → complaint format came ≡ Some c → IsComplaintOf format came c
