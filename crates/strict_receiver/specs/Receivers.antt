-- The packets that a strict receiver represents, and what it returns. Own rules. `forwarding_model` has the definition for packets; here it is
-- for their bytes. Of the received numbers the code stores those that a frame can still refer to; it stores no packets.
use Rattle.std.specs.Prelude.{◌≡◌, ◌-◌, ◌^◌, ℕ, List, map, min, Option, None, Some, Result, Ok, Err}
use Rattle.forwarding_model.specs.declared.complaint.Complaint.{Complaint}
use Rattle.forwarding_model.specs.Receiver.{Reception, Receiver, complaint, frames_accepted, packets_accepted, receive_all}
use Rattle.forwarding_model.specs.Receiver.Receiver.{Waiting, Receiving, Complaining}
use Rattle.dd_structure.specs.TemplateStructure.{TemplateStructure}
use Rattle.packet_format.specs.Formats.{format_of}
use Rattle.packet_format.specs.Packets.{read_packet}
use Rattle.strict_receiver.specs.Numbers.{AreKeptOf}

-- What contracts see of a receiver: the id of the header extension element that has the descriptor, the receiver of the definition with the
-- numbers that are kept, and how many packets and frames it counts.
pub record Seen : Type 0 where
  pub id : ℕ
  pub receiver : Receiver TemplateStructure
  pub packets : ℕ
  pub frames : ℕ

-- ---- bytes

-- the complaint of a receiver that gets these packets' bytes, the oldest first, if it has one
abbrev pub complaint_over : ℕ → List (List ℕ) → Option Complaint
complaint_over id history = complaint (format_of id) (map read_packet history)

-- how many of these packets it accepts, and how many frames
abbrev pub packets_over : ℕ → List (List ℕ) → ℕ
packets_over id history = packets_accepted (format_of id) Waiting (map read_packet history)

abbrev pub frames_over : ℕ → List (List ℕ) → ℕ
frames_over id history = frames_accepted (format_of id) Waiting (map read_packet history)

-- ---- what a receiver represents

pub record IsReceptionOf (kept r : Reception TemplateStructure) : Type 0 where
  pub ssrc : kept.ssrc ≡ r.ssrc
  pub sequence_number : kept.sequence_number ≡ r.sequence_number
  pub structure_is : kept.structure ≡ r.structure
  pub frame : kept.frame ≡ r.frame
  pub received : AreKeptOf kept.received r.received

-- the same receiver, except for received numbers that aren't stored
abbrev pub IsReceiverOf : Receiver TemplateStructure → Receiver TemplateStructure → Type 0
IsReceiverOf Waiting Waiting = Unit {0}
IsReceiverOf Waiting (Receiving r) = ⊥
IsReceiverOf Waiting (Complaining d) = ⊥
IsReceiverOf (Receiving kept) Waiting = ⊥
IsReceiverOf (Receiving kept) (Receiving r) = IsReceptionOf kept r
IsReceiverOf (Receiving kept) (Complaining d) = ⊥
IsReceiverOf (Complaining c) Waiting = ⊥
IsReceiverOf (Complaining c) (Receiving r) = ⊥
IsReceiverOf (Complaining c) (Complaining d) = c ≡ d

abbrev pub greatest_count : ℕ
greatest_count = 2 ^ 64 - 1

-- the receiver was fed these packets' bytes, the oldest first
pub record StandsFor (now : Seen) (history : List (List ℕ)) : Type 0 where
  pub receiver : IsReceiverOf now.receiver (receive_all (format_of now.id) Waiting (map read_packet history))
  pub packets : now.packets ≡ min (packets_over now.id history) greatest_count
  pub frames : now.frames ≡ min (frames_over now.id history) greatest_count

-- ---- answers

-- the complaint that is returned, if one is
abbrev pub complaint_in : Result Unit Complaint → Option Complaint
complaint_in (Ok _) = None
complaint_in (Err c) = Some c
