-- The code's structs, in the terms of the definition of a strict receiver.
use Rattle.std.specs.Prelude.{◌≡◌, ◌+◌, ◌%◌, ◌==◌, ℕ, Bool, true, false, if◌then◌else◌, Option, None, Some, Result, Ok, Err}
use Rattle.std.specs.Option.{option_map}
use Rattle.forwarding_model.specs.declared.complaint.Complaint.{Complaint}
use Rattle.forwarding_model.specs.declared.complaint.Complaint.TheVariants as complaint
use Rattle.forwarding_model.specs.frames.Reading.{Descriptor as Said, Joins}
use Rattle.forwarding_model.specs.Receiver.{OpenFrame as ModelFrame, Received, Reception, Receiver, complaint_of, new_reception, nothing_received, structure_after, with_part}
use Rattle.forwarding_model.specs.Receiver.Receiver.{Waiting, Receiving, Complaining}
use Rattle.dd_structure.specs.TemplateStructure.{TemplateStructure}
use Rattle.strict_receiver.specs.declared.frame.OpenFrame.{OpenFrame}
use Rattle.strict_receiver.specs.declared.state.Last.{Last}
use Rattle.strict_receiver.specs.declared.state.Stage.{Stage}
use Rattle.strict_receiver.specs.declared.state.Stage.TheVariants as stage
use Rattle.strict_receiver.specs.declared.state.State.{State}
use Rattle.strict_receiver.specs.Frames.{frame_said}
use Rattle.strict_receiver.specs.Numbers.{AreKeptOf}
use Rattle.strict_receiver.specs.Receivers.{IsReceptionOf}

abbrev pub reception : Last → Option OpenFrame → Option TemplateStructure → Received → Reception TemplateStructure
reception last frame structure numbers = record {
  ssrc = last.ssrc;
  sequence_number = last.sequence;
  structure = structure;
  frame = option_map frame_said frame;
  received = numbers;
}

-- the receiver of the definition, with the numbers that are stored
abbrev pub receiver_by : Stage → Option OpenFrame → Option TemplateStructure → Received → Receiver TemplateStructure
receiver_by stage.Waiting frame structure numbers = Waiting
receiver_by (stage.Receiving last) frame structure numbers = Receiving (reception last frame structure numbers)
receiver_by (stage.Complaining c) frame structure numbers = Complaining c

abbrev pub receiver_in : State → Receiver TemplateStructure
receiver_in s = receiver_by s.stage s.frame s.structure s.received

-- ---- what a state represents

abbrev pub IsStageOf : Stage → Option OpenFrame → Option TemplateStructure → Received → Receiver TemplateStructure → Type 0
IsStageOf stage.Waiting frame structure numbers Waiting = (frame ≡ None) × (structure ≡ None) × AreKeptOf numbers nothing_received
IsStageOf stage.Waiting frame structure numbers (Receiving r) = ⊥
IsStageOf stage.Waiting frame structure numbers (Complaining d) = ⊥
IsStageOf (stage.Receiving last) frame structure numbers Waiting = ⊥
IsStageOf (stage.Receiving last) frame structure numbers (Receiving r) = IsReceptionOf (reception last frame structure numbers) r
IsStageOf (stage.Receiving last) frame structure numbers (Complaining d) = ⊥
IsStageOf (stage.Complaining c) frame structure numbers Waiting = ⊥
IsStageOf (stage.Complaining c) frame structure numbers (Receiving r) = ⊥
IsStageOf (stage.Complaining c) frame structure numbers (Complaining d) = c ≡ d

abbrev pub IsStateOf : State → Receiver TemplateStructure → Type 0
IsStateOf s m = IsStageOf s.stage s.frame s.structure s.received m

-- the state represents some receiver
abbrev pub HasStood : State → Type 0
HasStood s = (m : Receiver TemplateStructure) × IsStateOf s m

-- ---- a packet

-- the result of a step, and the receiver that the state represents if there is no complaint
abbrev pub Answers : State → Result Unit Complaint → Receiver TemplateStructure → Type 0
Answers s (Ok _) Waiting = ⊥
Answers s (Ok _) (Receiving r) = IsStateOf s (Receiving r)
Answers s (Ok _) (Complaining d) = ⊥
Answers s (Err c) Waiting = ⊥
Answers s (Err c) (Receiving r) = ⊥
Answers s (Err c) (Complaining d) = c ≡ d

abbrev pub answer_of : Option Complaint → Result Unit Complaint
answer_of None = Ok tt
answer_of (Some c) = Err c

-- the result is the complaint, if there is one, and the state represents the next receiver
pub record Fed (new : State) (result : Result Unit Complaint) (next : Receiver TemplateStructure) : Type 0 where
  pub answer : result ≡ answer_of (complaint_of next)
  pub stands : IsStateOf new next

-- the reception before a packet of this source with this number, or the complaint about them
abbrev pub reception_for : Receiver TemplateStructure → ℕ → ℕ → Result (Reception TemplateStructure) Complaint
reception_for Waiting ssrc sequence = Ok (new_reception ssrc)
reception_for (Receiving r) ssrc sequence =
    if ssrc == r.ssrc
    then (if sequence == (r.sequence_number + 1) % 65536 then Ok r else Err (complaint.Sequence r.sequence_number sequence))
    else Err (complaint.OtherSource r.ssrc ssrc)
reception_for (Complaining c) ssrc sequence = Err c

pub record IsExpected (s : State) (ssrc : ℕ) (r : Reception TemplateStructure) : Type 0 where
  pub source : r.ssrc ≡ ssrc
  pub structure : s.structure ≡ r.structure
  pub frame_is : option_map frame_said s.frame ≡ r.frame
  pub received : AreKeptOf s.received r.received

abbrev pub Expects : State → ℕ → Result Unit Complaint → Result (Reception TemplateStructure) Complaint → Type 0
Expects s ssrc (Ok _) (Ok r) = IsExpected s ssrc r
Expects s ssrc (Ok _) (Err d) = ⊥
Expects s ssrc (Err c) (Ok r) = ⊥
Expects s ssrc (Err c) (Err d) = c ≡ d

-- how a part changes a reception
abbrev pub part_as : Reception TemplateStructure → ℕ → Said TemplateStructure → Joins → Receiver TemplateStructure
part_as r sequence d joins = with_part (record r { sequence_number = sequence; structure = structure_after r.structure d }) r.frame d joins

-- the open frame with the newest packet, if the packet can be added
abbrev pub Joined : Option OpenFrame → Bool → Option ModelFrame → Type 0
Joined frame true (Some f) = option_map frame_said frame ≡ Some f
Joined frame true None = ⊥
Joined frame false (Some f) = ⊥
Joined frame false None = Unit {0}

-- the outcome of a frame with its newest packet
abbrev pub Finishes : State → Result Unit Complaint → Reception TemplateStructure → Receiver TemplateStructure → Type 0
Finishes new (Ok _) r next =
    (received : Received) × AreKeptOf new.received received × (next ≡ Receiving (record r { frame = option_map frame_said new.frame; received = received }))
Finishes new (Err c) r next = next ≡ Complaining c
