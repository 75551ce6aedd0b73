-- The packets that a recorder represents. Own rules.
use Rattle.std.specs.Prelude.{◌≡◌, ℕ, List, [], ◌∷◌, ◌++◌, true, Option, Some, None, Result, Ok, Err}
use Rattle.strict_receiver.specs.Receivers.{StandsFor as ReceiverStandsFor, complaint_over}
use Rattle.ivf_recorder.specs.declared.fault.RecordFault.{RecordFault}
use Rattle.ivf_recorder.specs.declared.fault.RecordFault.TheVariants as fault
use Rattle.ivf_recorder.specs.declared.frame.OpenFrame.{OpenFrame}
use Rattle.ivf_recorder.specs.declared.recording.Recording.{Recording}
use Rattle.ivf_recorder.specs.Elements.{elements_over}
use Rattle.ivf_recorder.specs.Files.{IsFileOf}
use Rattle.ivf_recorder.specs.Frames.{AreShort, are_sound, contents_over, fault_over, first_timestamp, gathered_over, size_over}
use Rattle.ivf_recorder.specs.Laid.{segments_in}

-- the timestamp of the frame with these packets, if there are any
abbrev pub timestamp_said : List (List ℕ) → Option ℕ
timestamp_said [] = None
timestamp_said (packet ∷ more) = Some (first_timestamp (packet ∷ more))

-- these are the packets of the unfinished frame so far
pub record Holds (frame : OpenFrame) (unfinished : List (List ℕ)) : Type 0 where
  pub elements : segments_in frame ≡ elements_over unfinished
  pub timestamp : frame.timestamp ≡ timestamp_said unfinished

-- the state of a recorder without a fault
pub record GoesOn (now : Recording) (history : List (List ℕ)) : Type 0 where
  pub receiver : ReceiverStandsFor now.receiver history
  pub frame : Holds now.frame (gathered_over now.receiver.id history).unfinished

-- the recorder was fed these packets, given as bytes, the oldest first
pub record StandsFor (now : Recording) (history : List (List ℕ)) : Type 0 where
  pub fault : now.fault ≡ fault_over now.receiver.id history
  pub file : IsFileOf now.file (size_over now.receiver.id history) (contents_over now.receiver.id history)
  pub goes : now.fault ≡ None → GoesOn now history
  pub short : AreShort history

-- the receiver has accepted one more packet, whose elements were appended
pub record IsFed (mid : Recording) (history : List (List ℕ)) (packet : List ℕ) : Type 0 where
  pub receiver : ReceiverStandsFor mid.receiver (history ++ packet ∷ [])
  pub calm : complaint_over mid.receiver.id (history ++ packet ∷ []) ≡ None
  pub sound : are_sound (gathered_over mid.receiver.id history).frames ≡ true
  pub frame : Holds mid.frame ((gathered_over mid.receiver.id history).unfinished ++ packet ∷ [])
  pub file : IsFileOf mid.file (size_over mid.receiver.id history) (contents_over mid.receiver.id history)
  pub fault : mid.fault ≡ None
  pub short : AreShort (history ++ packet ∷ [])

-- ---- results

-- Either memory ran out, there was no fault before, and nothing changed. Or the fault of all packets is returned, if there is one, and the
-- recorder represents all packets.
abbrev pub Feeds : Option RecordFault → ℕ → Recording → List (List ℕ) → List ℕ → Result (Unit {0}) RecordFault → Type 0
Feeds before id new history packet (Ok _) = StandsFor new (history ++ packet ∷ []) × (fault_over id (history ++ packet ∷ []) ≡ None)
Feeds before id new history packet (Err fault.NoMemory) = StandsFor new history × (before ≡ None)
Feeds before id new history packet (Err fault.Obu) = StandsFor new (history ++ packet ∷ []) × (fault_over id (history ++ packet ∷ []) ≡ Some fault.Obu)
Feeds before id new history packet (Err (fault.Complaint c)) =
    StandsFor new (history ++ packet ∷ []) × (fault_over id (history ++ packet ∷ []) ≡ Some (fault.Complaint c))
