-- The effects of the functions on a recorder.
use Rattle.std.specs.Prelude.{◌≡◌, ◌==◌, ℕ, [], List, drop, length, min, take, if◌then◌else◌, Option, Some, None, Result, Ok, Err}
use Rattle.forwarding_model.specs.declared.complaint.Complaint.{Complaint}
use Rattle.forwarding_model.specs.declared.complaint.Complaint.TheVariants as complaint
use Rattle.ivf_recorder.specs.Frames.{ivf_over}
use Rattle.ivf_recorder.specs.Recorders.{Feeds as FeedsRecorder, StandsFor}
use Rattle.ivf_recorder.specs.declared.fault.RecordFault.{RecordFault}
use Rattle.ivf_recorder.specs.declared.fault.RecordFault.TheVariants as fault
use Rattle.ivf_recorder.specs.declared.recording.Recording.{Recording}
use Rattle.room_c.specs.declared.code.Code.TheVariants as code
use Rattle.room_c.specs.declared.plain_reply.PlainReply.{PlainReply}
use Rattle.room_c.specs.declared.tape.Tape.{Tape}
use Rattle.room_c.specs.declared.tape.Tape.TheVariants.{Taking, Giving}
use Rattle.room_c.specs.Codes.{code_number}
use Rattle.room_c.specs.Numbers.{bare_of, two_of}

-- ---- opening

-- The handle had no recorder, and now has one without packets. Or it had a recorder, which is unchanged. Or memory ran out.
abbrev pub OpensRecorder : ℕ → Option Tape → Option Tape → ℕ → Type 0
OpensRecorder id (Some old) new rc = (rc ≡ code_number code.HasRecorder) × (new ≡ Some old)
OpensRecorder id None None rc = rc ≡ code_number code.NoMemory
OpensRecorder id None (Some (Taking new)) rc = (rc ≡ code_number code.Done) × (new.receiver.id ≡ id) × StandsFor new []
OpensRecorder id None (Some (Giving rest)) rc = ⊥

-- ---- a packet

-- the complaint of the strict receiver as numbers; the packet's own number comes first
abbrev pub complaint_reply : Complaint → PlainReply
complaint_reply complaint.Unread = bare_of code.Unread
complaint_reply (complaint.OtherSource had got) = two_of code.OtherSource got had
complaint_reply (complaint.Sequence had got) = two_of code.OutOfSequence got had
complaint_reply complaint.NoStructure = bare_of code.NoStructure
complaint_reply complaint.NotWhole = bare_of code.NotWhole
complaint_reply (complaint.MissingReference frame fdiff) = two_of code.MissingReference frame fdiff

-- the result of feeding a packet, as numbers
abbrev pub fed_reply : Result (Unit {0}) RecordFault → PlainReply
fed_reply (Ok _) = bare_of code.Done
fed_reply (Err (fault.Complaint c)) = complaint_reply c
fed_reply (Err fault.Obu) = bare_of code.NotObu
fed_reply (Err fault.NoMemory) = bare_of code.NoMemory

-- The recorder was fed this packet, and the reply has the result. After a fault it returns that fault, and changes nothing.
pub record FeedsAs (old new : Recording) (packet : List ℕ) (rc : PlainReply) : Type 0 where
  pub answer : Result (Unit {0}) RecordFault
  pub feeds : (history : List (List ℕ)) → StandsFor old history → FeedsRecorder old.fault old.receiver.id new history packet answer
  pub id : new.receiver.id ≡ old.receiver.id
  pub again : (fault : RecordFault) → old.fault ≡ Some fault → (answer ≡ Err fault) × (new ≡ old)
  pub reply_is : rc ≡ fed_reply answer

abbrev pub FeedsTape : Tape → Tape → List ℕ → PlainReply → Type 0
FeedsTape (Taking old) (Taking new) packet rc = FeedsAs old new packet rc
FeedsTape (Taking old) (Giving rest) packet rc = ⊥
FeedsTape (Giving rest) new packet rc = (rc ≡ bare_of code.Finished) × (new ≡ Giving rest)

abbrev pub Feeds : Option Tape → Option Tape → List ℕ → PlainReply → Type 0
Feeds None new packet rc = (rc ≡ bare_of code.NoRecorder) × (new ≡ None)
Feeds (Some old) None packet rc = ⊥
Feeds (Some old) (Some new) packet rc = FeedsTape old new packet rc

-- ---- the file

-- the number of bytes of a file that were written, according to the reply
abbrev pub file_bytes_written : PlainReply → ℕ
file_bytes_written r = if r.code == 8 then r.first else 0

-- the number of these bytes that are written to a buffer with this space
abbrev pub piece_of : ℕ → List ℕ → ℕ
piece_of space left = min space (length left)

-- `count` bytes were written, and `left` bytes are left
abbrev pub piece_reply : (count left : ℕ) → PlainReply
piece_reply count left = if count == 0 then bare_of code.Done else two_of code.FilePiece count left

-- The next of these bytes that fit into the buffer are at its start, and the others are left.
pub record GivesOf (left : List ℕ) (new : Tape) (space : ℕ) (rc : PlainReply) (out : List ℕ) : Type 0 where
  pub reply_is : rc ≡ piece_reply (piece_of space left) (length (drop (piece_of space left) left))
  pub gives : take (piece_of space left) out ≡ take (piece_of space left) left
  pub others : new ≡ Giving (drop (piece_of space left) left)

-- These bytes are still to be fetched: the file of the packets that a recorder represents or, once it is finished, the rest of the file.
abbrev pub HasLeft : Tape → List ℕ → Type 0
HasLeft (Taking recorder) left = (history : List (List ℕ)) × StandsFor recorder history × (left ≡ ivf_over recorder.receiver.id history)
HasLeft (Giving rest) left = left ≡ rest

abbrev pub GivesPiece : Tape → Tape → ℕ → PlainReply → List ℕ → Type 0
GivesPiece old new space rc out = (left : List ℕ) → HasLeft old left → GivesOf left new space rc out

abbrev pub Gives : Option Tape → Option Tape → ℕ → PlainReply → List ℕ → Type 0
Gives None new space rc out = (rc ≡ bare_of code.NoRecorder) × (new ≡ None)
Gives (Some old) None space rc out = ⊥
Gives (Some old) (Some new) space rc out = GivesPiece old new space rc out
