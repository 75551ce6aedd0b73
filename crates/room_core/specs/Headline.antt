-- The guarantees for each live subscriber, for every history. These are own statements, over the definitions of forwarding.
use Rattle.std.specs.Prelude.{◌≡◌, ◌↔◌, ◌≤◌, ◌<◌, ◌+◌, ℕ, List, ◌∷◌, ◌++◌, true, map, length, None, Some}
use Rattle.std.specs.List.{AllByRecursion}
use Rattle.sfu_base.specs.Answer.{Refused, Sent, CauseIs}
use Rattle.sfu_base.specs.declared.call.Call.{Call}
use Rattle.sfu_base.specs.declared.call.Call.TheVariants.{Resend, Take, Why}
use Rattle.sfu_base.specs.declared.call.Kind.TheVariants.{Layered}
use Rattle.sfu_base.specs.declared.call.Refusal.TheVariants.{Empty}
use Rattle.sfu_base.specs.declared.frame.Verdict.{Verdict}
use Rattle.sfu_base.specs.declared.frame.Wish.{Wish}
use Rattle.rtp_packet.specs.Fields.{sequence_of}
use Rattle.forwarding_model.specs.Lists.{IsMember, last_part}
use Rattle.forwarding_model.specs.forwarding.Timeline.{Frame}
use Rattle.forwarding_model.specs.forwarding.Timeline.Event.{WholeFrame}
use Rattle.forwarding_model.specs.forwarding.Standing.{passes_at, standing}
use Rattle.forwarding_model.specs.forwarding.Decodable.{IsDecodable, of_epoch}
use Rattle.forwarding_model.specs.forwarding.Causes.{IsPath, IsWithheld, HaveCauses, cause, newest_number, path, verdicts}
use Rattle.forwarding_model.specs.Receiver.{complaint}
use Rattle.forwarding_laws.specs.forwarding.Restart.{BreaksAt, IsRestart}
use Rattle.forwarding_laws.specs.forwarding.VerdictWords.{Says}
use Rattle.dd_structure.specs.TemplateStructure.{TemplateStructure}
use Rattle.packet_format.specs.Packets.{read_packet}
use Rattle.room_core.specs.Formats.{format_of}
use Rattle.room_core.specs.Live.{Joined, joined, kind_of}
use Rattle.room_core.specs.Follows.{Happened}
use Rattle.room_core.specs.Given.{given_to}
use Rattle.room_core.specs.Replies.{answer}
use Rattle.room_core.specs.SentBytes.{AreInOrder, going_out, taken_of}
use Rattle.room_core.specs.Views.{events_for}

-- ---- for the subscriber with the number n, which joined a layered track as j

-- A strict receiver, which sees only bytes, has no complaint about the packets that were
-- taken. Nor has it a complaint about any prefix of all packets that are taken or queued.
pub record PleasesReceivers (id n : ℕ) (j : Joined) (past : List Call) : Type 0 where
  pub given : complaint (format_of id) (map read_packet (given_to n past)) ≡ None
  pub fronts : (sends queued : List (List ℕ)) → sends ++ queued ≡ going_out n j past
      → complaint (format_of id) (map read_packet sends) ≡ None

-- each frame that passed is decodable from the passed frames of its epoch
abbrev pub AllDecodable : Wish → List Happened → Type 0
AllDecodable wish events = AllByRecursion (λ f. IsDecodable (of_epoch f.epoch (standing wish events).passed) f) (standing wish events).passed

-- if a chain was found broken at a frame, the next frame that passes, which may be this one or a later one, is a restart
pub record RestartsAfterBreaks (wish : Wish) (events : List Happened) : Type 0 where
  pub at_once : (since past : List Happened) (frame : Frame TemplateStructure) → events ≡ since ++ WholeFrame frame ∷ past
      → BreaksAt (standing wish past) frame.meaning → passes_at (standing wish past) frame.meaning (length frame.packets) ≡ true
      → IsRestart (standing wish past) frame.meaning
  pub later : (after since past : List Happened) (broken next : Frame TemplateStructure)
      → events ≡ after ++ WholeFrame next ∷ (since ++ WholeFrame broken ∷ past)
      → BreaksAt (standing wish past) broken.meaning
      → (standing wish (since ++ WholeFrame broken ∷ past)).passed ≡ (standing wish past).passed
      → passes_at (standing wish (since ++ WholeFrame broken ∷ past)) next.meaning (length next.packets) ≡ true
      → IsRestart (standing wish (since ++ WholeFrame broken ∷ past)) next.meaning

-- the cause of this frame number can be queried: the number is at most the newest frame's, and less than 4,096 below it
pub record CanBeAsked (wish : Wish) (events : List Happened) (number : ℕ) : Type 0 where
  pub newest : ℕ
  pub newest_is : newest_number (verdicts wish events) ≡ Some newest
  pub has_come : number ≤ newest
  pub is_recent : newest < number + 4096

-- The cause of each frame's number states something about the frame that was true when the frame came. The path of each withheld frame ends at a root, and
-- each step of a path has the cause of its number. A call of `why` for a number returns its cause if and only if this cause can be queried (`CanBeAsked`).
pub record ShowsCauses (n : ℕ) (wish : Wish) (events : List Happened) (past : List Call) : Type 0 where
  pub says : (since before : List Happened) (frame : Frame TemplateStructure) → events ≡ since ++ WholeFrame frame ∷ before
      → Says (standing wish before) frame.meaning (length frame.packets) (cause wish events frame.meaning.number)
  pub roots : (number : ℕ) → IsWithheld wish events number → IsPath (path (cause wish events) number)
  pub steps : (number : ℕ) → HaveCauses (cause wish events) (path (cause wish events) number)
  pub cause_answer : (number : ℕ) (verdict : Verdict)
      → (answer past (Why n number) ≡ CauseIs verdict) ↔ (CanBeAsked wish events number × (verdict ≡ cause wish events number))

pub record IsForwarded (id n : ℕ) (j : Joined) (past : List Call) : Type 0 where
  pub receivers : PleasesReceivers id n j past
  pub decodable : AllDecodable j.wish (events_for n j past)
  pub restarts : RestartsAfterBreaks j.wish (events_for n j past)
  pub causes : ShowsCauses n j.wish (events_for n j past) past

-- ---- for every subscriber

-- The packets that are sent have consecutive sequence numbers, and the takes returned a prefix of these packets.
-- The next take returns the packet after this prefix, or is refused if there is none. A resend returns a packet's
-- bytes if and only if one of the last 1,024 takes returned them and the packet has the resend's number.
pub record IsNumbered (n : ℕ) (j : Joined) (past : List Call) : Type 0 where
  pub given : given_to n past ≡ taken_of n j past
  pub consecutive : AreInOrder (going_out n j past)
  pub next : (bytes : List ℕ) (rest : List (List ℕ)) → given_to n past ++ bytes ∷ rest ≡ going_out n j past → answer past (Take n) ≡ Sent bytes
  pub empty : given_to n past ≡ going_out n j past → answer past (Take n) ≡ Refused Empty
  pub resent : (sequence : ℕ) (bytes : List ℕ)
      → (answer past (Resend n sequence) ≡ Sent bytes) ↔ (IsMember bytes (last_part 1024 (given_to n past)) × (sequence_of bytes ≡ sequence))

-- ---- for all live subscribers

pub record Headline (past : List Call) : Type 0 where
  pub layered : (n id : ℕ) (j : Joined) → joined n past ≡ Some j → kind_of j.track past ≡ Layered id → IsForwarded id n j past
  pub all : (n : ℕ) (j : Joined) → joined n past ≡ Some j → IsNumbered n j past
