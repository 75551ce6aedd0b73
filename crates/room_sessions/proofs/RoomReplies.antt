-- What a session requires of a reply is true of each reply of a room, whatever its history.
use Rattle.std.proofs.Common.{◌≡◌, ◌∙◌, ◌<◌, ℕ, List, length, ap, sym, arith, subst, false}
use Rattle.sfu_base.specs.Answer.{answer_of, is_starved}
use Rattle.sfu_base.specs.declared.call.Call.{Call}
use Rattle.sfu_base.specs.declared.call.Call.TheVariants.{Missing}
use Rattle.sfu_base.specs.declared.call.Reply.{Reply}
use Rattle.sfu_base.specs.declared.call.Reply.TheVariants as reply
use Rattle.rtcp_feedback.specs.Writing.{Rise}
use Rattle.room_core.specs.History.{Entry, reply_of}
use Rattle.room_core.specs.Sendable.{IsSendable}
use Rattle.session_steps.specs.Stepping.{CanBeWrapped, IsReplyTo}
use Rattle.std.specs.Prelude.{Option}
use Rattle.std.specs.Coded.{Unit-prop}
use Rattle.std.proofs.Math.Logic.{∥∥₁_elim, ∥∥₁_map}
use Rattle.room_core.specs.Noted.{Noted}
use Rattle.room_core.specs.Serves.{Serves, Stands}
use Rattle.room_core.specs.declared.room.Room.{Room}
use Rattle.sfu_script.specs.Replies.{IsShort}
use Rattle.session_steps.specs.Deeds.{Ask, Listen, Over, Post}
use Rattle.session_steps.specs.Sessions.{Doing}
use Rattle.session_steps.specs.Stepping.{Asks, IsReplyIn}
use Rattle.room_sessions.specs.Working.{HasHistory}
use Rattle.room_sessions.proofs.Choosing.{rise_merely}
use Rattle.room_sessions.proofs.Rising.{named_rise}
use Rattle.room_sessions.proofs.Texts.{has_text}

wrapped : (bytes : List ℕ) → IsSendable bytes → CanBeWrapped bytes
wrapped bytes sendable = let fits = sendable.fits in record { reads = sendable.reads; fits = omega (arith, fits) }

module _ (call : Call) (given : Reply) (bytes names : List ℕ) (told : is_starved given ≡ false → (history : List Entry) × (answer_of given bytes names ≡ reply_of history call)) where
  rises : (track : ℕ) → call ≡ Missing track → given ≡ reply.Names → 0 < length names → Rise 1023 names
  rises track asked named some =
      let t = told (ap is_starved named) in
      named_rise t.0 track names (ap (λ (g : Reply). answer_of g bytes names) (sym named) ∙ (t.1 ∙ ap (reply_of t.0) asked)) some

  -- the reply to a call after some history, unless it is `NoMemory`; a packet that it returns can be sent
  pub room_replies : (given ≡ reply.Packet → IsSendable bytes) → IsReplyTo call given bytes names
  room_replies sendable = record {
    sendable = λ gave. wrapped bytes (sendable gave);
    rises = rises;
    text = λ control. has_text call given bytes names control told;
  }

-- it is a reply to the next call
pub replies : (left : Doing) (call : Call) (given : Reply) (bytes names : List ℕ) → Asks left call → IsReplyTo call given bytes names → IsReplyIn left given bytes names
replies (Ask own f) call given bytes names is told = subst (λ (k : Call). IsReplyTo k given bytes names) is told
replies (Listen f) call given bytes names is told = absurd is
replies (Post what next) call given bytes names is told = absurd is
replies Over call given bytes names is told = absurd is

short_prop : (given : Reply) → IsProp (IsShort given)
short_prop reply.Packet = λ x y. absurd x
short_prop reply.Names = λ x y. absurd x
short_prop other = Unit-prop

-- the same if the room represents a history that isn't known
pub served_replies : {R : Type 0} (noted : R → Option (List Noted)) (old new : Room R) (seat : ℕ) (call : Call) (given : Reply) (bytes names : List ℕ) → HasHistory noted old → Serves noted old new seat call given bytes names
    → (given ≡ reply.Packet → IsSendable bytes) → IsReplyTo call given bytes names
served_replies noted old new seat call given bytes names has serves sendable =
    let one : ((history : List Entry) × Stands noted old history) → IsReplyTo call given bytes names =
    λ h. room_replies call given bytes names (λ fed. (h.0, serves.answered h.0 h.1 fed)) sendable in
    record {
      sendable = λ gave. wrapped bytes (sendable gave);
      rises = λ track asked named some. rise_merely names (∥∥₁_map has (λ h. (one h).rises track asked named some));
      text = λ control. ∥∥₁_elim has (short_prop given) (λ h. (one h).text control);
    }
