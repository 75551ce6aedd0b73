-- What a session requires of a reply is true of each reply of a room, for every history.
use Rattle.std.proofs.Common.{◌≡◌, ◌∙◌, ◌<◌, ℕ, List, length, ap, sym, arith, false}
use Rattle.sfu_base.specs.Answer.{answer_of, is_starved}
use Rattle.sfu_base.specs.declared.call.Call.{Call}
use Rattle.sfu_base.specs.declared.call.Call.TheVariants.{Missing}
use Rattle.sfu_base.specs.declared.call.Reply.{Reply}
use Rattle.sfu_base.specs.declared.call.Reply.TheVariants as reply
use Rattle.rtcp_feedback.specs.Writing.{Rise}
use Rattle.room_core.specs.History.{Entry, reply_of}
use Rattle.room_core.specs.Sendable.{IsSendable}
use Rattle.session_steps.specs.Stepping.{CanBeWrapped, IsReplyTo}
use Rattle.sfu_serve.proofs.Rising.{named_rise}
use Rattle.sfu_serve.proofs.Texts.{has_text}

wrapped : (bytes : List ℕ) → IsSendable bytes → CanBeWrapped bytes
wrapped bytes sendable = let fits = sendable.fits in record { reads = sendable.reads; fits = omega (arith, fits) }

module _ (call : Call) (given : Reply) (bytes names : List ℕ) (traffic : is_starved given ≡ false → (history : List Entry) × (answer_of given bytes names ≡ reply_of history call)) where
  rises : (track : ℕ) → call ≡ Missing track → given ≡ reply.Names → 0 < length names → Rise 1023 names
  rises track asked named some =
      let t = traffic (ap is_starved named) in
      named_rise t.0 track names (ap (λ (g : Reply). answer_of g bytes names) (sym named) ∙ (t.1 ∙ ap (reply_of t.0) asked)) some

  -- the reply to a call after some history, unless memory ran out; a packet that it returns can be sent
  pub room_replies : (given ≡ reply.Packet → IsSendable bytes) → IsReplyTo call given bytes names
  room_replies sendable = record {
    sendable = λ gave. wrapped bytes (sendable gave);
    rises = rises;
    text = λ control. has_text call given bytes names control traffic;
  }
