-- The effect of one step on what remains of a session, by the result of a receive or by a reply. Own rule.
use Rattle.std.specs.Prelude.{◌≡◌, ◌<◌, ◌≤◌, ℕ, zero, suc, true, List, length, Option, None}
use Rattle.sfu_base.specs.Answer.{Answer}
use Rattle.sfu_base.specs.declared.call.Call.{Call}
use Rattle.sfu_base.specs.declared.call.Call.TheVariants.{Missing}
use Rattle.sfu_base.specs.declared.call.Reply.{Reply}
use Rattle.sfu_base.specs.declared.call.Reply.TheVariants as reply
use Rattle.rtp_packet.specs.Faults.{first_fault}
use Rattle.rtcp_feedback.specs.Writing.{Rise}
use Rattle.sfu_script.specs.Replies.{IsShort}
use Rattle.session_steps.specs.Deeds.{Listen, Ask, Post, Over}
use Rattle.session_steps.specs.declared.session.Output.{Output}
use Rattle.session_steps.specs.declared.session.Output.TheVariants.{Nothing, Packet}
use Rattle.session_steps.specs.Datagrams.{Datagram, IsOne, is_control}
use Rattle.session_steps.specs.Sessions.{Doing}

-- No call remains in this turn: the session waits for a datagram or, if no turn remains, is over.
abbrev pub Waits : Doing → ℕ → Type 0
Waits Over zero = Unit {0}
Waits (Listen f) (suc turns) = Unit {0}
Waits d turns = ⊥

-- this call is the next to make
abbrev pub Asks : Doing → Call → Type 0
Asks (Ask call f) next = next ≡ call
Asks d next = ⊥

-- A packet that can be wrapped as a retransmission: it is valid RTP (RFC 3550, section 5.1), and two bytes more fit in a buffer.
pub record CanBeWrapped (bytes : List ℕ) : Type 0 where
  pub reads : first_fault bytes ≡ None
  pub fits : length bytes ≤ 2046

-- The facts that a session needs about the reply to its call, with the content of the scratch. They hold for a room's reply after any history.
pub record IsReplyTo (call : Call) (given : Reply) (bytes names : List ℕ) : Type 0 where
  -- a packet can be wrapped
  pub sendable : given ≡ reply.Packet → CanBeWrapped bytes
  -- the missing packets fit into one NACK
  pub rises : (track : ℕ) → call ≡ Missing track → given ≡ reply.Names → 0 < length names → Rise 1023 names
  -- the reply to a control line's call is a text
  pub text : is_control call ≡ true → IsShort given

-- the reply is one to the call that is next
abbrev pub IsReplyIn : Doing → Reply → List ℕ → List ℕ → Type 0
IsReplyIn (Ask call f) given bytes names = IsReplyTo call given bytes names
IsReplyIn d given bytes names = ⊥

-- what remains after a receive that returned this datagram, or none, at this moment
abbrev pub heard : Doing → Option (List ℕ) → ℕ → Doing
heard (Listen f) got moment = f got moment
heard d got moment = d

-- what remains after this answer to the call
abbrev pub answered : Doing → Answer → Doing
answered (Ask call f) answer = f answer
answered d answer = d

-- `rest` follows, either at once or after the first datagram was sent as these bytes.
abbrev pub GoesOn : Doing → Doing → List ℕ → Output → Type 0
GoesOn d rest bytes Nothing = d ≡ rest
GoesOn d rest bytes Packet = (what : Datagram) × (d ≡ Post what rest) × IsOne what bytes
