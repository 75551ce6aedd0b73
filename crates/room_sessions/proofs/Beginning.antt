-- A turn begins with a call: nothing is sent before it.
use Rattle.std.specs.Prelude.{Option, None, Some}
use Rattle.std.proofs.Common.{◌≡◌, ℕ, suc, Bool, true, false, if◌then◌else◌, ◌==◌, List, [], ◌∷◌, subst}
use Rattle.rtcp_feedback.specs.declared.feedback.Feedback.{Feedback}
use Rattle.rtx_stream.specs.declared.retransmission.Rtx.{Rtx}
use Rattle.session_steps.specs.Datagrams.{feedback_in, is_rtcp, media_of}
use Rattle.session_steps.specs.Deeds.{Ask}
use Rattle.session_steps.specs.Publishing.{publishing_at}
use Rattle.session_steps.specs.Sessions.{Doing, brings, hears_feedback, outgoing_deed, serves, takes}
use Rattle.session_steps.specs.Stepping.{GoesOn, Waits, heard}
use Rattle.session_steps.specs.Subscribing.{subscribing_at}
use Rattle.session_steps.specs.declared.publisher.Next as publisher
use Rattle.session_steps.specs.declared.publisher.Next.TheVariants as step
use Rattle.session_steps.specs.declared.publisher.PublisherSession as publishers
use Rattle.session_steps.specs.declared.session.Output.{Output}
use Rattle.session_steps.specs.declared.session.Output.TheVariants.{Packet}
use Rattle.session_steps.specs.declared.subscriber.Next as subscriber
use Rattle.session_steps.specs.declared.subscriber.Next.TheVariants as turn
use Rattle.session_steps.specs.declared.subscriber.SubscriberSession as subscribers
use Rattle.room_sessions.specs.Either.{either_left}
use Rattle.room_sessions.specs.declared.either.EitherSession as session
use Rattle.room_sessions.specs.declared.either.EitherSession.TheVariants.{Publisher, Subscriber}

-- a call comes next
abbrev IsAsk : Doing → Type 0
IsAsk (Ask call f) = Unit {0}
IsAsk d = ⊥

chosen : (b : Bool) (d e : Doing) → IsAsk d → IsAsk e → IsAsk (if b then d else e)
chosen true d e p q = p
chosen false d e p q = q

brings_asks : (track moment : ℕ) (got : Option (List ℕ)) (next : Doing) → IsAsk next → IsAsk (brings track moment got next)
brings_asks track moment None next p = p
brings_asks track moment (Some bytes) next p = chosen (is_rtcp bytes) next _ p tt

serves_asks : (subscriber ssrc : ℕ) (way : Option Rtx) (items : List Feedback) (number : ℕ) (next : ℕ → Doing) → ((n : ℕ) → IsAsk (next n)) → IsAsk (serves subscriber ssrc way items number next)
serves_asks subscriber ssrc way [] number next p = p number
serves_asks subscriber ssrc way (item ∷ items) number next p = chosen (media_of item == ssrc) _ _ tt (serves_asks subscriber ssrc way items number next p)

feedback_asks : (subscriber ssrc : ℕ) (way : Option Rtx) (got : Option (List ℕ)) (number : ℕ) (next : ℕ → Doing) → ((n : ℕ) → IsAsk (next n)) → IsAsk (hears_feedback subscriber ssrc way got number next)
feedback_asks subscriber ssrc way None number next p = p number
feedback_asks subscriber ssrc way (Some bytes) number next p = serves_asks subscriber ssrc way (feedback_in bytes) number next p

publisher_asks : (p : publishers.PublisherSession) (next : publisher.Next) (turns moment : ℕ) (got : Option (List ℕ)) → Waits (publishing_at next p (suc turns)) (suc turns) → IsAsk (heard (publishing_at next p (suc turns)) got moment)
publisher_asks p step.Datagram turns moment got w = brings_asks p.track moment got _ tt
publisher_asks p step.Packet turns moment got w = absurd w
publisher_asks p step.Tick turns moment got w = absurd w
publisher_asks p step.Missing turns moment got w = absurd w
publisher_asks p step.KeyWanted turns moment got w = absurd w

subscriber_asks : (s : subscribers.SubscriberSession) (next : subscriber.Next) (turns moment : ℕ) (got : Option (List ℕ)) → Waits (subscribing_at next s (suc turns)) (suc turns) → IsAsk (heard (subscribing_at next s (suc turns)) got moment)
subscriber_asks s turn.Datagram turns moment got w = feedback_asks s.subscriber s.ssrc s.rtx got s.number (λ later. takes s.subscriber 32 (outgoing_deed s.subscriber s.ssrc s.rtx turns later)) (λ later. tt)
subscriber_asks s turn.Feedback turns moment got w = absurd w
subscriber_asks s (turn.Take behind) turns moment got w = absurd w

asks : (s : session.EitherSession) (turns moment : ℕ) (got : Option (List ℕ)) → Waits (either_left s (suc turns)) (suc turns) → IsAsk (heard (either_left s (suc turns)) got moment)
asks (Publisher p) turns moment got w = publisher_asks p p.next turns moment got w
asks (Subscriber s) turns moment got w = subscriber_asks s s.next turns moment got w

none_posted : (d rest : Doing) (bytes : List ℕ) (output : Output) → IsAsk d → output ≡ Packet → GoesOn d rest bytes output → ⊥
none_posted d rest bytes output p is goes = let g = subst (GoesOn d rest bytes) is goes in subst IsAsk g.1 p

pub nothing_sent : (s : session.EitherSession) (turns moment : ℕ) (got : Option (List ℕ)) (rest : Doing) (bytes : List ℕ) (output : Output) → Waits (either_left s (suc turns)) (suc turns) → output ≡ Packet
    → GoesOn (heard (either_left s (suc turns)) got moment) rest bytes output → ⊥
nothing_sent s turns moment got rest bytes output w is goes = none_posted (heard (either_left s (suc turns)) got moment) rest bytes output (asks s turns moment got w) is goes
