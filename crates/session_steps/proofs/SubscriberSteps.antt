-- The steps of a subscriber's session.
use Rattle.std.proofs.Common.{◌≡◌, ◌∙◌, ℕ, zero, suc, Bool, true, false, if◌then◌else◌, List, [], Option, refl, ap, sym, subst}
use Rattle.sfu_base.specs.Answer.{Answer, answer_of}
use Rattle.sfu_base.specs.Links.{datagram}
use Rattle.sfu_base.specs.declared.call.Reply.{Reply}
use Rattle.sfu_base.specs.declared.call.Reply.TheVariants as reply
use Rattle.rtcp_feedback.specs.declared.feedback.Feedback.{Feedback}
use Rattle.rtx_stream.specs.declared.retransmission.Rtx.{Rtx}
use Rattle.session_steps.specs.Deeds.{Post}
use Rattle.session_steps.specs.declared.session.Output.{Output}
use Rattle.session_steps.specs.declared.session.Output.TheVariants.{Packet}
use Rattle.session_steps.specs.declared.subscriber.Next.{Next}
use Rattle.session_steps.specs.declared.subscriber.Next.TheVariants.{Datagram, Feedback as FeedbackNext, Take}
use Rattle.session_steps.specs.declared.subscriber.SubscriberSession as session
use Rattle.session_steps.specs.Datagrams.{Bytes, feedback_in}
use Rattle.session_steps.specs.Subscribing.{subscribing_at, then_takes}
use Rattle.session_steps.specs.Sessions.{Doing, hears_feedback, outgoing_deed, serves, takes}
use Rattle.session_steps.specs.Stepping.{CanBeWrapped, GoesOn, IsReplyIn, Waits, answered, heard}
use Rattle.session_steps.proofs.Choosing.{sends_packet}

pub waits : (subscriber ssrc turns number : ℕ) (way : Option Rtx) → Waits (outgoing_deed subscriber ssrc way turns number) turns
waits subscriber ssrc zero number way = tt
waits subscriber ssrc (suc turns) number way = tt

pub datagram_next : (s : session.SubscriberSession) (next : Next) → Waits (subscribing_at next s 0) 0 → next ≡ Datagram
datagram_next s Datagram w = refl
datagram_next s FeedbackNext w = absurd w
datagram_next s (Take behind) w = absurd w

heard_items : (s : session.SubscriberSession) (came : Bool) (bytes : List ℕ) (next : ℕ → Doing)
    → hears_feedback s.subscriber s.ssrc s.rtx (datagram came bytes) s.number next ≡ serves s.subscriber s.ssrc s.rtx (if came then feedback_in bytes else []) s.number next
heard_items s true bytes next = refl
heard_items s false bytes next = refl

-- the received feedback is served
pub hears : (s : session.SubscriberSession) (turns moment : ℕ) (came : Bool) (bytes : List ℕ) (items : List Feedback) → s.next ≡ Datagram → items ≡ (if came then feedback_in bytes else [])
    → heard (subscribing_at s.next s (suc turns)) (datagram came bytes) moment ≡ serves s.subscriber s.ssrc s.rtx items s.number (then_takes s turns)
hears s turns moment came bytes items is are =
    ap (λ (n : Next). heard (subscribing_at n s (suc turns)) (datagram came bytes) moment) is
    ∙ (heard_items s came bytes (then_takes s turns) ∙ ap (λ (l : List Feedback). serves s.subscriber s.ssrc s.rtx l s.number (then_takes s turns)) (sym are))

-- ---- a call is replied to

pub goes_at : (s : session.SubscriberSession) (turns : ℕ) (answer : Answer) (next : Next) (rest : Doing) (bytes : List ℕ) (output : Output) → s.next ≡ next
    → GoesOn (answered (subscribing_at next s turns) answer) rest bytes output → GoesOn (answered (subscribing_at s.next s turns) answer) rest bytes output
goes_at s turns answer next rest bytes output is goes = subst (λ (n : Next). GoesOn (answered (subscribing_at n s turns) answer) rest bytes output) (sym is) goes

pub none_asked : (s : session.SubscriberSession) (given : Reply) (bytes names : List ℕ) → s.next ≡ Datagram → IsReplyIn (subscribing_at s.next s 0) given bytes names → ⊥
none_asked s given bytes names is replied = subst (λ (n : Next). IsReplyIn (subscribing_at n s 0) given bytes names) is replied

pub sendable : (s : session.SubscriberSession) (given : Reply) (bytes names : List ℕ) → s.next ≡ FeedbackNext → IsReplyIn (subscribing_at s.next s 0) given bytes names → given ≡ reply.Packet → CanBeWrapped bytes
sendable s given bytes names is replied gave =
    let r = subst (λ (n : Next). IsReplyIn (subscribing_at n s 0) given bytes names) is replied in
    r.sendable gave

-- the rest in an equal form
pub rest_as : (d rest other : Doing) (bytes : List ℕ) (output : Output) → rest ≡ other → GoesOn d rest bytes output → GoesOn d other bytes output
rest_as d rest other bytes output same goes = subst (λ (r : Doing). GoesOn d r bytes output) same goes

-- a take returned a packet
pub gave : (s : session.SubscriberSession) (turns behind : ℕ) (given : Reply) (bytes names : List ℕ) (rest : Doing) → s.next ≡ Take behind → given ≡ reply.Packet
    → rest ≡ takes s.subscriber behind (outgoing_deed s.subscriber s.ssrc s.rtx turns s.number) → GoesOn (answered (subscribing_at s.next s turns) (answer_of given bytes names)) rest bytes Packet
gave s turns behind given bytes names rest is packet are =
    let next : Doing = outgoing_deed s.subscriber s.ssrc s.rtx turns s.number in (
      Bytes bytes,
      ap (λ (n : Next). answered (subscribing_at n s turns) (answer_of given bytes names)) is
          ∙ (sends_packet given bytes names (takes s.subscriber behind next) next packet ∙ ap (λ (d : Doing). Post (Bytes bytes) d) (sym are)),
      refl,
    )
