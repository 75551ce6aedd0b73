-- The steps of a publisher's session.
use Rattle.std.proofs.Common.{◌≡◌, ◌<◌, ℕ, zero, suc, List, length, Option, refl, sym, subst}
use Rattle.sfu_base.specs.Answer.{Answer}
use Rattle.sfu_base.specs.declared.call.Reply.{Reply}
use Rattle.sfu_base.specs.declared.call.Reply.TheVariants as reply
use Rattle.rtcp_feedback.specs.Writing.{Rise}
use Rattle.session_steps.specs.declared.publisher.Next.{Next}
use Rattle.session_steps.specs.declared.publisher.Next.TheVariants.{Datagram, Missing}
use Rattle.session_steps.specs.declared.publisher.PublisherSession as session
use Rattle.session_steps.specs.declared.session.Output.{Output}
use Rattle.session_steps.specs.Publishing.{publishing_at}
use Rattle.session_steps.specs.Sessions.{Doing, publisher_deed}
use Rattle.session_steps.specs.Stepping.{GoesOn, IsReplyIn, Waits, answered}

pub waits : (track ssrc turns : ℕ) (asked pleaded : Option ℕ) → Waits (publisher_deed track ssrc turns asked pleaded) turns
waits track ssrc zero asked pleaded = tt
waits track ssrc (suc turns) asked pleaded = tt

-- ---- a call is replied to

pub goes_at : (p : session.PublisherSession) (turns : ℕ) (answer : Answer) (next : Next) (rest : Doing) (bytes : List ℕ) (output : Output) → p.next ≡ next
    → GoesOn (answered (publishing_at next p turns) answer) rest bytes output → GoesOn (answered (publishing_at p.next p turns) answer) rest bytes output
goes_at p turns answer next rest bytes output is goes = subst (λ (n : Next). GoesOn (answered (publishing_at n p turns) answer) rest bytes output) (sym is) goes

pub none_asked : (p : session.PublisherSession) (given : Reply) (bytes names : List ℕ) → p.next ≡ Datagram → IsReplyIn (publishing_at p.next p 0) given bytes names → ⊥
none_asked p given bytes names is replied = subst (λ (n : Next). IsReplyIn (publishing_at n p 0) given bytes names) is replied

pub rises : (p : session.PublisherSession) (given : Reply) (bytes names : List ℕ) → p.next ≡ Missing → IsReplyIn (publishing_at p.next p 0) given bytes names → given ≡ reply.Names → 0 < length names → Rise 1023 names
rises p given bytes names is replied named some =
    let r = subst (λ (n : Next). IsReplyIn (publishing_at n p 0) given bytes names) is replied in
    r.rises p.track refl named some
