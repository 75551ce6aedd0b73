-- Plain tracks, and the length of queues.
use Rattle.std.proofs.Common.{◌≡◌, ◌+◌, ◌<◌, ◌≤◌, arith, Bool, true, false, List, [], ◌∷◌, ◌++◌, refl, sym, ap, ◌∙◌, cond, length}
use Rattle.std.proofs.lemmas.Bool.{and_parts, leb-true, lt-ltb, le-ltb, ltb-true}
use Rattle.sfu_base.specs.declared.frame.Wish.{Wish}
use Rattle.forwarding_model.specs.forwarding.Timeline.{Packet, Frame, Event}
use Rattle.forwarding_model.specs.forwarding.Timeline.Event.{WholeFrame, PlainPacket, WishChange, Take}
use Rattle.forwarding_model.specs.forwarding.Standing.{Standing, admitted, after_plain, passes_at, plain_passes, standing}
use Rattle.forwarding_model.specs.forwarding.Outgoing.{Sender, Subscriber, forwarded, numbered, outgoing}
use Rattle.forwarding_laws.specs.forwarding.Plain.{renumbered}
use Rattle.forwarding_laws.proofs.Outgoings.{length-numbered}
use Rattle.forwarding_laws.proofs.StrictReceiver.{numbered-append}

pub plain_goes_out : {S : Type 0} (send : Sender S) (subscriber : Subscriber) (packet : Packet) (past : List (Event S)) → (standing subscriber.wish past).queued < 512
    → outgoing send subscriber (PlainPacket packet ∷ past)
    ≡ outgoing send subscriber past ++ renumbered (subscriber.first + length (outgoing send subscriber past)) subscriber.ssrc packet ∷ []
plain_goes_out send subscriber packet past capacity =
    ap (λ b. numbered subscriber.first subscriber.ssrc (cond b (forwarded send subscriber.wish past ++ packet ∷ []) (forwarded send subscriber.wish past)))
    (lt-ltb (standing subscriber.wish past).queued 512 capacity)
    ∙ numbered-append subscriber.first subscriber.ssrc (forwarded send subscriber.wish past) (packet ∷ [])
    ∙ ap (λ n. outgoing send subscriber past ++ renumbered (subscriber.first + n) subscriber.ssrc packet ∷ [])
    (sym (length-numbered subscriber.first subscriber.ssrc (forwarded send subscriber.wish past)))

pub full_takes_none : {S : Type 0} (send : Sender S) (subscriber : Subscriber) (packet : Packet) (past : List (Event S)) → 512 ≤ (standing subscriber.wish past).queued
    → outgoing send subscriber (PlainPacket packet ∷ past) ≡ outgoing send subscriber past
full_takes_none send subscriber packet past full =
    ap (λ b. numbered subscriber.first subscriber.ssrc (cond b (forwarded send subscriber.wish past ++ packet ∷ []) (forwarded send subscriber.wish past)))
    (le-ltb (standing subscriber.wish past).queued 512 full)

frame_fits : {S : Type 0} (s : Standing) (x : Frame S) → s.queued ≤ 512 → (b : Bool) → passes_at s x.meaning (length x.packets) ≡ b
    → (admitted b s x.meaning (length x.packets)).queued ≤ 512
frame_fits s x h true e =
    let a = and_parts _ _ (and_parts _ _ e).1 in
    leb-true (s.queued + length x.packets) 512 a.1
frame_fits s x h false e = h

plain_fits : (s : Standing) → s.queued ≤ 512 → (b : Bool) → plain_passes s ≡ b → (after_plain b s).queued ≤ 512
plain_fits s h true e = let lt : s.queued < 512 = ltb-true s.queued 512 e in omega arith
plain_fits s h false e = h

pub queues_are_short : {S : Type 0} (wish : Wish) (events : List (Event S)) → (standing wish events).queued ≤ 512
queues_are_short wish [] = omega arith
queues_are_short wish (WholeFrame x ∷ past) =
    frame_fits (standing wish past) x (queues_are_short wish past) (passes_at (standing wish past) x.meaning (length x.packets)) refl
queues_are_short wish (PlainPacket p ∷ past) = plain_fits (standing wish past) (queues_are_short wish past) (plain_passes (standing wish past)) refl
queues_are_short wish (WishChange w ∷ past) = queues_are_short wish past
queues_are_short wish (Take ∷ past) = let h = queues_are_short wish past in omega arith
