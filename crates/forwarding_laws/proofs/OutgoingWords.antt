-- The packets forwarded at a frame, with their markers and numbers, agree with the words.
use Rattle.std.proofs.Common.{◌≡◌, ◌↔◌, ◌+◌, ◌%◌, ℕ, zero, suc, arith, Bool, true, false, List, [], ◌∷◌, ◌++◌, refl, sym, ap, ◌∙◌, cond, true≢false, length, slice_get, option_map}
use Rattle.std.proofs.lemmas.Bool.{eqb-true, eq-eqb}
use Rattle.std.proofs.lemmas.List.{length-take-le}
use Rattle.std.specs.declared.option.Option.{Option}
use Rattle.std.specs.declared.option.Option.TheVariants.{None, Some}
use Rattle.sfu_base.specs.declared.frame.FrameMeaning.{FrameMeaning}
use Rattle.sfu_base.specs.declared.frame.Wish.{Wish}
use Rattle.forwarding_model.specs.declared.target.CurrentTarget.{CurrentTarget}
use Rattle.forwarding_model.specs.declared.target.CurrentTarget.TheVariants.{Open, Closed}
use Rattle.forwarding_model.specs.forwarding.Targets.{layers}
use Rattle.forwarding_model.specs.forwarding.Timeline.{Packet, Frame, Event, takes_of}
use Rattle.forwarding_model.specs.forwarding.Timeline.Event.{WholeFrame, WishChange, Take}
use Rattle.forwarding_model.specs.forwarding.Standing.{standing, passes_at, candidate_at}
use Rattle.forwarding_model.specs.forwarding.Outgoing.{Sender, Subscriber, has_spatial, is_top_layer, marked, send_marked, forwarded, numbered, next_number, outgoing, FindPackets}
use Rattle.forwarding_laws.specs.forwarding.Plain.{renumbered}
use Rattle.forwarding_laws.specs.forwarding.OutgoingWords.{EndsThePicture}
use Rattle.forwarding_laws.proofs.Outgoings.{length-numbered}
use Rattle.forwarding_laws.proofs.StrictReceiver.{numbered-append}
use Rattle.forwarding_laws.proofs.Takings.{takes_fit}

top_words : (f : FrameMeaning) (current : CurrentTarget) → is_top_layer f current ≡ true → EndsThePicture f current
top_words f (Closed reason) e = absurd (true≢false (sym e))
top_words f (Open target opened) e = go (layers f target) refl e
  where
    go : (o : Option Wish) → layers f target ≡ o → has_spatial f.spatial o ≡ true → EndsThePicture f (Open target opened)
    go None is h = absurd (true≢false (sym h))
    go (Some pair) is h =
        record { target = target; opened = opened; is_open = refl; pair = pair; has_layers = is; same = eqb-true f.spatial pair.spatial h }

pub top_layer_in_words : (f : FrameMeaning) (current : CurrentTarget) → (is_top_layer f current ≡ true) ↔ EndsThePicture f current
top_layer_in_words f current = (
  top_words f current,
  λ h. ap (is_top_layer f) h.is_open ∙ ap (has_spatial f.spatial) h.has_layers ∙ eq-eqb f.spatial h.pair.spatial h.same,
)

marked_last : (before : List Packet) (last : Packet) → marked true (before ++ last ∷ []) ≡ before ++ record last { marker = true } ∷ []
marked_last [] last = refl
marked_last (p ∷ []) last = refl
marked_last (p ∷ q ∷ before) last = ap (λ l. p ∷ l) (marked_last (q ∷ before) last)

marked_none : (packets : List Packet) → marked false packets ≡ packets
marked_none [] = refl
marked_none (p ∷ []) = refl
marked_none (p ∷ q ∷ packets) = ap (λ l. p ∷ l) (marked_none (q ∷ packets))

pub last_packets_are_marked : {S : Type 0} (frame : Frame S) (target : CurrentTarget) (before : List Packet) (last : Packet) → is_top_layer frame.meaning target ≡ true
    → frame.packets ≡ before ++ last ∷ [] → send_marked frame target ≡ before ++ record last { marker = true } ∷ []
last_packets_are_marked frame target before last top packets =
    ap (λ b. marked b frame.packets) top ∙ ap (marked true) packets ∙ marked_last before last

pub other_markers_are_kept : {S : Type 0} (frame : Frame S) (target : CurrentTarget) → is_top_layer frame.meaning target ≡ false → send_marked frame target ≡ frame.packets
other_markers_are_kept frame target lower = ap (λ b. marked b frame.packets) lower ∙ marked_none frame.packets

pub next_numbers_count_takes : {S : Type 0} (send : Sender S) (subscriber : Subscriber) (events : List (Event S)) → FindPackets send subscriber events
    → next_number send subscriber events ≡ (subscriber.first + takes_of events) % 65536
next_numbers_count_takes send subscriber events found =
    ap (λ k. (subscriber.first + k) % 65536) (length-take-le (takes_of events) (outgoing send subscriber events) (takes_fit send subscriber events found))

-- ---- what is forwarded at a frame

at_frame : {S : Type 0} (send : Sender S) (subscriber : Subscriber) (frame : Frame S) (past : List (Event S)) (b : Bool)
    → passes_at (standing subscriber.wish past) frame.meaning (length frame.packets) ≡ b
    → outgoing send subscriber (WholeFrame frame ∷ past)
    ≡ numbered subscriber.first subscriber.ssrc
    (cond b (forwarded send subscriber.wish past ++ send frame (candidate_at (standing subscriber.wish past) frame.meaning)) (forwarded send subscriber.wish past))
at_frame send subscriber frame past b e =
    ap
    (λ b. numbered subscriber.first subscriber.ssrc
    (cond b (forwarded send subscriber.wish past ++ send frame (candidate_at (standing subscriber.wish past) frame.meaning)) (forwarded send subscriber.wish past)))
    e

pub passing_frames_go_out : {S : Type 0} (send : Sender S) (subscriber : Subscriber) (frame : Frame S) (past : List (Event S))
    → passes_at (standing subscriber.wish past) frame.meaning (length frame.packets) ≡ true
    → outgoing send subscriber (WholeFrame frame ∷ past)
    ≡ outgoing send subscriber past
    ++ numbered (subscriber.first + length (outgoing send subscriber past)) subscriber.ssrc
    (send frame (candidate_at (standing subscriber.wish past) frame.meaning))
passing_frames_go_out send subscriber frame past e =
    let sent : List Packet = send frame (candidate_at (standing subscriber.wish past) frame.meaning) in
    at_frame send subscriber frame past true e
    ∙ numbered-append subscriber.first subscriber.ssrc (forwarded send subscriber.wish past) sent
    ∙ ap (λ n. outgoing send subscriber past ++ numbered (subscriber.first + n) subscriber.ssrc sent)
    (sym (length-numbered subscriber.first subscriber.ssrc (forwarded send subscriber.wish past)))

pub nothing_else_goes_out : {S : Type 0} (send : Sender S) (subscriber : Subscriber) (frame : Frame S) (wish : Wish) (past : List (Event S))
    → (passes_at (standing subscriber.wish past) frame.meaning (length frame.packets) ≡ false
    → outgoing send subscriber (WholeFrame frame ∷ past) ≡ outgoing send subscriber past)
    × (outgoing send subscriber (WishChange wish ∷ past) ≡ outgoing send subscriber past)
    × (outgoing send subscriber (Take ∷ past) ≡ outgoing send subscriber past)
nothing_else_goes_out send subscriber frame wish past = (at_frame send subscriber frame past false, refl, refl)

pub packets_are_renumbered : (n ssrc : ℕ) (packets : List Packet) (i : ℕ)
    → slice_get (numbered n ssrc packets) i ≡ option_map (renumbered (n + i) ssrc) (slice_get packets i)
packets_are_renumbered n ssrc [] i = refl
packets_are_renumbered n ssrc (p ∷ ps) zero = ap (λ k. Some (renumbered k ssrc p)) (let e : n ≡ n + 0 = omega arith in e)
packets_are_renumbered n ssrc (p ∷ ps) (suc i) =
    packets_are_renumbered (n + 1) ssrc ps i
    ∙ ap (λ k. option_map (renumbered k ssrc) (slice_get ps i)) (let e : n + 1 + i ≡ n + suc i = omega arith in e)
