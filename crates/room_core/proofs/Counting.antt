-- The counts of a feed at each event.
use Rattle.std.proofs.Common.{◌≡◌, ◌+◌, ◌≤◌, ◌<◌, ℕ, Bool, true, not, List, [], ◌∷◌, length, refl, sym, ap, ◌∙◌, arith}
use Rattle.std.proofs.lemmas.Bool.{le-ltb, lt-ltb}
use Rattle.sfu_base.specs.declared.frame.Step.{Step}
use Rattle.sfu_base.specs.declared.frame.Verdict.{Verdict}
use Rattle.sfu_base.specs.declared.frame.Verdict.TheVariants.{Passed, NotOfTarget, Behind, Reference, Full, Link, Unopened, Hole}
use Rattle.sfu_base.specs.declared.frame.Wish.{Wish}
use Rattle.dd_structure.specs.TemplateStructure.{TemplateStructure}
use Rattle.forwarding_model.specs.forwarding.Causes.{verdicts}
use Rattle.forwarding_model.specs.forwarding.Standing.{standing, verdict_at}
use Rattle.forwarding_model.specs.forwarding.Timeline.{Event, Frame, Packet, takes_of}
use Rattle.forwarding_model.specs.forwarding.Timeline.Event.{WholeFrame, PlainPacket, Take}
use Rattle.track_core.specs.Counts.{add_where}
use Rattle.room_core.specs.declared.counts.FeedCounts.{FeedCounts}
use Rattle.room_core.specs.declared.counts.FrameCounts.{FrameCounts}
use Rattle.room_core.specs.Counts.{and_left_out, and_taken, counted_frame, feed_counts, frame_counts, how_many, is_behind, is_full, is_link, is_not_of_target, is_passed, is_reference, is_unopened, left_out_of, no_counts, raised, saturated, with_frame}

pub raised_is : (n : ℕ) → raised (saturated n) ≡ saturated (n + 1)
raised_is n = omega arith

pub zero_is : 0 ≡ saturated 0
zero_is = omega arith

pub none_counted : (wish : Wish) → no_counts ≡ feed_counts wish []
none_counted wish = ap counts_all zero_is
  where
    counts_all : ℕ → FeedCounts
    counts_all n = record {
      frames = record { passed = n; not_of_target = n; behind = n; reference = n; full = n; link = n; unopened = n };
      taken = n;
      left_out = n;
    }

-- ---- frames

counted_is : (steps : List Step) (number : ℕ) (verdict : Verdict)
    → counted_frame verdict (frame_counts steps) ≡ frame_counts (record { number = number; verdict = verdict } ∷ steps)
counted_is steps number Passed = ap (λ (n : ℕ). record (frame_counts steps) { passed = n }) (raised_is (how_many is_passed steps))
counted_is steps number (NotOfTarget target) = ap (λ (n : ℕ). record (frame_counts steps) { not_of_target = n }) (raised_is (how_many is_not_of_target steps))
counted_is steps number (Behind fdiff start) = ap (λ (n : ℕ). record (frame_counts steps) { behind = n }) (raised_is (how_many is_behind steps))
counted_is steps number (Reference other) = ap (λ (n : ℕ). record (frame_counts steps) { reference = n }) (raised_is (how_many is_reference steps))
counted_is steps number (Full queued needed) = ap (λ (n : ℕ). record (frame_counts steps) { full = n }) (raised_is (how_many is_full steps))
counted_is steps number (Link at other) = ap (λ (n : ℕ). record (frame_counts steps) { link = n }) (raised_is (how_many is_link steps))
counted_is steps number (Unopened since) = ap (λ (n : ℕ). record (frame_counts steps) { unopened = n }) (raised_is (how_many is_unopened steps))
counted_is steps number (Hole below above) = refl

pub frame_counted : (wish : Wish) (frame : Frame TemplateStructure) (events : List (Event TemplateStructure)) (verdict : Verdict)
    → verdict ≡ verdict_at (standing wish events) frame.meaning (length frame.packets)
    → with_frame verdict (feed_counts wish events) ≡ feed_counts wish (WholeFrame frame ∷ events)
frame_counted wish frame events verdict is =
    ap (λ (f : FrameCounts). record (feed_counts wish events) { frames = f })
    (counted_is (verdicts wish events) frame.meaning.number verdict
    ∙ ap (λ (v : Verdict). frame_counts (record { number = frame.meaning.number; verdict = v } ∷ verdicts wish events)) is)

-- ---- packets

pub queued_counted : (wish : Wish) (packet : Packet) (events : List (Event TemplateStructure)) → (standing wish events).queued < 512
    → feed_counts wish events ≡ feed_counts wish (PlainPacket packet ∷ events)
queued_counted wish packet events few =
    ap (λ (b : Bool). record (feed_counts wish events) { left_out = saturated (add_where (not b) (left_out_of wish events)) })
    (sym (lt-ltb (standing wish events).queued 512 few))

pub left_out_counted : (wish : Wish) (packet : Packet) (events : List (Event TemplateStructure)) → 512 ≤ (standing wish events).queued
    → and_left_out (feed_counts wish events) ≡ feed_counts wish (PlainPacket packet ∷ events)
left_out_counted wish packet events many =
    ap (λ (n : ℕ). record (feed_counts wish events) { left_out = n }) (raised_is (left_out_of wish events))
    ∙ ap (λ (b : Bool). record (feed_counts wish events) { left_out = saturated (add_where (not b) (left_out_of wish events)) })
    (sym (le-ltb (standing wish events).queued 512 many))

pub take_counted : (wish : Wish) (events : List (Event TemplateStructure)) → and_taken true (feed_counts wish events) ≡ feed_counts wish (Take ∷ events)
take_counted wish events = ap (λ (n : ℕ). record (feed_counts wish events) { taken = n }) (raised_is (takes_of events))
