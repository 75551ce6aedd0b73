-- Counts of a subscriber. Own rules. The definitions count in the list of verdicts and in the
-- subscriber's timeline, which have the newest first. The code increases a count at each event.
use Rattle.std.specs.Prelude.{◌+◌, ◌-◌, ◌^◌, ℕ, Bool, true, false, not, min, List, [], ◌∷◌}
use Rattle.sfu_base.specs.declared.frame.Step.{Step}
use Rattle.sfu_base.specs.declared.frame.Verdict.{Verdict}
use Rattle.sfu_base.specs.declared.frame.Verdict.TheVariants.{Passed, NotOfTarget, Behind, Reference, Full, Link, Unopened, Hole}
use Rattle.sfu_base.specs.declared.frame.Wish.{Wish}
use Rattle.dd_structure.specs.TemplateStructure.{TemplateStructure}
use Rattle.forwarding_model.specs.forwarding.Causes.{verdicts}
use Rattle.forwarding_model.specs.forwarding.Standing.{plain_passes, standing}
use Rattle.forwarding_model.specs.forwarding.Timeline.{Event, takes_of}
use Rattle.forwarding_model.specs.forwarding.Timeline.Event.{WholeFrame, PlainPacket, WishChange, Take}
use Rattle.track_core.specs.Counts.{add_where}
use Rattle.room_core.specs.declared.counts.FeedCounts.{FeedCounts}
use Rattle.room_core.specs.declared.counts.FrameCounts.{FrameCounts}

-- ---- counts that stop at the greatest value

abbrev pub greatest_count : ℕ
greatest_count = 2 ^ 64 - 1

abbrev pub saturated : ℕ → ℕ
saturated n = min n greatest_count

abbrev pub raised : ℕ → ℕ
raised n = min (n + 1) greatest_count

-- ---- frames, by their verdicts

abbrev pub is_passed : Verdict → Bool
is_passed Passed = true
is_passed other = false

abbrev pub is_not_of_target : Verdict → Bool
is_not_of_target (NotOfTarget target) = true
is_not_of_target other = false

abbrev pub is_behind : Verdict → Bool
is_behind (Behind fdiff start) = true
is_behind other = false

abbrev pub is_reference : Verdict → Bool
is_reference (Reference number) = true
is_reference other = false

abbrev pub is_full : Verdict → Bool
is_full (Full queued needed) = true
is_full other = false

abbrev pub is_link : Verdict → Bool
is_link (Link at number) = true
is_link other = false

abbrev pub is_unopened : Verdict → Bool
is_unopened (Unopened since) = true
is_unopened other = false

-- the number of frames whose verdict passes the test
abbrev pub how_many : (Verdict → Bool) → List Step → ℕ
how_many test [] = 0
how_many test (step ∷ steps) = add_where (test step.verdict) (how_many test steps)

abbrev pub frame_counts : List Step → FrameCounts
frame_counts steps = record {
  passed = saturated (how_many is_passed steps);
  not_of_target = saturated (how_many is_not_of_target steps);
  behind = saturated (how_many is_behind steps);
  reference = saturated (how_many is_reference steps);
  full = saturated (how_many is_full steps);
  link = saturated (how_many is_link steps);
  unopened = saturated (how_many is_unopened steps);
}

-- ---- packets

-- the number of packets of a plain track that weren't queued, since they came while 512 packets were queued
abbrev pub left_out_of : Wish → List (Event TemplateStructure) → ℕ
left_out_of wish [] = 0
left_out_of wish (WholeFrame frame ∷ past) = left_out_of wish past
left_out_of wish (PlainPacket packet ∷ past) = add_where (not (plain_passes (standing wish past))) (left_out_of wish past)
left_out_of wish (WishChange changed ∷ past) = left_out_of wish past
left_out_of wish (Take ∷ past) = left_out_of wish past

-- ---- the counts of a feed

-- over this timeline of a subscriber that joined with this wish
abbrev pub feed_counts : Wish → List (Event TemplateStructure) → FeedCounts
feed_counts wish events = record {
  frames = frame_counts (verdicts wish events);
  taken = saturated (takes_of events);
  left_out = saturated (left_out_of wish events);
}

abbrev pub no_frames : FrameCounts
no_frames = record { passed = 0; not_of_target = 0; behind = 0; reference = 0; full = 0; link = 0; unopened = 0 }

abbrev pub no_counts : FeedCounts
no_counts = record { frames = no_frames; taken = 0; left_out = 0 }

-- ---- one more event

-- one more frame, with this verdict; no frame has the verdict of a hole
abbrev pub counted_frame : Verdict → FrameCounts → FrameCounts
counted_frame Passed c = record c { passed = raised c.passed }
counted_frame (NotOfTarget target) c = record c { not_of_target = raised c.not_of_target }
counted_frame (Behind fdiff start) c = record c { behind = raised c.behind }
counted_frame (Reference number) c = record c { reference = raised c.reference }
counted_frame (Full queued needed) c = record c { full = raised c.full }
counted_frame (Link at number) c = record c { link = raised c.link }
counted_frame (Unopened since) c = record c { unopened = raised c.unopened }
counted_frame (Hole below above) c = c

abbrev pub with_frame : Verdict → FeedCounts → FeedCounts
with_frame verdict c = record c { frames = counted_frame verdict c.frames }

-- one more packet that wasn't queued, since the queue was full
abbrev pub and_left_out : FeedCounts → FeedCounts
and_left_out c = record c { left_out = raised c.left_out }

-- one more packet that was taken, if one was queued
abbrev pub and_taken : Bool → FeedCounts → FeedCounts
and_taken true c = record c { taken = raised c.taken }
and_taken false c = c
