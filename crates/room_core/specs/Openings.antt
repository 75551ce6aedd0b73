-- The rule for sending and the rule for selecting frames agree on which passed frames open their target. Own statement.
use Rattle.std.specs.Prelude.{◌≡◌, ℕ, true, List, ◌∷◌}
use Rattle.sfu_base.specs.declared.frame.FrameMeaning.{FrameMeaning}
use Rattle.sfu_base.specs.declared.frame.Wish.{Wish}
use Rattle.forwarding_model.specs.forwarding.Timeline.{meanings_of}
use Rattle.forwarding_model.specs.forwarding.Standing.{after_frame, passes_at, standing}
use Rattle.forwarding_model.specs.frames.TrackFrames.{IsOneTrack}
use Rattle.target_selector.specs.Stands.{is_opening_at}
use Rattle.room_core.specs.Follows.{Happened}
use Rattle.room_core.specs.Sent.{opens}

-- A passed frame opens the target by the rule for sending (`opens`) if and only if it does so by the rule for selecting frames.
abbrev pub FramesOpenTheirTargets : Type 0
FramesOpenTheirTargets = (wish : Wish) (events : List Happened) (f : FrameMeaning) (packets : ℕ) → IsOneTrack (f ∷ meanings_of events)
    → passes_at (standing wish events) f packets ≡ true
    → opens f (after_frame (standing wish events) f packets).target ≡ is_opening_at (standing wish events) f
