-- Which frames a decoder can decode, given the frames that it gets. AV1 RTP payload format, Appendix A (frame dependencies). It is an own rule
-- that the given frames must have a key frame, since a frame without references needn't be one. No part of the program computes it.
use Rattle.std.specs.Prelude.{◌≡◌, ◌⊎◌, ◌+◌, ℕ, List, true, ◌==◌}
use Rattle.std.specs.List.{list_any, filter}
use Rattle.sfu_base.specs.declared.frame.FrameMeaning.{FrameMeaning}
use Rattle.forwarding_model.specs.Lists.{IsMember}
use Rattle.forwarding_model.specs.forwarding.Targets.{references}
use Rattle.forwarding_model.specs.forwarding.Standing.{is_key}

abbrev pub of_epoch : ℕ → List FrameMeaning → List FrameMeaning
of_epoch epoch frames = filter (λ g. g.epoch == epoch) frames

-- f is one of these frames, and at least one of them is a key frame. Each reference of f is to a frame that is decodable from these frames. The
-- recursion ends, since the numbers of references fall.
pub data IsDecodable (frames : List FrameMeaning) : FrameMeaning → Type 0 where
  Decodes : (f : FrameMeaning) → IsMember f frames → ((f.key ≡ true) ⊎ (list_any is_key frames ≡ true))
      → (referred : (d : ℕ) → IsMember d (references f) → FrameMeaning)
      → ((d : ℕ) (m : IsMember d (references f)) → (referred d m).number + d ≡ f.number)
      → ((d : ℕ) (m : IsMember d (references f)) → IsDecodable frames (referred d m))
      → IsDecodable frames f
