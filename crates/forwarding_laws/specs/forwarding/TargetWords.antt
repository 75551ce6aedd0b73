-- The meaning of the tests on a frame's decode targets, in words, and the laws that connect the tests with this meaning. AV1 RTP payload
-- format, Appendix A: decode target indications, active_decode_targets_bitmask, and the layers of the templates that are present in a target.
-- What a wish allows is an own rule. The code shifts the mask and compares numbers.
use Rattle.std.specs.Prelude.{◌≡◌, ◌≢◌, ◌↔◌, ◌+◌, ◌*◌, ◌^◌, ◌<◌, ◌≤◌, ℕ, true}
use Rattle.std.specs.declared.option.Option.TheVariants.{Some}
use Rattle.sfu_base.specs.declared.frame.FrameMeaning.{FrameMeaning}
use Rattle.sfu_base.specs.declared.frame.Dti.TheVariants.{NotPresent, Switch}
use Rattle.sfu_base.specs.declared.frame.Wish.{Wish}
use Rattle.forwarding_model.specs.forwarding.Targets.{indication, is_switch, is_present, is_active, is_allowed, layers}

-- a bit of a number is 1: the number is the sum of the bits above this bit, of this bit, and of the bits below it
pub record HasBit (number bit : ℕ) : Type 0 where
  pub above : ℕ
  pub below : ℕ
  pub stands : number ≡ (2 * above + 1) * 2 ^ bit + below
  pub fits : below < 2 ^ bit

-- the mask has the target, and the target's greatest spatial and temporal id are at most the wish's
pub record IsAllowed (wish : Wish) (f : FrameMeaning) (target : ℕ) : Type 0 where
  pub active : HasBit f.mask target
  pub pair : Wish
  pub has_layers : layers f target ≡ Some pair
  pub spatial : pair.spatial ≤ wish.spatial
  pub temporal : pair.temporal ≤ wish.temporal

-- a target is active if its bit is set in the mask
abbrev pub ActiveInWords : Type 0
ActiveInWords = (f : FrameMeaning) (target : ℕ) → (is_active f target ≡ true) ↔ HasBit f.mask target

-- a frame is a switch for a target if its indication says so
abbrev pub SwitchInWords : Type 0
SwitchInWords = (f : FrameMeaning) (target : ℕ) → (is_switch f target ≡ true) ↔ (indication f target ≡ Switch)

-- a frame is present in an existing target unless its indication says that it isn't; discardable frames are present too
abbrev pub PresentInWords : Type 0
PresentInWords = (f : FrameMeaning) (target : ℕ)
    → (is_present f target ≡ true) ↔ ((target < f.target_count) × (indication f target ≢ NotPresent))

abbrev pub AllowedInWords : Type 0
AllowedInWords = (wish : Wish) (f : FrameMeaning) (target : ℕ) → (is_allowed wish f target ≡ true) ↔ IsAllowed wish f target
