-- Facts that keep indexes within arrays, and the code's tests on the layers of a frame's targets.
use Rattle.std.specs.Prelude.{◌≡◌, ◌<◌, ◌/◌, ◌%◌, ◌^◌, ◌==◌, ◌&&◌, ◌+◌, ◌*◌, ℕ, zero, suc, List, Bool, true, if◌then◌else◌, slice_index_or}
use Rattle.std.specs.declared.option.Option.{Option}
use Rattle.std.specs.declared.option.Option.TheVariants.{None, Some}
use Rattle.sfu_base.specs.declared.frame.FrameMeaning.{FrameMeaning}
use Rattle.sfu_base.specs.declared.frame.Wish.{Wish}
use Rattle.forwarding_model.specs.declared.target.CurrentTarget.{CurrentTarget}
use Rattle.forwarding_model.specs.declared.target.CurrentTarget.TheVariants.{Open, Closed}
use Rattle.forwarding_model.specs.forwarding.Targets.{is_active, is_better_of, is_within}
use Rattle.chain_state.specs.Links.{is_linked}
use Rattle.target_selector.specs.declared.frame_targets.Ranked.{Ranked}

abbrev pub IsIndexBelow : ℕ → CurrentTarget → Type 0
IsIndexBelow n (Open target opened) = target < n
IsIndexBelow n (Closed reason) = Unit {0}

abbrev pub IsBelow : ℕ → Option ℕ → Type 0
IsBelow n None = Unit {0}
IsBelow n (Some target) = target < n

-- no target is open, or the open one is active at f and is linked by a mask of passed frames
abbrev pub stays : FrameMeaning → CurrentTarget → ℕ → Bool
stays f (Open target opened) passed = is_active f target && is_linked f target passed
stays f (Closed reason) passed = true

-- the target's bit is set in the mask; bit 0 is the lowest
abbrev pub is_bit : ℕ → ℕ → Bool
is_bit mask target = (mask / 2 ^ target) % 2 == 1

-- ---- the definitions for a frame's targets, by their layers

abbrev pub layers_in : List (Option Wish) → ℕ → Option Wish
layers_in pairs target = slice_index_or pairs target None

-- the target is in this mask, and its layers are within the wish
abbrev pub allows : Wish → ℕ → List (Option Wish) → ℕ → Bool
allows wish among pairs target = is_bit among target && is_within wish (layers_in pairs target)

abbrev pub better_in : List (Option Wish) → Bool → ℕ → Option ℕ → Option ℕ
better_in pairs passes target None = if passes then Some target else None
better_in pairs passes target (Some other) =
    if passes && is_better_of (layers_in pairs target) (layers_in pairs other) target other then Some target else Some other

abbrev pub best_in : List (Option Wish) → (ℕ → Bool) → ℕ → Option ℕ
best_in pairs test zero = None
best_in pairs test (suc target) = better_in pairs (test target) target (best_in pairs test target)

-- ---- the best target so far, and its height

-- the spatial id decides, then the temporal id
abbrev pub height : Wish → ℕ
height layers = layers.spatial * 256 + layers.temporal

-- it is below n, and a better target after it is higher
pub record IsHigh (pairs : List (Option Wish)) (n target least : ℕ) : Type 0 where
  pub layers : Wish
  pub before : target < n
  pub layers_are : layers_in pairs target ≡ Some layers
  pub least_is : least ≡ height layers + 1
  pub small : layers.temporal < 256

abbrev pub IsHighest : List (Option Wish) → ℕ → Option ℕ → ℕ → Type 0
IsHighest pairs n None least = least ≡ 0
IsHighest pairs n (Some target) least = IsHigh pairs n target least

abbrev pub IsRanked : List (Option Wish) → ℕ → Ranked → Type 0
IsRanked pairs n best = IsHighest pairs n best.target best.least
