-- Which standings a selector represents. Own rules.
-- A standing is the state of a timeline after its events, so a fact about every standing that a selector represents is a fact about every timeline.
use Rattle.std.specs.Prelude.{◌≡◌, ◌+◌, ◌<◌, ◌≤◌, ◌&&◌, ℕ, Bool, true, false, Option}
use Rattle.std.specs.List.{AllByRecursion, list_any}
use Rattle.std.specs.declared.option.Option.TheVariants.{None, Some}
use Rattle.sfu_base.specs.declared.frame.FrameMeaning.{FrameMeaning}
use Rattle.forwarding_model.specs.forwarding.Outgoing.{is_top_layer}
use Rattle.forwarding_model.specs.forwarding.Selection.{candidate_verdict, has_capacity, is_present_in, opened_or, opening, reference_verdict, target_of, target_verdict}
use Rattle.forwarding_model.specs.forwarding.Standing.{Standing, after_frame, candidate_at, has_passed, is_key, kept_target_at, key_passed, passed_at, passes_at, target_at, verdict_at}
use Rattle.ref_window.specs.Numbers.{held_of}
use Rattle.chain_state.specs.Links.{numbers_of}
use Rattle.sfu_base.specs.declared.frame.Wish.{Wish}
use Rattle.sfu_base.specs.declared.frame.Verdict.{Verdict}
use Rattle.sfu_base.specs.declared.frame.Verdict.TheVariants.{Passed}
use Rattle.forwarding_model.specs.declared.target.CurrentTarget.{CurrentTarget}
use Rattle.forwarding_model.specs.Lists.{is_nothing}
use Rattle.target_selector.specs.Offers.{Offered}
use Rattle.target_selector.specs.Reaching.{targets_of}
use Rattle.target_selector.specs.Seen.{Seen}

-- the selector agrees with the standing, except for the queue and for the frames that passed in earlier epochs
pub record StandsFor (x : Seen) (s : Standing) : Type 0 where
  pub wish : x.wish ≡ s.wish
  pub epoch : x.epoch ≡ s.epoch
  pub target : x.target ≡ s.target
  pub key_passed : x.key_passed ≡ list_any is_key s.epoch_passed
  pub numbers : x.numbers ≡ held_of (numbers_of s.epoch_passed)

-- the same at a frame, after the selector has begun the frame's epoch
pub record StandsAt (x : Seen) (s : Standing) (f : FrameMeaning) : Type 0 where
  pub wish : x.wish ≡ s.wish
  pub epoch : x.epoch ≡ Some f.epoch
  pub target : x.target ≡ target_at s f
  pub key_passed : x.key_passed ≡ key_passed s f
  pub numbers : x.numbers ≡ held_of (numbers_of (passed_at s f))

-- the same after the rules on the mask and the link were applied: the target that is left stays if the frame doesn't pass
pub record KeepsAt (x : Seen) (s : Standing) (f : FrameMeaning) : Type 0 where
  pub wish : x.wish ≡ s.wish
  pub epoch : x.epoch ≡ Some f.epoch
  pub target : x.target ≡ kept_target_at s f
  pub key_passed : x.key_passed ≡ key_passed s f
  pub numbers : x.numbers ≡ held_of (numbers_of (passed_at s f))

-- each frame that passed in the epoch is below the frame
abbrev pub IsAboveAll : FrameMeaning → Standing → Type 0
IsAboveAll f s = AllByRecursion (λ g. g.number < f.number) s.epoch_passed

abbrev pub is_something : Option ℕ → Bool
is_something None = false
is_something (Some n) = true

-- if f passes, it opens its target
abbrev pub is_opening_at : Standing → FrameMeaning → Bool
is_opening_at s f = is_something (opening (has_passed s f) (key_passed s f) s.wish f (kept_target_at s f))

-- Whether the frame passes, and the verdict on it. Both follow from its first
-- reference that wasn't passed, the target that it opens, and the target that is left.
abbrev pub passes_by : FrameMeaning → ℕ → ℕ → CurrentTarget → Option ℕ → Option ℕ → Bool
passes_by f packets queued kept missing opened = is_present_in f (opened_or f opened kept) && (is_nothing missing && has_capacity queued packets)

abbrev pub verdict_by : FrameMeaning → ℕ → ℕ → Wish → CurrentTarget → Option ℕ → Option ℕ → Verdict
verdict_by f packets queued wish kept missing opened =
    target_verdict f (target_of wish f (opened_or f opened kept))
    (reference_verdict f missing (candidate_verdict queued packets (opened_or f opened kept)))

-- These values, computed for a frame, agree with the rules for the frame in this state of the subscriber.
pub record IsJudged (s : Standing) (f : FrameMeaning) (packets queued : ℕ) (kept : CurrentTarget) (missing opened : Option ℕ) : Type 0 where
  pub candidate : opened_or f opened kept ≡ candidate_at s f
  pub opens : is_something opened ≡ is_opening_at s f
  pub passes : passes_by f packets queued kept missing opened ≡ passes_at s f packets
  pub verdict : verdict_by f packets queued s.wish kept missing opened ≡ verdict_at s f packets

-- An offered frame got this verdict while `queued` packets were queued. It is the verdict of each standing that the selector
-- represented, if the standing's passed frames are below the frame. The selector then represents the next standing.
pub record IsAdmitted (old new : Seen) (offer : Offered) (queued : ℕ) (result : Verdict) : Type 0 where
  pub verdict : (s : Standing) → StandsFor old s → IsAboveAll offer.frame s → s.queued ≡ queued → result ≡ verdict_at s offer.frame offer.packets
  pub stands : (s : Standing) → StandsFor old s → IsAboveAll offer.frame s → s.queued ≡ queued → StandsFor new (after_frame s offer.frame offer.packets)
  pub capacity : result ≡ Passed → queued + offer.packets ≤ 512
  pub top : (s : Standing) → StandsFor old s → IsAboveAll offer.frame s → s.queued ≡ queued → result ≡ Passed
      → new.top ≡ is_top_layer offer.frame (candidate_at s offer.frame)
  pub opened : (s : Standing) → StandsFor old s → IsAboveAll offer.frame s → s.queued ≡ queued → result ≡ Passed → new.opened ≡ is_opening_at s offer.frame
  pub not_top : (result ≡ Passed → ⊥) → new.top ≡ false
  pub not_opened : (result ≡ Passed → ⊥) → new.opened ≡ false
  pub newest : new.newest ≡ Some (targets_of offer.frame)
