-- How a standing changes, in words: the target after a frame, and the standing after each event. Own statements, over AV1 RTP payload format,
-- Appendix A (active_decode_targets_bitmask, chains).
use Rattle.std.specs.Prelude.{◌≡◌, ◌≢◌, ◌+◌, ◌-◌, ◌<◌, ◌≤◌, ℕ, List, [], ◌∷◌, true, false, length}
use Rattle.std.specs.declared.option.Option.TheVariants.{None, Some}
use Rattle.sfu_base.specs.declared.frame.FrameMeaning.{FrameMeaning}
use Rattle.sfu_base.specs.declared.frame.Wish.{Wish}
use Rattle.forwarding_model.specs.declared.target.CurrentTarget.TheVariants.{Open, Closed}
use Rattle.forwarding_model.specs.declared.target.Reason.{Reason}
use Rattle.forwarding_model.specs.declared.target.Reason.TheVariants.{BrokenLink, NotOpened}
use Rattle.forwarding_model.specs.forwarding.Targets.{is_active}
use Rattle.forwarding_model.specs.forwarding.Selection.{chain_link}
use Rattle.forwarding_model.specs.forwarding.Timeline.{Packet, Frame, Event, frames_of}
use Rattle.forwarding_model.specs.forwarding.Timeline.Event.{WholeFrame, PlainPacket, WishChange, Take}
use Rattle.forwarding_model.specs.forwarding.Standing.{Standing, passed_at, has_passed, kept_target_at, candidate_at, passes_at, standing}
use Rattle.forwarding_laws.specs.forwarding.Decisions.{IsBrokenLink, IsOpenAt, ClosesAt, ClosesNone}

-- ---- the target after a frame

-- at a frame of another epoch, no frame of that epoch was passed yet, and no target is open since that frame
abbrev pub OtherEpochsBeginAnew : Type 0
OtherEpochsBeginAnew = (s : Standing) (f : FrameMeaning) → s.epoch ≢ Some f.epoch
    → (passed_at s f ≡ []) × (kept_target_at s f ≡ Closed (NotOpened f.number))

-- within an epoch, all frames of the epoch that passed count
abbrev pub EpochsGoOn : Type 0
EpochsGoOn = (s : Standing) (f : FrameMeaning) → s.epoch ≡ Some f.epoch → passed_at s f ≡ s.epoch_passed

-- an open target that the mask of f lacks is closed at f
abbrev pub MasksClose : Type 0
MasksClose = (s : Standing) (f : FrameMeaning) (target opened : ℕ) → IsOpenAt s f target opened → is_active f target ≡ false
    → kept_target_at s f ≡ Closed (NotOpened f.number)

-- a target whose link is broken is closed at f, because of the frame that the link names
abbrev pub LinksClose : Type 0
LinksClose = (s : Standing) (f : FrameMeaning) (target opened number : ℕ) → IsOpenAt s f target opened → is_active f target ≡ true
    → IsBrokenLink (has_passed s f) f target opened → number + chain_link f target ≡ f.number
    → kept_target_at s f ≡ Closed (BrokenLink f.number number)

-- a target with a link that isn't broken stays open, with its opening frame
abbrev pub OtherTargetsStay : Type 0
OtherTargetsStay = (s : Standing) (f : FrameMeaning) (target opened : ℕ) → IsOpenAt s f target opened → is_active f target ≡ true
    → (IsBrokenLink (has_passed s f) f target opened → ⊥) → kept_target_at s f ≡ Open target opened

-- within an epoch a closed target stays closed, for the reason that it has
abbrev pub ClosedTargetsStay : Type 0
ClosedTargetsStay = (s : Standing) (f : FrameMeaning) (reason : Reason) → s.epoch ≡ Some f.epoch → s.target ≡ Closed reason
    → kept_target_at s f ≡ Closed reason

-- a frame that closes a target for a reason leaves it closed for this reason
abbrev pub ClosingFramesClose : Type 0
ClosingFramesClose = (s : Standing) (f : FrameMeaning) (reason : Reason) → ClosesAt s f reason → kept_target_at s f ≡ Closed reason

-- a frame that closes no target leaves the target as it is
abbrev pub OtherFramesKeep : Type 0
OtherFramesKeep = (s : Standing) (f : FrameMeaning) → ClosesNone s f → kept_target_at s f ≡ s.target

-- ---- how an event changes a standing

-- f passed: it is the newest passed frame, of its epoch and of all; its candidate is the target; its packets are queued
pub record TakesIn (before : Standing) (f : FrameMeaning) (packets : ℕ) (after : Standing) : Type 0 where
  pub epoch : after.epoch ≡ Some f.epoch
  pub epoch_passed : after.epoch_passed ≡ f ∷ (passed_at before f)
  pub target : after.target ≡ candidate_at before f
  pub passed : after.passed ≡ f ∷ before.passed
  pub queued : after.queued ≡ before.queued + packets
  pub wish : after.wish ≡ before.wish

-- f didn't pass: the epoch is f's, the target is the one after the closing rules at f, and nothing else changed
pub record Withholds (before : Standing) (f : FrameMeaning) (after : Standing) : Type 0 where
  pub epoch : after.epoch ≡ Some f.epoch
  pub epoch_passed : after.epoch_passed ≡ passed_at before f
  pub target : after.target ≡ kept_target_at before f
  pub passed : after.passed ≡ before.passed
  pub queued : after.queued ≡ before.queued
  pub wish : after.wish ≡ before.wish

abbrev pub PassingFramesAreTakenIn : Type 0 → Type 0
PassingFramesAreTakenIn S = (wish : Wish) (frame : Frame S) (past : List (Event S))
    → passes_at (standing wish past) frame.meaning (length frame.packets) ≡ true
    → TakesIn (standing wish past) frame.meaning (length frame.packets) (standing wish (WholeFrame frame ∷ past))

abbrev pub OtherFramesAreWithheld : Type 0 → Type 0
OtherFramesAreWithheld S = (wish : Wish) (frame : Frame S) (past : List (Event S))
    → passes_at (standing wish past) frame.meaning (length frame.packets) ≡ false
    → Withholds (standing wish past) frame.meaning (standing wish (WholeFrame frame ∷ past))

-- a packet of a plain track changes only the queue, and nothing if 512 packets are queued
abbrev pub PlainPacketsAreQueued : Type 0 → Type 0
PlainPacketsAreQueued S = (wish : Wish) (packet : Packet) (past : List (Event S))
    → ((standing wish past).queued < 512
    → standing wish (PlainPacket packet ∷ past) ≡ record (standing wish past) { queued = (standing wish past).queued + 1 })
    × (512 ≤ (standing wish past).queued → standing wish (PlainPacket packet ∷ past) ≡ standing wish past)

-- a change of the wish changes only the wish
abbrev pub WishesChangeAlone : Type 0 → Type 0
WishesChangeAlone S = (wish changed : Wish) (past : List (Event S))
    → standing wish (WishChange changed ∷ past) ≡ record (standing wish past) { wish = changed }

-- a take changes only the queue
abbrev pub TakesChangeTheQueue : Type 0 → Type 0
TakesChangeTheQueue S = (wish : Wish) (past : List (Event S))
    → standing wish (Take ∷ past) ≡ record (standing wish past) { queued = (standing wish past).queued - 1 }

-- so the epoch is always that of the newest frame, and there is none before the first
abbrev pub NewestFramesHaveTheEpoch : Type 0 → Type 0
NewestFramesHaveTheEpoch S = (wish : Wish) (events : List (Event S))
    → (frames_of events ≡ [] → (standing wish events).epoch ≡ None)
    × ((frame : Frame S) (older : List (Frame S)) → frames_of events ≡ frame ∷ older
    → (standing wish events).epoch ≡ Some frame.meaning.epoch)
