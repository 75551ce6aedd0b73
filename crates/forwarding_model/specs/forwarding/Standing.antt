-- The standing of a subscriber after a timeline. Own rules. The standing has the list of all passed frames of the epoch. The code keeps a
-- window of the last 4,096 numbers, and whether a key frame was passed.
use Rattle.std.specs.Prelude.{◌+◌, ◌-◌, ℕ, List, [], ◌∷◌, Bool, true, false, if◌then◌else◌, ◌==◌, nat_lt, length}
use Rattle.std.specs.declared.option.Option.{Option}
use Rattle.std.specs.declared.option.Option.TheVariants.{None, Some}
use Rattle.std.specs.List.{list_any}
use Rattle.sfu_base.specs.declared.frame.FrameMeaning.{FrameMeaning}
use Rattle.sfu_base.specs.declared.frame.Wish.{Wish}
use Rattle.sfu_base.specs.declared.frame.Verdict.{Verdict}
use Rattle.forwarding_model.specs.declared.target.CurrentTarget.{CurrentTarget}
use Rattle.forwarding_model.specs.declared.target.CurrentTarget.TheVariants.{Closed}
use Rattle.forwarding_model.specs.declared.target.Reason.TheVariants.{NotOpened}
use Rattle.forwarding_model.specs.forwarding.Selection.{kept_target, candidate, passes, verdict}
use Rattle.forwarding_model.specs.forwarding.Timeline.{Event}
use Rattle.forwarding_model.specs.forwarding.Timeline.Event.{WholeFrame, PlainPacket, WishChange, Take}

pub record Standing : Type 0 where
  pub wish : Wish
  pub epoch : Option ℕ  -- none before the first frame
  pub epoch_passed : List FrameMeaning  -- the frames of the epoch that passed, the newest first
  pub target : CurrentTarget
  pub passed : List FrameMeaning  -- all frames that passed, the newest first
  pub queued : ℕ  -- the number of packets that passed, minus those that were taken

-- The standing before the first event. The reason is never used, since the first frame sets another one.
abbrev pub joined : Wish → Standing
joined wish = record { wish = wish; epoch = None; epoch_passed = []; target = Closed (NotOpened 0); passed = []; queued = 0 }

abbrev pub is_epoch : Option ℕ → ℕ → Bool
is_epoch None epoch = false
is_epoch (Some current) epoch = current == epoch

abbrev pub is_key : FrameMeaning → Bool
is_key f = f.key

-- one of these frames has the number that is d below n
abbrev pub has_below : List FrameMeaning → ℕ → ℕ → Bool
has_below frames n d = list_any (λ g. (g.number + d) == n) frames

-- The rule on another epoch: when the first frame of an epoch arrives, no frame of that epoch was passed, and no target is open.
abbrev pub passed_at : Standing → FrameMeaning → List FrameMeaning
passed_at s f = if is_epoch s.epoch f.epoch then s.epoch_passed else []

abbrev pub target_at : Standing → FrameMeaning → CurrentTarget
target_at s f = if is_epoch s.epoch f.epoch then s.target else Closed (NotOpened f.number)

-- the frame d below f was passed, in f's epoch
abbrev pub has_passed : Standing → FrameMeaning → ℕ → Bool
has_passed s f d = has_below (passed_at s f) f.number d

-- a key frame of f's epoch was passed
abbrev pub key_passed : Standing → FrameMeaning → Bool
key_passed s f = list_any is_key (passed_at s f)

-- ---- the rules on the mask, the link, opening and passing, and the verdict, at a standing

abbrev pub kept_target_at : Standing → FrameMeaning → CurrentTarget
kept_target_at s f = kept_target (has_passed s f) f (target_at s f)

abbrev pub candidate_at : Standing → FrameMeaning → CurrentTarget
candidate_at s f = candidate (has_passed s f) (key_passed s f) s.wish f (target_at s f)

abbrev pub passes_at : Standing → FrameMeaning → ℕ → Bool
passes_at s f packets = passes (has_passed s f) (key_passed s f) s.wish f (target_at s f) s.queued packets

abbrev pub verdict_at : Standing → FrameMeaning → ℕ → Verdict
verdict_at s f packets = verdict (has_passed s f) (key_passed s f) s.wish f (target_at s f) s.queued packets

-- ---- one event after another

-- the standing after the frame f, which has this number of packets; `true` if it passes
abbrev pub admitted : Bool → Standing → FrameMeaning → ℕ → Standing
admitted true s f packets =
    record {
      wish = s.wish;
      epoch = Some f.epoch;
      epoch_passed = f ∷ (passed_at s f);
      target = candidate_at s f;
      passed = f ∷ s.passed;
      queued = s.queued + packets;
    }
admitted false s f packets =
    record {
      wish = s.wish;
      epoch = Some f.epoch;
      epoch_passed = (passed_at s f);
      target = kept_target_at s f;
      passed = s.passed;
      queued = s.queued;
    }

abbrev pub after_frame : Standing → FrameMeaning → ℕ → Standing
after_frame s f packets = admitted (passes_at s f packets) s f packets

-- a packet of a plain track passes if fewer than 512 packets are queued
abbrev pub plain_passes : Standing → Bool
plain_passes s = nat_lt s.queued 512

abbrev pub after_plain : Bool → Standing → Standing
after_plain true s = record s { queued = s.queued + 1 }
after_plain false s = s

abbrev pub after : {S : Type 0} → Standing → Event S → Standing
after s (WholeFrame frame) = after_frame s frame.meaning (length frame.packets)
after s (PlainPacket packet) = after_plain (plain_passes s) s
after s (WishChange wish) = record s { wish = wish }
after s Take = record s { queued = s.queued - 1 }

-- the standing of a subscriber that joined with this wish
abbrev pub standing : {S : Type 0} → Wish → List (Event S) → Standing
standing wish [] = joined wish
standing wish (event ∷ past) = after (standing wish past) event
