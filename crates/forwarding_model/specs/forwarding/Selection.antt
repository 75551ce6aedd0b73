-- Whether a frame goes to a subscriber: the rules on another epoch, the mask, the link, opening and passing, and the verdict on a frame. Own
-- rules, over the fields of AV1 RTP payload format, Appendix A. Two interpretations are fixed here: a frame that is a switch for a target may
-- open it, and a chain distance of 0 (frame_chain_fdiff) closes nothing. The rules use only two values about the frames passed before. The test
-- `has d` says that the frame d below f was passed in f's epoch. `key_passed` says that a key frame of f's epoch was passed. In the code, a
-- window of bits decides the test; in a standing (`Standing`), the list of passed frames does. No test subtracts, since numbers stop at 0: a
-- frame d below n is one whose number plus d is n.
use Rattle.std.specs.Prelude.{◌≡◌, ◌<◌, ◌+◌, ◌-◌, ℕ, Bool, true, false, if◌then◌else◌, ◌&&◌, ◌||◌, not, nat_lt, nat_le, slice_index_or}
use Rattle.std.specs.List.{AllByRecursion}
use Rattle.std.specs.declared.option.Option.{Option}
use Rattle.std.specs.declared.option.Option.TheVariants.{None, Some}
use Rattle.sfu_base.specs.declared.frame.FrameMeaning.{FrameMeaning}
use Rattle.sfu_base.specs.declared.frame.Wish.{Wish}
use Rattle.sfu_base.specs.declared.frame.Verdict.{Verdict}
use Rattle.sfu_base.specs.declared.frame.Verdict.TheVariants.{Passed, NotOfTarget, Behind, Reference, Full, Link, Unopened}
use Rattle.forwarding_model.specs.declared.target.CurrentTarget.{CurrentTarget}
use Rattle.forwarding_model.specs.declared.target.CurrentTarget.TheVariants.{Open, Closed}
use Rattle.forwarding_model.specs.declared.target.Reason.{Reason}
use Rattle.forwarding_model.specs.declared.target.Reason.TheVariants.{BrokenLink, NotOpened}
use Rattle.forwarding_model.specs.Lists.{first_failing, is_nothing}
use Rattle.forwarding_model.specs.forwarding.Targets.{references, is_switch, is_present, is_active, is_allowed, is_better, best, aim}

-- the first reference of f that wasn't passed
abbrev pub missing_reference : (ℕ → Bool) → FrameMeaning → Option ℕ
missing_reference has f = first_failing has (references f)

-- the open target's index, if one is open
abbrev pub open_target : CurrentTarget → Option ℕ
open_target (Open target opened) = Some target
open_target (Closed reason) = None

-- The rule on another epoch, by which a frame of another epoch closes the target, is a rule on the standing (`Standing`).

-- The rule on the mask: if the mask of f lacks the target's bit, the target is closed.
abbrev pub target_under_mask : FrameMeaning → CurrentTarget → CurrentTarget
target_under_mask f (Open target opened) = if is_active f target then Open target opened else Closed (NotOpened f.number)
target_under_mask f (Closed reason) = Closed reason

-- the distance from f to the frame before it in the chain that protects the target (decode_target_protected_by, frame_chain_fdiff)
abbrev pub chain_link : FrameMeaning → ℕ → ℕ
chain_link f target = slice_index_or f.links (slice_index_or f.guards target 0) 0

-- there are chains, and f's link names the opening frame or a later frame, which wasn't passed
abbrev pub is_link_broken : (ℕ → Bool) → FrameMeaning → ℕ → ℕ → Bool
is_link_broken has f target opened =
    nat_lt 0 f.chain_count
    && (nat_lt 0 (chain_link f target)
    && (nat_le (opened + chain_link f target) f.number
    && not (has (chain_link f target))))

-- The rule on the link: a target whose chain is broken at f is closed.
abbrev pub target_after_link : (ℕ → Bool) → FrameMeaning → CurrentTarget → CurrentTarget
target_after_link has f (Open target opened) =
    if is_link_broken has f target opened then Closed (BrokenLink f.number (f.number - chain_link f target)) else Open target opened
target_after_link has f (Closed reason) = Closed reason

-- the target after the rules on the mask and the link; if f doesn't pass, this is the target after f
abbrev pub kept_target : (ℕ → Bool) → FrameMeaning → CurrentTarget → CurrentTarget
kept_target has f target = target_after_link has f (target_under_mask f target)

-- no target is open, or the open one isn't allowed, or the other is better
abbrev pub is_upgrade : Wish → FrameMeaning → CurrentTarget → ℕ → Bool
is_upgrade wish f (Open target opened) other = not (is_allowed wish f target) || is_better f other target
is_upgrade wish f (Closed reason) other = true

-- The rule on opening has five conditions. The target is allowed. f is a switch for it, or a key frame that is present in it. All references of
-- f were passed (`complete`). f is a key frame, or a key frame of its epoch was passed (`keyed`). The target is an upgrade.
abbrev pub can_open : Wish → Bool → Bool → FrameMeaning → CurrentTarget → ℕ → Bool
can_open wish complete keyed f current target =
    is_allowed wish f target
    && ((is_switch f target || (f.key && is_present f target))
    && (complete
    && (keyed
    && is_upgrade wish f current target)))

-- the best target that f can open
abbrev pub opening : (ℕ → Bool) → Bool → Wish → FrameMeaning → CurrentTarget → Option ℕ
opening has key_passed wish f current =
    best f (can_open wish (is_nothing (missing_reference has f)) (f.key || key_passed) f current)

abbrev pub opened_or : FrameMeaning → Option ℕ → CurrentTarget → CurrentTarget
opened_or f None current = current
opened_or f (Some target) current = Open target f.number

-- the best target that f can open or, if it can open none, the open target; if f passes, this is the target after f
abbrev pub candidate : (ℕ → Bool) → Bool → Wish → FrameMeaning → CurrentTarget → CurrentTarget
candidate has key_passed wish f current =
    opened_or f (opening has key_passed wish f (kept_target has f current)) (kept_target has f current)

abbrev pub is_present_in : FrameMeaning → CurrentTarget → Bool
is_present_in f (Open target opened) = is_present f target
is_present_in f (Closed reason) = false

-- the queue of a subscriber contains at most 512 packets
abbrev pub has_capacity : ℕ → ℕ → Bool
has_capacity queued packets = nat_le (queued + packets) 512

-- The rule on passing: f passes exactly when there is a candidate, f is present in it, all its references were passed, and the queue has space.
abbrev pub passes : (ℕ → Bool) → Bool → Wish → FrameMeaning → CurrentTarget → ℕ → ℕ → Bool
passes has key_passed wish f current queued packets =
    is_present_in f (candidate has key_passed wish f current)
    && (is_nothing (missing_reference has f) && has_capacity queued packets)

-- ---- the verdict

-- the target of f: the candidate, or the aim if there is no candidate
abbrev pub target_of : Wish → FrameMeaning → CurrentTarget → Option ℕ
target_of wish f (Open target opened) = Some target
target_of wish f (Closed reason) = aim wish f

abbrev pub reason_verdict : Reason → Verdict
reason_verdict (BrokenLink at number) = Link at number
reason_verdict (NotOpened since) = Unopened since

-- the verdict for an open candidate is passed or full; for a closed one, it is the target's reason
abbrev pub candidate_verdict : ℕ → ℕ → CurrentTarget → Verdict
candidate_verdict queued packets (Open target opened) = if has_capacity queued packets then Passed else Full queued packets
candidate_verdict queued packets (Closed reason) = reason_verdict reason

-- A reference that wasn't passed decides first. Its verdict is `Behind` if the reference lies below the epoch's start.
abbrev pub reference_verdict : FrameMeaning → Option ℕ → Verdict → Verdict
reference_verdict f None otherwise = otherwise
reference_verdict f (Some distance) otherwise =
    if nat_lt f.number (f.start + distance) then Behind distance f.start else Reference (f.number - distance)

-- Two cases are decided even before that: there is no target, or f isn't present in the target.
abbrev pub target_verdict : FrameMeaning → Option ℕ → Verdict → Verdict
target_verdict f None otherwise = NotOfTarget None
target_verdict f (Some target) otherwise = if is_present f target then otherwise else NotOfTarget (Some target)

abbrev pub verdict : (ℕ → Bool) → Bool → Wish → FrameMeaning → CurrentTarget → ℕ → ℕ → Verdict
verdict has key_passed wish f current queued packets =
    target_verdict f (target_of wish f (candidate has key_passed wish f current))
    (reference_verdict f (missing_reference has f)
    (candidate_verdict queued packets (candidate has key_passed wish f current)))

-- ---- two tests

-- The tests agree on the references of f and on its links. The rules use no other distances, so a window that is exact for these leads to the
-- same decisions as the whole list.
pub record Agree (p q : ℕ → Bool) (f : FrameMeaning) : Type 0 where
  pub references : AllByRecursion (λ d. p d ≡ q d) (references f)
  pub links : (target : ℕ) → 0 < chain_link f target → p (chain_link f target) ≡ q (chain_link f target)
