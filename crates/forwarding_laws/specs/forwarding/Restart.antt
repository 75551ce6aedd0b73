-- Which frames may pass because of the chains: on an open target only frames that are linked by its chain, and after a broken chain only a
-- restart. Own rules, over AV1 RTP payload format, Appendix A (chains). The code keeps a window of passed numbers.
use Rattle.std.specs.Prelude.{◌≡◌, ◌⊎◌, ◌+◌, ◌<◌, ◌≤◌, ℕ, Bool, true}
use Rattle.std.specs.declared.option.Option.TheVariants.{None, Some}
use Rattle.sfu_base.specs.declared.frame.FrameMeaning.{FrameMeaning}
use Rattle.sfu_base.specs.declared.frame.Wish.{Wish}
use Rattle.forwarding_model.specs.declared.target.CurrentTarget.{CurrentTarget}
use Rattle.forwarding_model.specs.declared.target.CurrentTarget.TheVariants.{Open, Closed}
use Rattle.forwarding_model.specs.forwarding.Targets.{is_switch}
use Rattle.forwarding_model.specs.forwarding.Selection.{missing_reference, chain_link, target_under_mask, kept_target, opening}
use Rattle.forwarding_model.specs.forwarding.Standing.{Standing, target_at, has_passed, key_passed, kept_target_at}

-- if the target's chain links f to the opening frame or a later frame, that frame was passed
abbrev pub IsLinked : (ℕ → Bool) → FrameMeaning → ℕ → ℕ → Type 0
IsLinked has f target opened = 0 < f.chain_count → 0 < chain_link f target → opened + chain_link f target ≤ f.number
    → has (chain_link f target) ≡ true

-- the candidate is a target that f opens, with f as its opening frame; or it was open before f, with its opening frame, and is linked
abbrev pub IsOpenAndLinked : (ℕ → Bool) → Bool → Wish → FrameMeaning → (current candidate : CurrentTarget) → Type 0
IsOpenAndLinked has key_passed wish f current (Open target opened) =
    ((opening has key_passed wish f (kept_target has f current) ≡ Some target) × (opened ≡ f.number))
    ⊎ ((current ≡ Open target opened) × IsLinked has f target opened)
IsOpenAndLinked has key_passed wish f current (Closed reason) = ⊥

abbrev pub WasClosed : CurrentTarget → CurrentTarget → Type 0
WasClosed (Open target opened) (Closed reason) = Unit {0}
WasClosed (Open target opened) (Open later reopened) = ⊥
WasClosed (Closed reason) after = ⊥

-- The rule on the link closes the target at f: the target is open after the rules on the epoch and the mask, and isn't open after the rule on the link.
abbrev pub BreaksAt : Standing → FrameMeaning → Type 0
BreaksAt s f = WasClosed (target_under_mask f (target_at s f)) (kept_target_at s f)

-- f opens a target, and is a switch for it
abbrev pub OpensBySwitch : Standing → FrameMeaning → Type 0
OpensBySwitch s f =
    (target : ℕ) × (opening (has_passed s f) (key_passed s f) s.wish f (kept_target_at s f) ≡ Some target) × (is_switch f target ≡ true)

-- all references of f were passed, and f is a key frame, or a switch for the target that it opens
pub record IsRestart (s : Standing) (f : FrameMeaning) : Type 0 where
  pub complete : missing_reference (has_passed s f) f ≡ None
  pub begins : (f.key ≡ true) ⊎ OpensBySwitch s f
