use Rattle.std.proofs.Common.{◌≡◌, true, List, ℕ, ap, subst, sym, ◌∙◌}
use Rattle.std.specs.Prelude.{◌==◌, bit_and}
use Rattle.std.specs.declared.option.Option.TheVariants.{None}
use Rattle.forwarding_model.specs.forwarding.Selection.{missing_reference}
use Rattle.forwarding_model.specs.forwarding.Targets.{references}
use Rattle.ref_window.specs.Numbers.{AreBelow, has_below}
use Rattle.target_selector.specs.Offers.{Offered}
use Rattle.target_selector.proofs.References.{are_within, none_missing, within_is}
use Rattle.target_selector.proofs.frame_offer.FrameOffer.refers_within.Goals as goal

pub returns-clause-exact : goal.returns-clause-exact
returns-clause-exact c =
    within_is (references c.self.inside.frame.now) c.self.inside.needed c.args.passed c.self.invariant.needed_are
    ∙ ap (λ (o : Offered). are_within c.args.passed (references o.frame)) c.self.view_is

pub returns-clause-passed : goal.returns-clause-passed
returns-clause-passed c =
    subst (λ (o : Offered). (numbers : List ℕ) → AreBelow numbers o.frame.number c.args.passed → (bit_and c.self.inside.needed c.args.passed == c.self.inside.needed) ≡ true
    → missing_reference (has_below numbers o.frame.number) o.frame ≡ None) c.self.view_is
    (λ numbers below all.
    none_missing numbers c.self.inside.frame.now c.args.passed below
    (sym (within_is (references c.self.inside.frame.now) c.self.inside.needed c.args.passed c.self.invariant.needed_are) ∙ all))
