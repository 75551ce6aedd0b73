-- A test that is exact for the distances that a frame names leads to the same decisions as an exact one.
use Rattle.std.proofs.Common.{◌≡◌, ◌+◌, ◌-◌, ℕ, Bool, true, false, ◌||◌, ◌&&◌, not, List, [], ◌∷◌, ap, refl, ◌∙◌, cond}
use Rattle.std.specs.Prelude.{nat_lt, nat_le}
use Rattle.std.proofs.lemmas.Bool.{ltb-true}
use Rattle.std.specs.List.{AllByRecursion}
use Rattle.std.specs.declared.option.Option.TheVariants.{Some}
use Rattle.sfu_base.specs.declared.frame.FrameMeaning.{FrameMeaning}
use Rattle.sfu_base.specs.declared.frame.Wish.{Wish}
use Rattle.forwarding_model.specs.declared.target.CurrentTarget.{CurrentTarget}
use Rattle.forwarding_model.specs.declared.target.CurrentTarget.TheVariants.{Open, Closed}
use Rattle.forwarding_model.specs.declared.target.Reason.TheVariants.{BrokenLink}
use Rattle.forwarding_model.specs.Lists.{first_failing, is_nothing}
use Rattle.forwarding_model.specs.forwarding.Targets.{references, best}
use Rattle.forwarding_model.specs.forwarding.Selection.{Agree, missing_reference, chain_link, target_under_mask, target_after_link, kept_target, can_open, opened_or, candidate, is_present_in, has_capacity, passes, verdict, target_of, target_verdict, reference_verdict, candidate_verdict}

failing_same : (p q : ℕ → Bool) (xs : List ℕ) → AllByRecursion (λ d. p d ≡ q d) xs → first_failing p xs ≡ first_failing q xs
failing_same p q [] h = refl
failing_same p q (x ∷ xs) h = ap (λ b. cond b (first_failing p xs) (Some x)) h.0 ∙ ap (λ o. cond (q x) o (Some x)) (failing_same p q xs h.1)

missing_agree : (p q : ℕ → Bool) (f : FrameMeaning) → Agree p q f → missing_reference p f ≡ missing_reference q f
missing_agree p q f h = failing_same p q (references f) h.references

linked_agree : (p q : ℕ → Bool) (f : FrameMeaning) (target : CurrentTarget) → Agree p q f → target_after_link p f target ≡ target_after_link q f target
linked_agree p q f (Closed r) h = refl
linked_agree p q f (Open t opened) h = go (nat_lt 0 (chain_link f t)) refl
  where
    cut : Bool → Bool → CurrentTarget
    cut some b = cond (nat_lt 0 f.chain_count && (some && (nat_le (opened + chain_link f t) f.number && not b))) (Closed (BrokenLink f.number (f.number - chain_link f t))) (Open t opened)

    go : (some : Bool) → nat_lt 0 (chain_link f t) ≡ some → cut some (p (chain_link f t)) ≡ cut some (q (chain_link f t))
    go true e = ap (cut true) (h.links t (ltb-true 0 (chain_link f t) e))
    go false e = refl

pub kept_agree : (p q : ℕ → Bool) (f : FrameMeaning) (target : CurrentTarget) → Agree p q f → kept_target p f target ≡ kept_target q f target
kept_agree p q f target h = linked_agree p q f (target_under_mask f target) h

pub candidate_agree : (p q : ℕ → Bool) (keyed : Bool) (wish : Wish) (f : FrameMeaning) (target : CurrentTarget) → Agree p q f
    → candidate p keyed wish f target ≡ candidate q keyed wish f target
candidate_agree p q keyed wish f target h =
    ap (λ m. opened_or f (best f (can_open wish (is_nothing m) (f.key || keyed) f (kept_target p f target))) (kept_target p f target)) (missing_agree p q f h)
    ∙ ap (λ t. opened_or f (best f (can_open wish (is_nothing (missing_reference q f)) (f.key || keyed) f t)) t) (kept_agree p q f target h)

pub passes_agree : (p q : ℕ → Bool) (keyed : Bool) (wish : Wish) (f : FrameMeaning) (target : CurrentTarget) (queued packets : ℕ) → Agree p q f
    → passes p keyed wish f target queued packets ≡ passes q keyed wish f target queued packets
passes_agree p q keyed wish f target queued packets h =
    ap (λ c. is_present_in f c && (is_nothing (missing_reference p f) && has_capacity queued packets)) (candidate_agree p q keyed wish f target h)
    ∙ ap (λ m. is_present_in f (candidate q keyed wish f target) && (is_nothing m && has_capacity queued packets)) (missing_agree p q f h)

pub verdict_agree : (p q : ℕ → Bool) (keyed : Bool) (wish : Wish) (f : FrameMeaning) (target : CurrentTarget) (queued packets : ℕ) → Agree p q f
    → verdict p keyed wish f target queued packets ≡ verdict q keyed wish f target queued packets
verdict_agree p q keyed wish f target queued packets h =
    ap (λ c. target_verdict f (target_of wish f c) (reference_verdict f (missing_reference p f) (candidate_verdict queued packets c))) (candidate_agree p q keyed wish f target h)
    ∙ ap (λ m. target_verdict f (target_of wish f (candidate q keyed wish f target)) (reference_verdict f m (candidate_verdict queued packets (candidate q keyed wish f target)))) (missing_agree p q f h)
