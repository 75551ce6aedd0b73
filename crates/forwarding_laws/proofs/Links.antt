-- A frame that passes opens its target, or the frame that its link in the target's chain names was passed.
use Rattle.std.proofs.Common.{◌≡◌, inl, inr, ◌+◌, ◌-◌, ℕ, Bool, true, false, refl, sym, ap, ◌∙◌, cond, true≢false}
use Rattle.std.proofs.lemmas.Bool.{and_parts, lt-ltb, le-leb}
use Rattle.std.specs.declared.option.Option.{Option}
use Rattle.std.specs.declared.option.Option.TheVariants.{None, Some}
use Rattle.sfu_base.specs.declared.frame.FrameMeaning.{FrameMeaning}
use Rattle.sfu_base.specs.declared.frame.Wish.{Wish}
use Rattle.forwarding_model.specs.declared.target.CurrentTarget.{CurrentTarget}
use Rattle.forwarding_model.specs.declared.target.CurrentTarget.TheVariants.{Open, Closed}
use Rattle.forwarding_model.specs.declared.target.Reason.TheVariants.{BrokenLink, NotOpened}
use Rattle.forwarding_model.specs.forwarding.Targets.{is_active}
use Rattle.forwarding_model.specs.forwarding.Selection.{candidate, chain_link, is_link_broken, is_present_in, kept_target, opened_or, opening, passes, target_after_link}
use Rattle.forwarding_laws.specs.forwarding.Restart.{IsLinked, IsOpenAndLinked}

-- if the link isn't broken, the target is linked
unbroken_linked : (has : ℕ → Bool) (f : FrameMeaning) (target opened : ℕ) → is_link_broken has f target opened ≡ false → IsLinked has f target opened
unbroken_linked has f target opened whole chains linked late = go (has (chain_link f target)) refl
  where
    go : (b : Bool) → has (chain_link f target) ≡ b → has (chain_link f target) ≡ true
    go true e = e
    go false e =
        let broken : is_link_broken has f target opened ≡ true
        = rw (lt-ltb 0 f.chain_count chains, lt-ltb 0 (chain_link f target) linked, le-leb (opened + chain_link f target) f.number late, e) refl in
        absurd (true≢false (sym broken ∙ whole))

kept_linked : (has : ℕ → Bool) (f : FrameMeaning) (target opened : ℕ) → target_after_link has f (Open target opened) ≡ Open target opened → IsLinked has f target opened
kept_linked has f target opened h = go (is_link_broken has f target opened) refl h
  where
    go : (b : Bool) → is_link_broken has f target opened ≡ b
        → cond b (Closed (BrokenLink f.number (f.number - chain_link f target))) (Open target opened) ≡ Open target opened → IsLinked has f target opened
    go true e k = absurd (cc)
    go false e k = unbroken_linked has f target opened e

-- a target that is open after the rules on the mask and the link was open before
pub kept_open : (has : ℕ → Bool) (f : FrameMeaning) (current : CurrentTarget) (target opened : ℕ) → kept_target has f current ≡ Open target opened
    → (current ≡ Open target opened) × IsLinked has f target opened
kept_open has f (Closed reason) target opened h = absurd (cc)
kept_open has f (Open before from) target opened h = go (is_active f before) h
  where
    same : (b : Bool) → cond b (Closed (BrokenLink f.number (f.number - chain_link f before))) (Open before from) ≡ Open target opened → Open before from ≡ Open target opened
    same true k = absurd (cc)
    same false k = k

    go : (b : Bool) → target_after_link has f (cond b (Open before from) (Closed (NotOpened f.number))) ≡ Open target opened
        → (Open before from ≡ Open target opened) × IsLinked has f target opened
    go true k =
        let is : Open before from ≡ Open target opened = same (is_link_broken has f before from) k in
        (is, kept_linked has f target opened (ap (target_after_link has f) (sym is) ∙ k))
    go false k = absurd (cc)

pub passes_linked : (has : ℕ → Bool) (key_passed : Bool) (wish : Wish) (f : FrameMeaning) (current : CurrentTarget) (queued packets : ℕ)
    → passes has key_passed wish f current queued packets ≡ true → IsOpenAndLinked has key_passed wish f current (candidate has key_passed wish f current)
passes_linked has key_passed wish f current queued packets h =
    go (opening has key_passed wish f (kept_target has f current)) refl (and_parts (is_present_in f (candidate has key_passed wish f current)) _ h).0
  where
    kept : (t : CurrentTarget) → kept_target has f current ≡ t → is_present_in f t ≡ true → IsOpenAndLinked has key_passed wish f current t
    kept (Closed reason) e p = true≢false (sym p)
    kept (Open target opened) e p = inr (kept_open has f current target opened e)

    go : (o : Option ℕ) → opening has key_passed wish f (kept_target has f current) ≡ o → is_present_in f (opened_or f o (kept_target has f current)) ≡ true
        → IsOpenAndLinked has key_passed wish f current (opened_or f o (kept_target has f current))
    go None e p = kept (kept_target has f current) refl p
    go (Some target) e p = inl (e, refl)
