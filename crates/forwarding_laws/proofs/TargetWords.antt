-- The tests on targets agree with the words.
use Rattle.std.proofs.Common.{◌≡◌, ◌≢◌, ◌↔◌, ◌+◌, ◌*◌, ◌/◌, ◌%◌, ◌^◌, ◌<◌, ℕ, arith, true, refl, sym, ap, ◌∙◌, true≢false, ◌&&◌}
use Rattle.std.specs.Prelude.{nat_lt, nat_le}
use Rattle.std.proofs.lemmas.Bool.{and_parts, ltb-true, leb-true, lt-ltb, le-leb, eqb-true, eq-eqb}
use Rattle.std.proofs.lemmas.Nat.{div-mul-add, div-add-mod', pow_pos}
use Rattle.std.proofs.Math.Nat.{mod-lt}
use Rattle.std.specs.declared.option.Option.{Option}
use Rattle.std.specs.declared.option.Option.TheVariants.{None, Some}
use Rattle.sfu_base.specs.declared.frame.FrameMeaning.{FrameMeaning}
use Rattle.sfu_base.specs.declared.frame.Dti.{Dti}
use Rattle.sfu_base.specs.declared.frame.Dti.TheVariants.{NotPresent, Discardable, Switch, Required}
use Rattle.sfu_base.specs.declared.frame.Wish.{Wish}
use Rattle.forwarding_model.specs.forwarding.Targets.{indication, says_switch, says_present, is_switch, is_present, is_active, is_within, is_allowed, layers}
use Rattle.forwarding_laws.specs.forwarding.TargetWords.{HasBit, IsAllowed}

-- ---- a bit

odd_quotient : (q : ℕ) → q % 2 ≡ 1 → 2 * (q / 2) + 1 ≡ q
odd_quotient q e = omega arith

bit_stands : (number width : ℕ) → (number / width) % 2 ≡ 1 → number ≡ (2 * (number / width / 2) + 1) * width + number % width
bit_stands number width e =
    sym (ap (λ q. q * width + number % width) (odd_quotient (number / width) e) ∙ div-add-mod' number width)

test_bit : (number bit : ℕ) → (number / 2 ^ bit) % 2 ≡ 1 → HasBit number bit
test_bit number bit e =
    record { above = number / 2 ^ bit / 2; below = number % 2 ^ bit; stands = bit_stands number (2 ^ bit) e; fits = mod-lt number (pow_pos bit) }

bit_test : (number bit : ℕ) → HasBit number bit → (number / 2 ^ bit) % 2 ≡ 1
bit_test number bit h =
    let quotient : number / 2 ^ bit ≡ 2 * h.above + 1
    = ap (λ n. n / 2 ^ bit) h.stands ∙ div-mul-add (2 * h.above + 1) (2 ^ bit) h.below h.fits in
    ap (λ q. q % 2) quotient ∙ (let odd : (2 * h.above + 1) % 2 ≡ 1 = omega arith in odd)

pub active_in_words : (f : FrameMeaning) (target : ℕ) → (is_active f target ≡ true) ↔ HasBit f.mask target
active_in_words f target = (
  λ e. test_bit f.mask target (eqb-true ((f.mask / 2 ^ target) % 2) 1 e),
  λ h. eq-eqb ((f.mask / 2 ^ target) % 2) 1 (bit_test f.mask target h),
)

-- ---- indications

switch_words : (dti : Dti) → says_switch dti ≡ true → dti ≡ Switch
switch_words NotPresent e = absurd (true≢false (sym e))
switch_words Discardable e = absurd (true≢false (sym e))
switch_words Switch e = refl
switch_words Required e = absurd (true≢false (sym e))

pub switch_in_words : (f : FrameMeaning) (target : ℕ) → (is_switch f target ≡ true) ↔ (indication f target ≡ Switch)
switch_in_words f target = (switch_words (indication f target), λ e. ap says_switch e)

present_words : (dti : Dti) → says_present dti ≡ true → dti ≢ NotPresent
present_words dti e = λ k. true≢false (sym e ∙ ap says_present k)

present_test : (dti : Dti) → dti ≢ NotPresent → says_present dti ≡ true
present_test NotPresent other = absurd (other refl)
present_test Discardable other = refl
present_test Switch other = refl
present_test Required other = refl

pub present_in_words : (f : FrameMeaning) (target : ℕ) → (is_present f target ≡ true) ↔ ((target < f.target_count) × (indication f target ≢ NotPresent))
present_in_words f target = (
  λ e. let a = and_parts (nat_lt target f.target_count) (says_present (indication f target)) e in
      (ltb-true target f.target_count a.0, present_words (indication f target) a.1),
  λ h. rw (lt-ltb target f.target_count h.0, present_test (indication f target) h.1) refl,
)

-- ---- what a wish allows

allowed_words : (wish : Wish) (f : FrameMeaning) (target : ℕ) → is_allowed wish f target ≡ true → IsAllowed wish f target
allowed_words wish f target h = go (layers f target) refl (and_parts (is_active f target) _ h).1
  where
    go : (o : Option Wish) → layers f target ≡ o → is_within wish o ≡ true → IsAllowed wish f target
    go None e w = absurd (true≢false (sym w))
    go (Some pair) e w =
        let a = and_parts (nat_le pair.spatial wish.spatial) (nat_le pair.temporal wish.temporal) w in
        record {
          active = (active_in_words f target).0 (and_parts (is_active f target) _ h).0;
          pair = pair;
          has_layers = e;
          spatial = leb-true pair.spatial wish.spatial a.0;
          temporal = leb-true pair.temporal wish.temporal a.1;
        }

allowed_test : (wish : Wish) (f : FrameMeaning) (target : ℕ) → IsAllowed wish f target → is_allowed wish f target ≡ true
allowed_test wish f target a =
    ap (λ b. b && is_within wish (layers f target)) ((active_in_words f target).1 a.active)
    ∙ ap (is_within wish) a.has_layers
    ∙ ap (λ b. b && nat_le a.pair.temporal wish.temporal) (le-leb a.pair.spatial wish.spatial a.spatial)
    ∙ le-leb a.pair.temporal wish.temporal a.temporal

pub allowed_in_words : (wish : Wish) (f : FrameMeaning) (target : ℕ) → (is_allowed wish f target ≡ true) ↔ IsAllowed wish f target
allowed_in_words wish f target = (allowed_words wish f target, allowed_test wish f target)
