-- The bits of a mask: of the mask of all targets, and of the mask of the targets that a subscriber is sent.
use Rattle.std.proofs.Common.{◌≡◌, ◌+◌, ◌-◌, ◌*◌, ◌/◌, ◌%◌, ◌^◌, ◌<◌, ◌≤◌, ℕ, zero, suc, arith, Bool, true, false, inl, inr, sym, ap, subst, ◌∙◌, cond, Option, Some}
use Rattle.std.specs.Prelude.{◌==◌, nat_le}
use Rattle.std.proofs.lemmas.Bool.{and_from, cases_lt, eqb-true, eq-eqb, le-leb}
use Rattle.std.proofs.lemmas.Nat.{pow-add, pow_pos}
use Rattle.std.proofs.Math.Nat.{add-mul-div_left, div-eq_of_lt, pow-le-pow_right}
use Rattle.sfu_base.specs.declared.frame.FrameMeaning.{FrameMeaning}
use Rattle.sfu_base.specs.declared.frame.Wish.{Wish}
use Rattle.forwarding_model.specs.forwarding.Targets.{is_active, is_allowed, is_within, layers}
use Rattle.forwarding_model.specs.frames.Reading.{Layout}
use Rattle.forwarding_model.specs.frames.Frames.{all_targets}
use Rattle.forwarding_laws.proofs.Readings.{all_targets-lt}
use Rattle.target_selector.specs.Masks.{mask_for, mask_within, targets_where}
use Rattle.target_selector.proofs.TargetBits.{mask_small, targets_small}

-- the bit of a target is set in the mask
abbrev pub HasBit : ℕ → ℕ → Type 0
HasBit mask t = ((mask / 2 ^ t) % 2 == 1) ≡ true

-- the target's bit is set, and only bits of the first targets are set
pub record IsMaskOf (count target mask : ℕ) : Type 0 where
  pub own : HasBit mask target
  pub few : (t : ℕ) → HasBit mask t → t < count

-- a mask of this number of bits has no others
few_bits : (count mask t : ℕ) → mask < 2 ^ count → HasBit mask t → t < count
few_bits count mask t small bit = elim (cases_lt t count) [
  | inl low ↦ low
  | inr high ↦
      let more : 2 ^ count ≤ 2 ^ t = pow-le-pow_right {n = 2} (omega arith) {i = count} {j = t} high in
      let none : mask / 2 ^ t ≡ 0 = div-eq_of_lt (omega arith) in
      let one : mask / 2 ^ t % 2 ≡ 1 = eqb-true (mask / 2 ^ t % 2) 1 bit in
      absurd (let no : 0 % 2 ≡ 1 = sym (ap (λ n. n % 2) none) ∙ one in omega arith)
]

-- ---- all targets

two_times : (n : ℕ) → 2 ^ (n + 1) ≡ 2 * 2 ^ n
two_times n = omega (arith, pow-add 2 n 1)

-- 2 ^ (t + 1 + k) - 1 is the sum of a number below 2 ^ t, of 2 ^ t, and of a multiple of twice that
pub all_active : (layout : Layout) (t : ℕ) → t < layout.target_count → HasBit (all_targets layout) t
all_active layout t low = eq-eqb (all_targets layout / 2 ^ t % 2) 1 (go (layout.target_count - t - 1) (omega arith))
  where
    go : (k : ℕ) → layout.target_count ≡ t + 1 + k → all_targets layout / 2 ^ t % 2 ≡ 1
    go k e =
        let pos : 0 < 2 ^ t = pow_pos t in
        let posk : 0 < 2 ^ k = pow_pos k in
        let count : 2 ^ layout.target_count ≡ 2 ^ t * (2 * 2 ^ k) = ap (λ n. 2 ^ n) e ∙ pow-add 2 (t + 1) k ∙ ap (λ n. n * 2 ^ k) (two_times t) ∙ (let m : 2 * 2 ^ t * 2 ^ k ≡ 2 ^ t * (2 * 2 ^ k) = grind arith in m) in
        let split : all_targets layout ≡ (2 ^ t - 1) + 2 ^ t * (2 * 2 ^ k - 1) = parts (2 ^ t) (2 * 2 ^ k - 1) (2 ^ layout.target_count) pos (count ∙ ap (λ n. 2 ^ t * n) (let one : 2 * 2 ^ k ≡ (2 * 2 ^ k - 1) + 1 = omega arith in one)) in
        let divided : all_targets layout / 2 ^ t ≡ (2 ^ t - 1) / 2 ^ t + (2 * 2 ^ k - 1) = ap (λ n. n / 2 ^ t) split ∙ add-mul-div_left (2 ^ t - 1) (2 * 2 ^ k - 1) pos in
        let none : (2 ^ t - 1) / 2 ^ t ≡ 0 = div-eq_of_lt (omega arith) in
        omega (arith, divided, none, posk)
      where
        parts : (a b c : ℕ) → 0 < a → c ≡ a * (b + 1) → c - 1 ≡ (a - 1) + a * b
        parts a b c p e = omega arith

-- ---- the targets that a subscriber gets

-- lower bits don't change when a higher one is added
bit_below : (x k t : ℕ) → t < k → HasBit x t → HasBit (x + 2 ^ k) t
bit_below x k t low bit = eq-eqb ((x + 2 ^ k) / 2 ^ t % 2) 1 (go (k - t - 1) (omega arith))
  where
    go : (d : ℕ) → k ≡ t + 1 + d → (x + 2 ^ k) / 2 ^ t % 2 ≡ 1
    go d e =
        let pos : 0 < 2 ^ t = pow_pos t in
        let power : 2 ^ k ≡ 2 ^ t * (2 * 2 ^ d) = ap (λ n. 2 ^ n) e ∙ pow-add 2 (t + 1) d ∙ ap (λ n. n * 2 ^ d) (two_times t) ∙ (let m : 2 * 2 ^ t * 2 ^ d ≡ 2 ^ t * (2 * 2 ^ d) = grind arith in m) in
        let divided : (x + 2 ^ k) / 2 ^ t ≡ x / 2 ^ t + 2 * 2 ^ d = ap (λ n. (x + n) / 2 ^ t) power ∙ add-mul-div_left x (2 * 2 ^ d) pos in
        let old : x / 2 ^ t % 2 ≡ 1 = eqb-true (x / 2 ^ t % 2) 1 bit in
        omega (arith, divided, old)

bit_itself : (x k : ℕ) → x < 2 ^ k → HasBit (x + 2 ^ k) k
bit_itself x k small =
    let pos : 0 < 2 ^ k = pow_pos k in
    let divided : (x + 2 ^ k * 1) / 2 ^ k ≡ x / 2 ^ k + 1 = add-mul-div_left x 1 pos in
    let none : x / 2 ^ k ≡ 0 = div-eq_of_lt small in
    let one : x + 2 ^ k ≡ x + 2 ^ k * 1 = omega arith in
    eq-eqb ((x + 2 ^ k) / 2 ^ k % 2) 1 (ap (λ n. n / 2 ^ k % 2) one ∙ ap (λ n. n % 2) divided ∙ ap (λ n. (n + 1) % 2) none)

within_bit : (most : Wish) (f : FrameMeaning) (n t : ℕ) → t < n → is_allowed most f t ≡ true → HasBit (targets_where (is_allowed most f) n) t
within_bit most f zero t low ok = absurd (omega arith)
within_bit most f (suc n) t low ok = elim (cases_lt t n) [
  | inl under ↦ go (is_allowed most f n) (within_bit most f n t under ok) under
  | inr over ↦ last (let same : t ≡ n = omega arith in same)
]
  where
    go : (b : Bool) → HasBit (targets_where (is_allowed most f) n) t → t < n → HasBit (targets_where (is_allowed most f) n + cond b (2 ^ n) 0) t
    go true bit under = bit_below (targets_where (is_allowed most f) n) n t under bit
    go false bit under = subst (λ (m : ℕ). HasBit m t) (let e : targets_where (is_allowed most f) n ≡ targets_where (is_allowed most f) n + 0 = omega arith in e) bit

    last : t ≡ n → HasBit (targets_where (is_allowed most f) n + cond (is_allowed most f n) (2 ^ n) 0) t
    last same =
        subst (λ (k : ℕ). HasBit (targets_where (is_allowed most f) n + cond (is_allowed most f n) (2 ^ n) 0) k) (sym same)
        (subst (λ (b : Bool). HasBit (targets_where (is_allowed most f) n + cond b (2 ^ n) 0) n) (sym (subst (λ (k : ℕ). is_allowed most f k ≡ true) same ok))
        (bit_itself (targets_where (is_allowed most f) n) n (targets_small (is_allowed most f) n)))

-- the mask for an active target with layers has its bit
pub mask_has : (f : FrameMeaning) (target : ℕ) (most : Wish) → target < f.target_count → is_active f target ≡ true → layers f target ≡ Some most
    → IsMaskOf f.target_count target (mask_for f (Some target))
mask_has f target most below active has = record {
  own = subst (λ (o : Option Wish). HasBit (mask_within f o) target) (sym has)
      (within_bit most f f.target_count target below
      (and_from (is_active f target) (is_within most (layers f target)) active (ap (is_within most) has ∙ and_from (nat_le most.spatial most.spatial) (nat_le most.temporal most.temporal) (le-leb most.spatial most.spatial (omega arith)) (le-leb most.temporal most.temporal (omega arith)))));
  few = λ t bit. few_bits f.target_count (mask_for f (Some target)) t (mask_small f (Some target)) bit;
}

pub all_mask : (layout : Layout) (target : ℕ) → target < layout.target_count → IsMaskOf layout.target_count target (all_targets layout)
all_mask layout target below = record {
  own = all_active layout target below;
  few = λ t bit. few_bits layout.target_count (all_targets layout) t (all_targets-lt layout) bit;
}
