-- The numbers right below a number, as a mask.
use Rattle.std.proofs.Common.{◌≡◌, ◌⊎◌, inl, inr, ◌+◌, ◌-◌, ◌*◌, ◌/◌, ◌%◌, ◌^◌, ◌<◌, ◌≤◌, ℕ, arith, true, false, ◌||◌, ◌≢◌, cond, List, [], ◌∷◌, refl, sym, ap, subst, ◌∙◌}
use Rattle.std.specs.Prelude.{◌==◌, bit_or, filter}
use Rattle.std.specs.Int.{bit_at}
use Rattle.std.specs.declared.option.Option.TheVariants.{None, Some}
use Rattle.std.proofs.lemmas.Bool.{cases_eq, cases_lt, eqb-true, eq-eqb, ne_eqb, le-leb}
use Rattle.std.proofs.lemmas.Map.Views.{any-filter_same}
use Rattle.std.proofs.lemmas.Nat.{pow_pos}
use Rattle.std.proofs.lemmas.Nat.Bits.{bit_at-zero, bit_at-lt, bit_at-pow_other, bit_at_above, bit_at_cat_high, bit_at_cat_low, bit_at_or}
use Rattle.ref_window.specs.Numbers.{AreBelow, AreExactlyBelow, IsAboveAll, has_below, held_of, is_among, is_near}
use Rattle.ref_window.specs.Words.{AreRecent, greatest_of, held_in}
use Rattle.ref_window.proofs.Forgetting.{has_below-is_among}
use Rattle.ref_window.proofs.Held.{above_among, above_held, not_above_held, nothing_held}

-- further below a greater number
moved : (numbers : List ℕ) (n d k : ℕ) → has_below numbers (n + k) (d + k) ≡ has_below numbers n d
moved [] n d k = refl
moved (m ∷ ms) n d k = ap (λ b. b || has_below ms (n + k) (d + k)) (same (cases_eq (m + d) n)) ∙ ap (λ b. ((m + d) == n) || b) (moved ms n d k)
  where
    same : (m + d ≡ n) ⊎ (m + d ≡ n → ⊥) → ((m + (d + k)) == (n + k)) ≡ ((m + d) == n)
    same (inl e) = eq-eqb (m + (d + k)) (n + k) (omega arith) ∙ sym (eq-eqb (m + d) n e)
    same (inr ne) = ne_eqb (m + (d + k)) (n + k) (λ e. ne (omega arith)) ∙ sym (ne_eqb (m + d) n ne)

-- the bits of a word that was shifted to the left
low_bit : (x k d : ℕ) → d < 64 → bit_at (x * 2 ^ k % 2 ^ 64) d ≡ bit_at (x * 2 ^ k) d
low_bit x k d low =
    let y : ℕ = x * 2 ^ k in
    let whole : y / 2 ^ 64 * 2 ^ 64 + y % 2 ^ 64 ≡ y = omega arith in
    sym (bit_at_cat_low (y / 2 ^ 64) 64 (y % 2 ^ 64) d low) ∙ ap (λ m. bit_at m d) whole

moved_bit : (x k d : ℕ) → k ≤ d → bit_at (x * 2 ^ k) d ≡ bit_at x (d - k)
moved_bit x k d le = ap (λ m. bit_at m d) (let e : x * 2 ^ k ≡ x * 2 ^ k + 0 = omega arith in e) ∙ bit_at_cat_high x k 0 d (pow_pos k) le

no_bit : (x k d : ℕ) → d < k → bit_at (x * 2 ^ k) d ≡ 0
no_bit x k d lt = ap (λ m. bit_at m d) (let e : x * 2 ^ k ≡ x * 2 ^ k + 0 = omega arith in e) ∙ bit_at_cat_low x k 0 d lt ∙ bit_at-zero d

-- the numbers up to `greatest`, by a mask that was moved up by k
moved_exactly : (numbers : List ℕ) (greatest number recent k : ℕ) → greatest + k ≡ number → ((m : ℕ) → greatest < m → is_among numbers m ≡ false)
    → ((d : ℕ) → d < 64 → (bit_at recent d == 1) ≡ has_below numbers greatest d)
    → AreExactlyBelow numbers number (recent * 2 ^ k % 2 ^ 64)
moved_exactly numbers greatest number recent k n none_above are d above low = elim (cases_lt d k) [
  | inl under ↦
      ap (λ b. b == 1) (low_bit recent k d low ∙ no_bit recent k d under)
      ∙ sym (has_below-is_among numbers number d (omega arith) ∙ none_above (number - d) (omega arith))
  | inr over ↦
      let e : (d - k) + k ≡ d = omega arith in
      ap (λ b. b == 1) (low_bit recent k d low ∙ moved_bit recent k d over)
      ∙ are (d - k) (omega arith)
      ∙ sym (moved numbers greatest (d - k) k)
      ∙ ap (λ m. has_below numbers (greatest + k) m) e
      ∙ ap (λ m. has_below numbers m d) n
]

-- the number itself and those right below it
next_recent : (numbers : List ℕ) (number mask : ℕ) → AreExactlyBelow numbers number mask → (d : ℕ) → d < 64
    → (bit_at (bit_or mask 1) d == 1) ≡ has_below (held_of (number ∷ numbers)) number d
next_recent numbers number mask are d low = elim (cases_eq d 0) [
  | inl own ↦
      eq-eqb (bit_at (bit_or mask 1) d) 1 (ap (λ i. bit_at (bit_or mask 1) i) own ∙ omega (arith, bit_at_or mask 1 0, bit_at-lt mask 0))
      ∙ sym (ap (λ b. b || has_below (filter (is_near number) numbers) number d) (eq-eqb (number + d) number (omega arith)))
  | inr apart ↦
      let bit : bit_at (bit_or mask 1) d ≡ bit_at mask d = omega (arith, bit_at_or mask 1 d, bit_at-pow_other 0 d apart) in
      ap (λ b. b == 1) bit
      ∙ are d (omega arith) low
      ∙ sym (ap (λ b. b || has_below (filter (is_near number) numbers) number d) (ne_eqb (number + d) number (λ e. omega arith))
      ∙ any-filter_same (λ k. (k + d) == number) (is_near number) true
      (λ k is. let same : k + d ≡ number = eqb-true (k + d) number is in le-leb number (k + 4096) (omega arith)) numbers)
]

-- ---- what is seen of a window

some_greatest : (greatest recent : ℕ) → recent ≢ 0 → greatest_of greatest recent ≡ Some greatest
some_greatest greatest recent some = ap (λ b. cond b None (Some greatest)) (ne_eqb recent 0 some)

-- the window is empty if no recent number is kept
pub seen_none : (greatest recent : ℕ) (words seen : List ℕ) → held_in (greatest_of greatest recent) words ≡ seen → recent ≡ 0 → seen ≡ []
seen_none greatest recent words seen is none =
    sym is ∙ ap (λ b. held_in (cond b None (Some greatest)) words) (eq-eqb recent 0 none) ∙ nothing_held words

pub seen_some : (greatest recent : ℕ) (words seen : List ℕ) → held_in (greatest_of greatest recent) words ≡ seen → recent ≢ 0
    → held_in (Some greatest) words ≡ seen
seen_some greatest recent words seen is some = ap (λ o. held_in o words) (sym (some_greatest greatest recent some)) ∙ is

-- the mask of those right below a greater number
pub recent_exactly : (greatest : ℕ) (words : List ℕ) (number recent k : ℕ) → greatest + k ≡ number → AreRecent (greatest_of greatest recent) words recent
    → AreExactlyBelow (held_in (greatest_of greatest recent) words) number (recent * 2 ^ k % 2 ^ 64)
recent_exactly greatest words number recent k n are = elim (cases_eq recent 0) [
  | inl none ↦ λ d above low.
      ap (λ b. b == 1) (ap (λ m. bit_at (m * 2 ^ k % 2 ^ 64) d) none ∙ ap (λ m. bit_at m d) (let e : 0 * 2 ^ k % 2 ^ 64 ≡ 0 = omega arith in e) ∙ bit_at-zero d)
      ∙ sym (ap (λ l. has_below l number d) (seen_none greatest recent words (held_in (greatest_of greatest recent) words) refl none))
  | inr some ↦
      let is = some_greatest greatest recent some in
      subst (λ o. AreExactlyBelow (held_in o words) number (recent * 2 ^ k % 2 ^ 64)) (sym is)
      (moved_exactly (held_in (Some greatest) words) greatest number recent k n (above_among greatest words) (subst (λ o. AreRecent o words recent) is are))
]

pub recent_below : (greatest : ℕ) (words : List ℕ) (number recent k : ℕ) → greatest + k ≡ number → 0 < k → AreRecent (greatest_of greatest recent) words recent
    → AreBelow (held_in (greatest_of greatest recent) words) number (recent * 2 ^ k % 2 ^ 64)
recent_below greatest words number recent k n above are d set = elim (cases_lt d 64) [
  | inr high ↦ absurd (omega (arith, set, bit_at_above (recent * 2 ^ k % 2 ^ 64) 64 d (omega arith) high))
  | inl low ↦ elim (cases_lt d k) [
    | inl under ↦ absurd (omega (arith, set, low_bit recent k d low, no_bit recent k d under))
    | inr over ↦ (
      omega arith,
      low,
      sym (recent_exactly greatest words number recent k n are d (omega arith) low) ∙ eq-eqb (bit_at (recent * 2 ^ k % 2 ^ 64) d) 1 set,
    )
  ]
]

-- a number above the greatest is above all
pub above_seen : (greatest recent number : ℕ) (words seen : List ℕ) → held_in (greatest_of greatest recent) words ≡ seen → greatest < number
    → IsAboveAll number seen
above_seen greatest recent number words seen is above = elim (cases_eq recent 0) [
  | inl none ↦ subst (IsAboveAll number) (sym (seen_none greatest recent words seen is none)) tt
  | inr some ↦ subst (IsAboveAll number) (seen_some greatest recent words seen is some) (above_held greatest words number above)
]

-- no number is right below one that isn't above the greatest, or is far above it
pub none_exactly : (greatest recent number : ℕ) (words seen : List ℕ) → held_in (greatest_of greatest recent) words ≡ seen
    → (greatest < number → 64 ≤ number - greatest) → IsAboveAll number seen → AreExactlyBelow seen number 0
none_exactly greatest recent number words seen is far above d pos low =
    ap (λ b. b == 1) (bit_at-zero d) ∙ sym (none (cases_eq recent 0))
  where
    none : (recent ≡ 0) ⊎ (recent ≡ 0 → ⊥) → has_below seen number d ≡ false
    none (inl empty) = ap (λ l. has_below l number d) (seen_none greatest recent words seen is empty)
    none (inr some) =
        let view = seen_some greatest recent words seen is some in
        let greater : greatest < number = below (cases_lt greatest number) (subst (IsAboveAll number) (sym view) above) in
        let least = far greater in
        ap (λ l. has_below l number d) (sym view)
        ∙ has_below-is_among (held_in (Some greatest) words) number d (omega (arith, least))
        ∙ above_among greatest words (number - d) (omega (arith, least))
      where
        below : (greatest < number) ⊎ (number ≤ greatest) → IsAboveAll number (held_in (Some greatest) words) → greatest < number
        below (inl lt) all = lt
        below (inr ge) all = absurd (not_above_held greatest words number ge all)

one_is_set : (mask : ℕ) → bit_or mask 1 ≢ 0
one_is_set mask zero = omega (arith, ap (λ m. bit_at m 0) zero, bit_at-zero 0, bit_at_or mask 1 0)

-- a number was inserted
pub next_held : (number below : ℕ) (new before : List ℕ) → held_in (Some number) new ≡ held_of (number ∷ before)
    → held_in (greatest_of number (bit_or below 1)) new ≡ held_of (number ∷ before)
next_held number below new before is = ap (λ o. held_in o new) (some_greatest number (bit_or below 1) (one_is_set below)) ∙ is

pub next_are : (number below : ℕ) (new before : List ℕ) → held_in (Some number) new ≡ held_of (number ∷ before) → AreExactlyBelow before number below
    → AreRecent (greatest_of number (bit_or below 1)) new (bit_or below 1)
next_are number below new before is are =
    subst (λ o. AreRecent o new (bit_or below 1)) (sym (some_greatest number (bit_or below 1) (one_is_set below)))
    (λ d low. next_recent before number below are d low ∙ ap (λ l. has_below l number d) (sym is))

-- the first number was inserted
pub first_are : (number : ℕ) (words : List ℕ) → held_in (Some number) words ≡ number ∷ [] → AreRecent (Some number) words 1
first_are number words is d low =
    next_recent [] number 0 (λ m above few. ap (λ b. b == 1) (bit_at-zero m)) d low ∙ ap (λ l. has_below l number d) (sym is)
