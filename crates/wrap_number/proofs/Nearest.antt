-- The computed number is the nearest one.
use Rattle.std.proofs.Common.{◌≡◌, ◌<◌, ◌≤◌, ◌+◌, ◌-◌, ◌%◌, ◌⊎◌, ◌↔◌, inl, inr, ℕ, arith, true, ap, ◌∙◌, ◌&&◌}
use Rattle.std.specs.Prelude.{nat_lt, ℤ, pos, negsuc, ◌+ℤ◌, ◌-ℤ◌, ◌≤ℤ◌}
use Rattle.std.proofs.lemmas.Int.{ints}
use Rattle.std.specs.Int.{int_rem_euclid}
use Rattle.std.proofs.lemmas.Bool.{cases_lt, and_parts, ltb-true, lt-ltb}
use Rattle.wrap_number.specs.Number.{IsCongruent, distance, IsNearest, IsNearestAbove, IsNearAbove, IsLeastAbove, nearest_to, ahead_of, is_above, number_above, least_above}

-- ---- distances

pub distance_at_most : (a b : ℤ) (d : ℕ) → a ≤ℤ (b +ℤ pos d) → b ≤ℤ (a +ℤ pos d) → distance a b ≤ d
distance_at_most a b d low high = grind (arith, ints)

pub distance_when_below : (a b : ℤ) (d : ℕ) → (a +ℤ pos d) ≤ℤ b → d ≤ distance a b
distance_when_below a b d under = grind (arith, ints)

pub distance_when_above : (a b : ℤ) (d : ℕ) → (b +ℤ pos d) ≤ℤ a → d ≤ distance a b
distance_when_above a b d over = grind (arith, ints)

-- the remainder is r
abbrev IsResidue : ℤ → ℕ → Type 0
IsResidue m r = int_rem_euclid m (pos 65536) ≡ pos r

-- two numbers with the same remainder are equal, or differ by 65,536 or more
apart : (a b : ℤ) (n : ℕ) → IsResidue a n → IsResidue b n → (a ≡ b) ⊎ (((a +ℤ pos 65536) ≤ℤ b) ⊎ ((b +ℤ pos 65536) ≤ℤ a))
apart (pos a) (pos b) n here there = grind (arith, ints)
apart (pos a) (negsuc b) n here there = grind (arith, ints)
apart (negsuc a) (pos b) n here there = grind (arith, ints)
apart (negsuc a) (negsuc b) n here there = grind (arith, ints)

-- ---- the nearest number

-- the number is `newest` plus `ahead`, or 65,536 below that sum
record IsPlaced (newest : ℤ) (ahead : ℕ) (m : ℤ) : Type 0 where
  low : (newest -ℤ pos 32768) ≤ℤ m
  high : m ≤ℤ (newest +ℤ pos 32767)
  reached : (m ≡ newest +ℤ pos ahead) ⊎ (m +ℤ pos 65536 ≡ newest +ℤ pos ahead)

placed : (newest : ℤ) (n : ℕ) → IsPlaced newest (ahead_of newest n) (nearest_to newest n)
placed newest n = elim (cases_lt (ahead_of newest n) 32768) [
  | inl low ↦ record { low = grind (arith, ints); high = grind (arith, ints); reached = inl (grind (arith, ints)) }
  | inr high ↦ record { low = grind (arith, ints); high = grind (arith, ints); reached = inr (grind (arith, ints)) }
]

congruent_ahead : (newest m : ℤ) (n : ℕ) → n < 65536 → m ≡ newest +ℤ pos (ahead_of newest n) → IsResidue m n
congruent_ahead (pos r) (pos a) n fits e = grind (arith, ints)
congruent_ahead (pos r) (negsuc a) n fits e = grind (arith, ints)
congruent_ahead (negsuc r) (pos a) n fits e = grind (arith, ints)
congruent_ahead (negsuc r) (negsuc a) n fits e = grind (arith, ints)

congruent_behind : (newest m : ℤ) (n : ℕ) → n < 65536 → m +ℤ pos 65536 ≡ newest +ℤ pos (ahead_of newest n) → IsResidue m n
congruent_behind (pos r) (pos a) n fits e = grind (arith, ints)
congruent_behind (pos r) (negsuc a) n fits e = grind (arith, ints)
congruent_behind (negsuc r) (pos a) n fits e = grind (arith, ints)
congruent_behind (negsuc r) (negsuc a) n fits e = grind (arith, ints)

-- a number from 32,768 below `newest` to 32,767 above it is the nearest
within : (newest m : ℤ) (n : ℕ) → IsCongruent m n → (newest -ℤ pos 32768) ≤ℤ m → m ≤ℤ (newest +ℤ pos 32767) → IsNearest newest n m
within newest m n same low high =
    let near : distance m newest ≤ 32768 = distance_at_most m newest 32768 (grind (arith, ints)) (grind (arith, ints)) in
    record {
      congruent = same;
      nearest = λ other also. elim (apart m other (n % 65536) same also) [
        | inl e ↦ rw (← e) (omega arith)
        | inr (inl over) ↦ let far : 32768 ≤ distance other newest = distance_when_above other newest 32768 (grind (arith, ints)) in omega arith
        | inr (inr under) ↦ let far : 32768 ≤ distance other newest = distance_when_below other newest 32768 (grind (arith, ints)) in omega arith
      ];
      behind = λ other also equally. elim (apart m other (n % 65536) same also) [
        | inl e ↦ grind (arith, ints)
        | inr (inl over) ↦ grind (arith, ints)
        | inr (inr under) ↦ let far : 32769 ≤ distance other newest = distance_when_below other newest 32769 (grind (arith, ints)) in absurd (omega arith)
      ];
    }

-- numbers that are the same modulo 65,536 lie equally far ahead
ahead_of_rest : (newest : ℤ) (n : ℕ) → ahead_of newest (n % 65536) ≡ ahead_of newest n
ahead_of_rest (pos a) n = omega arith
ahead_of_rest (negsuc a) n = omega arith

pub nearest_is : (newest : ℤ) (n : ℕ) → IsNearest newest n (nearest_to newest n)
nearest_is newest n =
    let p = placed newest n in
    let rest = ahead_of_rest newest n in
    within newest (nearest_to newest n) n
    (elim p.reached [
      | inl e ↦ congruent_ahead newest _ (n % 65536) (omega arith) (rw rest e)
      | inr e ↦ congruent_behind newest _ (n % 65536) (omega arith) (rw rest e)
    ])
    p.low p.high

pub nearest_when : (newest : ℤ) (n : ℕ) (m : ℤ) → m ≡ nearest_to newest n → IsNearest newest n m
nearest_when newest n m e = rw e (nearest_is newest n)

-- ---- the least number above

pub least_is : (newest n : ℕ) → IsLeastAbove newest n (least_above newest n)
least_is newest n = record { congruent = omega arith; above = omega arith; least = λ other same over. omega arith }

-- ---- the nearest number above

pub above_is : (newest n : ℕ) → is_above newest n ≡ true → IsNearestAbove newest n (number_above newest n)
above_is newest n up =
    let p = and_parts (nat_lt 0 (ahead_of (pos newest) n)) _ up in
    let some : 0 < ahead_of (pos newest) n = ltb-true _ _ p.0 in
    let near : ahead_of (pos newest) n < 32768 = ltb-true _ _ p.1 in
    record {
      nearest = within (pos newest) (pos (number_above newest n)) n (ap pos (omega arith)) (grind (arith, ints)) (grind (arith, ints));
      above = omega arith;
    }

-- the nearest number, if it lies above `newest`, lies less than 32,768 above it
less_than_half : (newest n m : ℕ) → IsNearestAbove newest n m → m < newest + 32768
less_than_half newest n m h = elim (cases_lt m (newest + 32768)) [
  | inl low ↦ low
  | inr high ↦
      let p = placed (pos newest) n in
      let same = (nearest_is (pos newest) n).congruent in
      let near : distance (nearest_to (pos newest) n) (pos newest) ≤ 32768
      = distance_at_most (nearest_to (pos newest) n) (pos newest) 32768 (grind (arith, ints)) (grind (arith, ints)) in
      let far : 32768 ≤ distance (pos m) (pos newest) = distance_when_above (pos m) (pos newest) 32768 (grind (arith, ints)) in
      let nearer = h.nearest.nearest (nearest_to (pos newest) n) same in
      let lower = h.nearest.behind (nearest_to (pos newest) n) same (omega arith) in
      let high_end = p.high in
      absurd (grind (arith, ints))
]

pub found_above : (newest n m : ℕ) → IsNearestAbove newest n m → (is_above newest n ≡ true) × (m ≡ number_above newest n)
found_above newest n m h =
    let low = h.above in
    let high = less_than_half newest n m h in
    let whole = h.nearest.congruent in
    let same : m % 65536 ≡ n % 65536 = cc in
    let ahead : ahead_of (pos newest) n ≡ m - newest = omega arith in (
      ap (λ b. b && nat_lt (ahead_of (pos newest) n) 32768) (lt-ltb 0 (ahead_of (pos newest) n) (omega arith))
          ∙ lt-ltb (ahead_of (pos newest) n) 32768 (omega arith),
      omega arith,
    )

-- ---- less than 32,768 above

near_is_nearest : (newest n m : ℕ) → IsNearAbove newest n m → IsNearestAbove newest n m
near_is_nearest newest n m h =
    let low = h.above in
    let high = h.near in
    record { nearest = within (pos newest) (pos m) n (ap pos h.congruent) (grind (arith, ints)) (grind (arith, ints)); above = low }

nearest_is_near : (newest n m : ℕ) → IsNearestAbove newest n m → IsNearAbove newest n m
nearest_is_near newest n m h =
    let whole = h.nearest.congruent in
    record { congruent = cc; above = h.above; near = less_than_half newest n m h }

pub near_above : (newest n m : ℕ) → IsNearAbove newest n m ↔ IsNearestAbove newest n m
near_above newest n m = (near_is_nearest newest n m, nearest_is_near newest n m)
