-- An array whose places are written one by one: first the used items of a row, then one value at every place after them.
use Rattle.std.proofs.Common.{◌≡◌, inl, inr, ℕ, ◌+◌, ◌-◌, ◌<◌, ◌≤◌, [], ◌∷◌, ◌++◌, List, length, get_or, set, take, drop, replicate}
use Rattle.std.proofs.Common.{Bool, true, false, refl, sym, ap, ◌∙◌, arith, length-append}
use Rattle.std.proofs.lemmas.List.{drop-replicate, get_or-append_right, get_or-replicate, get_or-take, length-drop, length-replicate}
use Rattle.std.proofs.lemmas.List.{length-take-le, take_more, take_more_set}
use Rattle.std.specs.Prelude.{nat_lt, if◌then◌else◌}
use Rattle.std.proofs.lemmas.Bool.{agree_below_at, cases_lt, le-ltb, lt-ltb}
use Rattle.dd_layout.specs.Layouts.{filled_up}
use Rattle.dd_layout.proofs.Layouts.{at_front}

-- the first `count` places of a row, filled up
abbrev pub front : {A : Type 0} → ℕ → A → ℕ → List A → List A
front n d count row = filled_up n d (take count row)

front_length : {A : Type 0} (n : ℕ) (d : A) (count : ℕ) (row : List A) → length row ≡ n → count ≤ n → length (front n d count row) ≡ n
front_length n d count row len few =
    let xs = take count row in
    let behind = drop (length xs) (replicate n d) in
    let taken : length xs ≡ count = length-take-le count row (omega (arith, len)) in
    omega (arith, length-append xs behind, length-drop (length xs) (replicate n d), length-replicate n d, taken)

-- the value that is written at a place is that of the filled row there
placed_item : {A : Type 0} (n : ℕ) (d : A) (count : ℕ) (row : List A) (k : ℕ) (x : A) → length row ≡ n → count ≤ n → k < n
    → x ≡ (if nat_lt k count then get_or row k d else d) → x ≡ get_or (front n d count row) k d
placed_item {A = A} n d count row k x len few lt is =
    let xs = take count row in
    let taken : length xs ≡ count = length-take-le count row (omega (arith, len)) in
    elim (cases_lt k count) [
      | inl own ↦ (rw (lt-ltb k count own) at is) ∙ sym (at_front n d d xs k (omega (arith, own, taken)) ∙ get_or-take count row k d own)
      | inr over ↦ (rw (le-ltb k count over) at is)
          ∙ sym (get_or-append_right xs (drop (length xs) (replicate n d)) count k d taken over
          ∙ (ap (λ (ys : List A). get_or ys (k - count) d) (drop-replicate (length xs) n d)
          ∙ get_or-replicate (n - length xs) (k - count) d d (omega (arith, taken, over))))
    ]

-- with one more place written
pub front_more : {A : Type 0} (n : ℕ) (d : A) (count : ℕ) (row out : List A) (k : ℕ) (x : A) → length row ≡ n → count ≤ n → length out ≡ n → k < n
    → take k out ≡ take k (front n d count row) → x ≡ (if nat_lt k count then get_or row k d else d)
    → take (k + 1) (set out k x) ≡ take (k + 1) (front n d count row)
front_more {A = A} n d count row out k x len few long lt done is =
    take_more_set out k x (omega (arith, long))
    ∙ (ap (λ (ys : List A). ys ++ x ∷ []) done
    ∙ (ap (λ (y : A). take k (front n d count row) ++ y ∷ []) (placed_item n d count row k x len few lt is)
    ∙ sym (take_more (front n d count row) k d (omega (arith, front_length n d count row len few)))))

-- ---- which places count

-- a row of 32 places that are used, and 32 that aren't
half_counts : (k : ℕ) → k < 64 → get_or (replicate 32 true ++ replicate 32 false) k false ≡ nat_lt k 32
half_counts k lt = agree_below_at (λ j. get_or (replicate 32 true ++ replicate 32 false) j false) (λ j. nat_lt j 32) 64 k refl lt

-- from place 32 - n on, the row says which of 32 places are used if the first n are
pub says_which : (row : List Bool) (k place count : ℕ) → row ≡ replicate 32 true ++ replicate 32 false → place < 32 → count ≤ 32
    → k + count ≡ 32 + place → get_or row k false ≡ nat_lt place count
says_which row k place count is small few at =
    let there = ap (λ (r : List Bool). get_or r k false) is ∙ half_counts k (omega arith) in
    elim (cases_lt place count) [
      | inl own ↦ there ∙ lt-ltb k 32 (omega arith) ∙ sym (lt-ltb place count own)
      | inr not ↦ there ∙ le-ltb k 32 (omega arith) ∙ sym (le-ltb place count not)
    ]
