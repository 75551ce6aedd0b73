-- Items that are read one after another in a loop: the items so far, followed by those still to be read, are all items.
use Rattle.std.proofs.Common.{◌≡◌, ℕ, zero, suc, length, take, set, map, ◌-◌, ◌+◌, ◌≤◌, ◌<◌, List, [], ◌∷◌, ◌++◌, Option, Some, None, Result, Ok, Err, refl, sym, ap, ◌∙◌, append_assoc, arith}
use Rattle.std.proofs.lemmas.List.{append-nil, take_more_set, map_push}
use Rattle.dd_bits.specs.Sequences.{◌>>=◌, repeat_at, until_at}

-- the items that were read before, and those that are still read
abbrev pub with_front : {A E S : Type 0} → List A → Result (List A × S) E → Result (List A × S) E
with_front front read = read >>= λ x. Ok (front ++ x.0, x.1)

pub with_front-nil : {A E S : Type 0} (read : Result (List A × S) E) → with_front [] read ≡ read
with_front-nil (Ok x) = refl
with_front-nil (Err e) = refl

regroup : {A E S : Type 0} (front : List A) (n : A) (read : Result (List A × S) E) → with_front front (read >>= λ x. Ok (n ∷ x.0, x.1)) ≡ with_front (front ++ n ∷ []) read
regroup {A = A} front n (Ok x) = ap (λ (ns : List A). Ok (ns, x.1)) (sym (append_assoc front (n ∷ []) x.0))
regroup front n (Err f) = refl

-- ---- a given number of items

pub repeat_more : {A E S : Type 0} (item : S → Result (A × S) E) (front : List A) (count i : ℕ) (input : S) (x : A) (after : S) (total : Result (List A × S) E) → i < count → item input ≡ Ok (x, after)
    → with_front front (repeat_at item (count - i) input) ≡ total → with_front (front ++ x ∷ []) (repeat_at item (count - (i + 1)) after) ≡ total
unfolding repeat_at
repeat_more item front count i input x after total lt h so_far =
    let k : count - i ≡ suc (count - (i + 1)) = omega arith in
    let one : with_front front (repeat_at item (count - i) input) ≡ with_front (front ++ x ∷ []) (repeat_at item (count - (i + 1)) after) = rw (k, h) (regroup front x (repeat_at item (count - (i + 1)) after)) in
    sym one ∙ so_far

pub repeat_fails : {A E S : Type 0} (item : S → Result (A × S) E) (front : List A) (count i : ℕ) (input : S) (e : E) (total : Result (List A × S) E) → i < count → item input ≡ Err e
    → with_front front (repeat_at item (count - i) input) ≡ total → total ≡ Err e
unfolding repeat_at
repeat_fails item front count i input e total lt h so_far =
    let k : count - i ≡ suc (count - (i + 1)) = omega arith in
    let one : with_front front (repeat_at item (count - i) input) ≡ Err e = rw (k, h) refl in
    sym so_far ∙ one

pub repeat_done : {A E S : Type 0} (item : S → Result (A × S) E) (front : List A) (count i : ℕ) (input : S) (total : Result (List A × S) E) → count ≤ i
    → with_front front (repeat_at item (count - i) input) ≡ total → total ≡ Ok (front, input)
unfolding repeat_at
repeat_done {A = A} item front count i input total le so_far =
    let k : count - i ≡ 0 = omega arith in
    let one : with_front front (repeat_at item (count - i) input) ≡ Ok (front, input) = rw k (ap (λ (ns : List A). Ok (ns, input)) (append-nil front)) in
    sym so_far ∙ one

-- the same if the items go into an array
pub array_more : {A E S : Type 0} (item : S → Result (A × S) E) (xs : List A) (count i : ℕ) (input : S) (x : A) (after : S) (total : Result (List A × S) E) → i < length xs → i < count → item input ≡ Ok (x, after)
    → with_front (take i xs) (repeat_at item (count - i) input) ≡ total → with_front (take (i + 1) (set xs i x)) (repeat_at item (count - (i + 1)) after) ≡ total
array_more item xs count i input x after total within lt h so_far = rw (take_more_set xs i x within) (repeat_more item (take i xs) count i input x after total lt h so_far)

pub array_done : {A E S : Type 0} (item : S → Result (A × S) E) (xs : List A) (count i : ℕ) (input : S) (total : Result (List A × S) E) → count ≤ i → i ≤ count
    → with_front (take i xs) (repeat_at item (count - i) input) ≡ total → total ≡ Ok (take count xs, input)
array_done item xs count i input total le ge so_far = let e : count ≡ i = omega arith in repeat_done item (take i xs) count i input total le so_far ∙ rw e refl

-- the same if the array's items are mapped by a view
pub shown_more : {X A E S : Type 0} (view : X → A) (item : S → Result (A × S) E) (xs : List X) (count i : ℕ) (input : S) (x : X) (after : S) (total : Result (List A × S) E) → i < length xs → i < count → item input ≡ Ok (view x, after)
    → with_front (map view (take i xs)) (repeat_at item (count - i) input) ≡ total → with_front (map view (take (i + 1) (set xs i x))) (repeat_at item (count - (i + 1)) after) ≡ total
shown_more view item xs count i input x after total within lt h so_far = rw (take_more_set xs i x within, map_push view (take i xs) x) (repeat_more item (map view (take i xs)) count i input (view x) after total lt h so_far)

pub shown_done : {X A E S : Type 0} (view : X → A) (item : S → Result (A × S) E) (xs : List X) (count i : ℕ) (input : S) (total : Result (List A × S) E) → count ≤ i → i ≤ count
    → with_front (map view (take i xs)) (repeat_at item (count - i) input) ≡ total → total ≡ Ok (map view (take count xs), input)
shown_done view item xs count i input total le ge so_far = let e : count ≡ i = omega arith in repeat_done item (map view (take i xs)) count i input total le so_far ∙ rw e refl

-- ---- items up to a mark

pub until_more : {A E S : Type 0} (next : A → S → Result (Option A × S) E) (full : E) (front : List A) (capacity i : ℕ) (before x : A) (input after : S) (total : Result (List A × S) E) → i < capacity → next before input ≡ Ok (Some x, after)
    → with_front front (until_at next full (capacity - i) before input) ≡ total → with_front (front ++ x ∷ []) (until_at next full (capacity - (i + 1)) x after) ≡ total
unfolding until_at
until_more next full front capacity i before x input after total lt h so_far =
    let k : capacity - i ≡ suc (capacity - (i + 1)) = omega arith in
    let one : with_front front (until_at next full (capacity - i) before input) ≡ with_front (front ++ x ∷ []) (until_at next full (capacity - (i + 1)) x after) = rw (k, h) (regroup front x (until_at next full (capacity - (i + 1)) x after)) in
    sym one ∙ so_far

until_none : {A E S : Type 0} (next : A → S → Result (Option A × S) E) (full : E) (left : ℕ) (before : A) (input after : S) → next before input ≡ Ok (None, after) → until_at next full left before input ≡ Ok ([], after)
unfolding until_at
until_none next full zero before input after h = rw h refl
until_none next full (suc left) before input after h = rw h refl

until_err : {A E S : Type 0} (next : A → S → Result (Option A × S) E) (full : E) (left : ℕ) (before : A) (input : S) (e : E) → next before input ≡ Err e → until_at next full left before input ≡ Err e
unfolding until_at
until_err next full zero before input e h = rw h refl
until_err next full (suc left) before input e h = rw h refl

pub until_done : {A E S : Type 0} (next : A → S → Result (Option A × S) E) (full : E) (front : List A) (left : ℕ) (before : A) (input after : S) (total : Result (List A × S) E) → next before input ≡ Ok (None, after)
    → with_front front (until_at next full left before input) ≡ total → total ≡ Ok (front, after)
until_done {A = A} next full front left before input after total h so_far =
    sym so_far ∙ rw (until_none next full left before input after h) (ap (λ (ns : List A). Ok (ns, after)) (append-nil front))

pub until_fails : {A E S : Type 0} (next : A → S → Result (Option A × S) E) (full : E) (front : List A) (left : ℕ) (before : A) (input : S) (e : E) (total : Result (List A × S) E) → next before input ≡ Err e
    → with_front front (until_at next full left before input) ≡ total → total ≡ Err e
until_fails next full front left before input e total h so_far = sym so_far ∙ rw (until_err next full left before input e h) refl

pub until_full : {A E S : Type 0} (next : A → S → Result (Option A × S) E) (full : E) (front : List A) (capacity i : ℕ) (before x : A) (input after : S) (total : Result (List A × S) E) → capacity ≤ i → next before input ≡ Ok (Some x, after)
    → with_front front (until_at next full (capacity - i) before input) ≡ total → total ≡ Err full
unfolding until_at
until_full next full front capacity i before x input after total le h so_far =
    let k : capacity - i ≡ 0 = omega arith in
    let one : with_front front (until_at next full (capacity - i) before input) ≡ Err full = rw (k, h) refl in
    sym so_far ∙ one

pub array_until_more : {A E S : Type 0} (next : A → S → Result (Option A × S) E) (full : E) (xs : List A) (capacity i : ℕ) (before x : A) (input after : S) (total : Result (List A × S) E) → i < length xs → i < capacity → next before input ≡ Ok (Some x, after)
    → with_front (take i xs) (until_at next full (capacity - i) before input) ≡ total → with_front (take (i + 1) (set xs i x)) (until_at next full (capacity - (i + 1)) x after) ≡ total
array_until_more next full xs capacity i before x input after total within lt h so_far = rw (take_more_set xs i x within) (until_more next full (take i xs) capacity i before x input after total lt h so_far)

-- items that don't depend on the one before them
pub until_any : {A E S : Type 0} (next : S → Result (Option A × S) E) (full : E) (capacity : ℕ) (a b : A) (input : S) → until_at (λ before. next) full capacity a input ≡ until_at (λ before. next) full capacity b input
unfolding until_at
until_any next full zero a b input = refl
until_any next full (suc capacity) a b input = refl
