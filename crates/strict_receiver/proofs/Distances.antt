-- The distances of numbers below another number.
use Rattle.std.proofs.Common.{◌≡◌, ℕ, ◌+◌, ◌-◌, ◌<◌, ◌≤◌, Bool, true, false, cond, ◌||◌, List, [], ◌∷◌, take, refl, ap, ap₂, ◌∙◌, arith}
use Rattle.std.specs.Prelude.{◌==◌, filter, nat_le}
use Rattle.std.specs.List.{AllByRecursion, list_all}
use Rattle.std.proofs.lemmas.Bool.{and_parts, eqb-true, le-leb, leb-true, ne_eqb}
use Rattle.std.proofs.lemmas.Bool.Decides.{Decides-eqb, Decides-like, same_from_decides}
use Rattle.std.proofs.lemmas.Map.Views.{any-filter_same}
use Rattle.sfu_base.specs.Frame.{IsDistance}
use Rattle.forwarding_model.specs.Receiver.{is_received}
use Rattle.ref_window.specs.Numbers.{held_of, is_near as is_in_reach}
use Rattle.strict_receiver.specs.Near.{are_near, is_near}

-- none of these numbers is high enough
pub none_so_near : (numbers : List ℕ) (k n d : ℕ) → AllByRecursion (λ m. m ≤ k) numbers → k + d < n → is_received numbers n d ≡ false
none_so_near [] k n d all far = refl
none_so_near (m ∷ ms) k n d all far =
    ap (λ (b : Bool). b || is_received ms n d) (ne_eqb (m + d) n (λ e. omega (arith, all.0)))
    ∙ none_so_near ms k n d all.1 far

-- the same number, by its distance below a higher number
pub from_further_up : (numbers : List ℕ) (n ahead d : ℕ) → ahead ≤ d → is_received numbers (n + ahead) d ≡ is_received numbers n (d - ahead)
from_further_up [] n ahead d le = refl
from_further_up (m ∷ ms) n ahead d le = ap₂ (λ (a b : Bool). a || b) here (from_further_up ms n ahead d le)
  where
    here : ((m + d) == (n + ahead)) ≡ ((m + (d - ahead)) == n)
    here =
        same_from_decides ((m + d) == (n + ahead)) ((m + (d - ahead)) == n) (Decides-eqb (m + d) (n + ahead))
        (Decides-like ((m + (d - ahead)) == n) (λ e. omega arith) (λ e. omega arith) (Decides-eqb (m + (d - ahead)) n))

-- the numbers that a window forgets are too far below
pub held_in_reach : (x n d : ℕ) (numbers : List ℕ) → x ≤ n → d ≤ 4096 → is_received (held_of (x ∷ numbers)) n d ≡ is_received (x ∷ numbers) n d
held_in_reach x n d numbers le near =
    ap (λ (b : Bool). ((x + d) == n) || b)
    (any-filter_same (λ k. (k + d) == n) (is_in_reach x) true
    (λ k is. let same : k + d ≡ n = eqb-true (k + d) n is in le-leb x (k + 4096) (omega arith)) numbers)

-- a property of all numbers is a property of some of them
pub all_filtered : (P : ℕ → Type 0) (test : ℕ → Bool) (numbers : List ℕ) → AllByRecursion P numbers → AllByRecursion P (filter test numbers)
all_filtered P test [] all = tt
all_filtered P test (m ∷ ms) all = go (test m) (all_filtered P test ms all.1)
  where
    go : (b : Bool) → AllByRecursion P (filter test ms) → AllByRecursion P (cond b (m ∷ filter test ms) (filter test ms))
    go true rest = (all.0, rest)
    go false rest = rest

-- ---- distances that a frame may refer to

all_near : (ds : List ℕ) → list_all is_near ds ≡ true → AllByRecursion IsDistance ds
all_near [] e = tt
all_near (d ∷ ds) e =
    let both = and_parts (is_near d) (list_all is_near ds) e in
    let bounds = and_parts (nat_le 1 d) (nat_le d 4096) both.0 in
    (record { back = leb-true 1 d bounds.0; near = leb-true d 4096 bounds.1 }, all_near ds both.1)

pub near_all : (count : ℕ) (refs : List ℕ) → are_near count refs ≡ true → AllByRecursion IsDistance (take count refs)
near_all count refs e = all_near (take count refs) e

near_test : (ds : List ℕ) → AllByRecursion IsDistance ds → list_all is_near ds ≡ true
near_test [] all = refl
near_test (d ∷ ds) all = rw (le-leb 1 d all.0.back, le-leb d 4096 all.0.near) (near_test ds all.1)

pub near_from : (count : ℕ) (refs : List ℕ) → AllByRecursion IsDistance (take count refs) → are_near count refs ≡ true
near_from count refs all = near_test (take count refs) all
