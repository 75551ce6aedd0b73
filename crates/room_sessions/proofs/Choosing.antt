-- Rising numbers rise from the first of them on. This is so for one choice of whole numbers, and one choice proves it.
use Rattle.std.proofs.Common.{◌≡◌, ◌∙◌, ℕ, ◌+◌, ◌-◌, ◌%◌, ◌<◌, ◌≤◌, List, [], ◌∷◌, refl, ap, sym, arith, subst}
use Rattle.std.specs.Prelude.{map}
use Rattle.std.specs.Coded.{×_prop, Unit-prop}
use Rattle.std.proofs.Props.{props}
use Rattle.std.proofs.Math.Logic.{∥∥₁_elim}
use Rattle.rtcp_feedback.specs.Writing.{Rise, RisesTo}

remainders : List ℕ → List ℕ
remainders ns = map (λ n. n % 65536) ns

-- the number from `first` on that has this remainder
at_least : ℕ → ℕ → ℕ
at_least first name = first + (name + 65536 - first) % 65536

-- the numbers as whole numbers from the first on
chosen : ℕ → List ℕ → List ℕ
chosen first names = map (at_least first) names

IsChosen : List ℕ → Type 0
IsChosen [] = ⊥
IsChosen (name ∷ names) = RisesTo (name + 1023) (name ∷ chosen name names) × (name ∷ names ≡ remainders (name ∷ chosen name names))

rises_prop : (high : ℕ) (ns : List ℕ) → IsProp (RisesTo high ns)
rises_prop high [] = Unit-prop
rises_prop high (n ∷ []) = Prim.hlevel props
rises_prop high (n ∷ m ∷ rest) = ×_prop (Prim.hlevel props) (rises_prop high (m ∷ rest))

is_chosen_prop : (names : List ℕ) → IsProp (IsChosen names)
unfolding IsChosen
is_chosen_prop [] = λ x y. absurd x
is_chosen_prop (name ∷ names) = ×_prop (rises_prop (name + 1023) (name ∷ chosen name names)) (Prim.hlevel props)

-- ---- from any choice of whole numbers

moved : (first n : ℕ) → first ≤ n → n ≤ first + 1023 → at_least (first % 65536) (n % 65536) ≡ first % 65536 + (n - first)
unfolding at_least
moved first n low high = omega (arith, low, high)

back : (first n : ℕ) → first ≤ n → n ≤ first + 1023 → n % 65536 ≡ (first % 65536 + (n - first)) % 65536
back first n low high = omega (arith, low, high)

head_below : (high n : ℕ) (ns : List ℕ) → RisesTo high (n ∷ ns) → n ≤ high
head_below high n [] rises = rises
head_below high n (m ∷ rest) rises = let less = rises.0 in let below = head_below high m rest rises.1 in omega (arith, less, below)

RisesBehind : ℕ → ℕ → List ℕ → Type 0
RisesBehind first place others =
    RisesTo (first % 65536 + 1023) (place ∷ chosen (first % 65536) (remainders others)) × (remainders others ≡ remainders (chosen (first % 65536) (remainders others)))

behind : (first at : ℕ) (others : List ℕ) → first ≤ at → RisesTo (first + 1023) (at ∷ others) → RisesBehind first (first % 65536 + (at - first)) others
unfolding RisesBehind chosen remainders
behind first at [] low rises = (omega (arith, low, rises), refl)
behind first at (n ∷ rest) low rises =
    let less = rises.0 in
    let after : first ≤ n = omega (arith, low, less) in
    let below = head_below (first + 1023) n rest rises.1 in
    let more = behind first n rest after rises.1 in
    let place = moved first n after below in
    let less' : first % 65536 + (at - first) < at_least (first % 65536) (n % 65536) = omega (arith, low, less, place) in
    let same : n % 65536 ≡ at_least (first % 65536) (n % 65536) % 65536 = back first n after below ∙ ap (λ m. m % 65536) (sym place) in (
      (less', subst (λ m. RisesTo (first % 65536 + 1023) (m ∷ chosen (first % 65536) (remainders rest))) (sym place) more.0),
      (λ i. same i ∷ more.1 i),
    )

chosen_of : (first : ℕ) (others : List ℕ) → RisesTo (first + 1023) (first ∷ others) → IsChosen (remainders (first ∷ others))
unfolding IsChosen RisesBehind remainders
chosen_of first others rises =
    let more = behind first first others (omega arith) rises in
    let same : first % 65536 + (first - first) ≡ first % 65536 = omega arith in
    let kept : first % 65536 ≡ first % 65536 % 65536 = omega arith in (
      subst (λ m. RisesTo (first % 65536 + 1023) (m ∷ chosen (first % 65536) (remainders others))) same more.0,
      (λ i. kept i ∷ more.1 i),
    )

choose : (names : List ℕ) → Rise 1023 names → IsChosen names
unfolding remainders
choose names rise = subst IsChosen (sym rise.remainders) (chosen_of rise.first rise.others rise.rising)

found : (names : List ℕ) → IsChosen names → Rise 1023 names
unfolding IsChosen remainders
found [] is = absurd is
found (name ∷ names) is = record { first = name; others = chosen name names; remainders = is.1; rising = is.0 }

-- that the numbers rise is known if it merely holds
pub rise_merely : (names : List ℕ) → ∥ Rise 1023 names ∥₁ → Rise 1023 names
rise_merely names rise = found names (∥∥₁_elim rise (is_chosen_prop names) (choose names))
