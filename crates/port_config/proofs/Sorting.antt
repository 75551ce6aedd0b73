-- Turns in the order of their places are in the order of the history.
use Rattle.std.proofs.Common.{◌≡◌, ◌⊎◌, ℕ, zero, suc, ◌+◌, ◌<◌, ◌≤◌, Bool, cond, List, [], ◌∷◌, ◌++◌, length, get_or, refl, ap, sym, subst, inl, inr, ⊎_elim, arith, eq-eqb, ne_eqb}
use mathlib.Core.Logic.{dite}
use native.Mathlib.Decide.{ℕ_discrete}
use Rattle.std.specs.List.{Contains}
use Rattle.std.specs.Prelude.{IsPermutation}
use Rattle.std.specs.List.Sorted.{IsNonDecreasingBy}
use Rattle.std.proofs.lemmas.List.Sorted.{Contains-permutation, IsPermutation-append_left, IsPermutation-cons, IsPermutation-middle, IsPermutation-refl, IsPermutation-sym, IsPermutation-trans, length_permutation}
use Rattle.port_config.specs.declared.actors.turns.Placed.{Placed}
use Rattle.port_config.specs.actors.Places.{AtPlaces, mine}

abbrev Has : List Placed → Placed → Type 0
Has [] x = ⊥
Has (y ∷ ys) x = (y ≡ x) ⊎ Has ys x

-- no place is less than the one before it
abbrev Rises : List Placed → Type 0
Rises [] = Unit {0}
Rises (x ∷ xs) = ((y : Placed) → Has xs y → x.place ≤ y.place) × Rises xs

has_at : (xs : List Placed) (k : ℕ) (x : Placed) → k < length xs → get_or xs k x ≡ x → Has xs x
has_at [] k x low is = absurd (omega arith)
has_at (y ∷ ys) zero x low is = inl is
has_at (y ∷ ys) (suc k) x low is = inr (has_at ys k x (omega arith) is)

at_has : (xs : List Placed) (x : Placed) → Has xs x → Contains xs x
at_has [] x h = absurd h
at_has (y ∷ ys) x (inl e) = (0, omega arith, e)
at_has (y ∷ ys) x (inr h) = let k = at_has ys x h in let low : k.0 < length ys = k.1 in (suc k.0, omega arith, k.2)

has_from : (xs : List Placed) (x : Placed) → Contains xs x → Has xs x
has_from xs x c = has_at xs c.0 x c.1 c.2

tail_up : (x : Placed) (xs : List Placed) → IsNonDecreasingBy (λ p. p.place) (x ∷ xs) → IsNonDecreasingBy (λ p. p.place) xs
tail_up x xs up = λ i j d le low. up (suc i) (suc j) d (omega arith) (omega arith)

first_up : (x : Placed) (xs : List Placed) → IsNonDecreasingBy (λ p. p.place) (x ∷ xs) → (y : Placed) → Has xs y → x.place ≤ y.place
first_up x xs up y h =
    let at = at_has xs y h in
    let low : at.0 < length xs = at.1 in
    let le : x.place ≤ (get_or xs at.0 y).place = up 0 (suc at.0) y (omega arith) (omega arith) in
    subst (λ (p : Placed). x.place ≤ p.place) at.2 le

rises_from : (xs : List Placed) → IsNonDecreasingBy (λ p. p.place) xs → Rises xs
rises_from [] up = tt
rises_from (x ∷ xs) up = (first_up x xs up, rises_from xs (tail_up x xs up))

from_on : (n : ℕ) (all : List Placed) (x : Placed) → AtPlaces n all → Has all x → n ≤ x.place
from_on n [] x at h = absurd h
from_on n (a ∷ us) x at (inl e) = let p = at.0 in let q : a.place ≡ x.place = ap (λ (z : Placed). z.place) e in omega arith
from_on n (a ∷ us) x at (inr h) = let k = from_on (n + 1) us x at.1 h in omega arith

not_first : (s : Placed) (ss : List Placed) (x : Placed) → s.place < x.place → Has (s ∷ ss) x → Has ss x
not_first s ss x low (inl e) = absurd (let q : s.place ≡ x.place = ap (λ (z : Placed). z.place) e in omega arith)
not_first s ss x low (inr h) = h

-- the first of a rising list is no higher than the first place
no_higher : (s a : Placed) (ss : List Placed) → Rises (s ∷ ss) → Has (s ∷ ss) a → s.place ≤ a.place
no_higher s a ss r (inl e) = let q : s.place ≡ a.place = ap (λ (z : Placed). z.place) e in omega arith
no_higher s a ss r (inr h) = r.0 a h

-- a shorter rising list doesn't have all of them
too_short : (ss all : List Placed) (n : ℕ) → Rises ss → AtPlaces n all → ((x : Placed) → Has all x → Has ss x) → length ss < length all → ⊥
too_short ss [] n r at has low = omega arith
too_short [] (a ∷ us) n r at has low = has a (inl refl)
too_short (s ∷ ss) (a ∷ us) n r at has low =
    let le : s.place ≤ a.place = no_higher s a ss r (has a (inl refl)) in
    let here = at.0 in
    too_short ss us (n + 1) r.1 at.1 (λ x h. not_first s ss x (let k = from_on (n + 1) us x at.1 h in omega arith) (has x (inr h))) (omega arith)

in_rest : (s a : Placed) (ss us : List Placed) (n : ℕ) → Rises (s ∷ ss) → AtPlaces n (a ∷ us) → ((x : Placed) → Has (a ∷ us) x → Has (s ∷ ss) x) → (x : Placed) → Has us x → Has ss x
in_rest s a ss us n r at has x h =
    let le : s.place ≤ a.place = no_higher s a ss r (has a (inl refl)) in
    let here = at.0 in
    not_first s ss x (let k = from_on (n + 1) us x at.1 h in omega arith) (has x (inr h))

-- a rising list that has all items of a list without gaps, and has the same length, is that list
same_list : (ss all : List Placed) (n : ℕ) → length ss ≡ length all → Rises ss → AtPlaces n all → ((x : Placed) → Has all x → Has ss x) → ss ≡ all
same_list [] [] n long r at has = refl
same_list [] (a ∷ us) n long r at has = absurd (omega arith)
same_list (s ∷ ss) [] n long r at has = absurd (omega arith)
same_list (s ∷ ss) (a ∷ us) n long r at has =
    let rest = in_rest s a ss us n r at has in
    ⊎_elim
    (λ (e : s ≡ a). (λ i. e i ∷ same_list ss us (n + 1) (omega arith) r.1 at.1 rest i))
    (λ (h : Has ss a). absurd (too_short ss (a ∷ us) n r.1 at (λ x. both x h) (omega arith)))
    (has a (inl refl))
  where
    both : (x : Placed) → Has ss a → Has (a ∷ us) x → Has ss x
    both x h (inl e) = subst (Has ss) e h
    both x h (inr g) = in_rest s a ss us n r at has x g

-- a sorted list of turns without gaps is these turns
pub sorted_is : (ss all : List Placed) → IsPermutation all ss → IsNonDecreasingBy (λ p. p.place) ss → AtPlaces 0 all → ss ≡ all
sorted_is ss all moved up at = same_list ss all 0 (length_permutation all ss moved) (rises_from ss up) at (λ x h. has_from ss x (Contains-permutation all ss x moved (at_has all x h)))

-- ---- the turns of each seat, one seat after another

-- the turns of the seats below n
abbrev pub parts : ℕ → List Placed → List Placed
parts zero xs = []
parts (suc n) xs = parts n xs ++ mine n xs

abbrev pub AreBelow : ℕ → List Placed → Type 0
AreBelow n [] = Unit {0}
AreBelow n (p ∷ ps) = (p.entry.actor < n) × AreBelow n ps

parts_none : (n : ℕ) → parts n [] ≡ []
parts_none zero = refl
parts_none (suc n) = ap (λ (l : List Placed). l ++ []) (parts_none n)

other : (n : ℕ) (p : Placed) (ps : List Placed) → (p.entry.actor ≡ n → ⊥) → mine n (p ∷ ps) ≡ mine n ps
other n p ps ne = ap (λ (b : Bool). cond b (p ∷ mine n ps) (mine n ps)) (ne_eqb p.entry.actor n ne)

own_one : (n : ℕ) (p : Placed) (ps : List Placed) → p.entry.actor ≡ n → mine n (p ∷ ps) ≡ p ∷ mine n ps
own_one n p ps e = ap (λ (b : Bool). cond b (p ∷ mine n ps) (mine n ps)) (eq-eqb p.entry.actor n e)

parts_skip : (n : ℕ) (p : Placed) (ps : List Placed) → n ≤ p.entry.actor → parts n (p ∷ ps) ≡ parts n ps
parts_skip zero p ps le = refl
parts_skip (suc n) p ps le = λ i. parts_skip n p ps (omega arith) i ++ other n p ps (λ e. omega arith) i

parts_cons : (n : ℕ) (p : Placed) (ps : List Placed) → p.entry.actor < n → IsPermutation (p ∷ parts n ps) (parts n (p ∷ ps))
parts_cons zero p ps low = absurd (omega arith)
parts_cons (suc n) p ps low = dite (ℕ_discrete p.entry.actor n)
    (λ e. subst (IsPermutation (p ∷ (parts n ps ++ mine n ps))) (λ i. sym (parts_skip n p ps (omega arith)) i ++ sym (own_one n p ps e) i)
    (IsPermutation-sym (parts n ps ++ p ∷ mine n ps) (p ∷ (parts n ps ++ mine n ps)) (IsPermutation-middle (parts n ps) p (mine n ps))))
    (λ ne. subst (λ (l : List Placed). IsPermutation (p ∷ (parts n ps ++ mine n ps)) (parts n (p ∷ ps) ++ l)) (sym (other n p ps ne))
    (IsPermutation-append_left (mine n ps) (p ∷ parts n ps) (parts n (p ∷ ps)) (parts_cons n p ps (omega arith))))

-- turns are those of each seat, in another order
pub parts_all : (n : ℕ) (ps : List Placed) → AreBelow n ps → IsPermutation ps (parts n ps)
parts_all n [] low = subst (IsPermutation []) (sym (parts_none n)) (IsPermutation-refl [])
parts_all n (p ∷ ps) low = IsPermutation-trans (p ∷ ps) (p ∷ parts n ps) (parts n (p ∷ ps)) (IsPermutation-cons p ps (parts n ps) (parts_all n ps low.1)) (parts_cons n p ps low.0)
