-- The effect of one more line on the parts of a script.
use Rattle.std.proofs.Common.{◌≡◌, ℕ, ◌<◌, ◌≤◌, ◌-◌, Bool, true, false, cond, eqb, List, [], ◌∷◌, ◌++◌, map, refl, sym, ap, ◌∙◌, subst, arith, Result, Ok, Err, slice_set, get_or}
use Rattle.std.specs.Prelude.{OnOk}
use Rattle.std.proofs.lemmas.Bool.{false≢true}
use mathlib.Core.Logic.{dite}
use native.Mathlib.Decide.{ℕ_discrete}
use Rattle.sfu_base.specs.declared.call.Call.{Call}
use Rattle.port_config.specs.actors.Script.{Said, acts_of, calls_by, closing_of, opening_of}
use Rattle.port_config.specs.actors.Reader.{some_acted}

abbrev pub said : ℕ → Call → Said
said actor call = record { actor = actor; call = call }

-- ---- the opening part

pub open_more : (xs : List Said) (c : Call) → some_acted xs ≡ false → opening_of (xs ++ said 0 c ∷ []) ≡ opening_of xs ++ c ∷ []
open_more [] c h = refl
open_more (y ∷ ys) c h = go (open_more ys c) (eqb y.actor 0) h
  where
    go : (some_acted ys ≡ false → opening_of (ys ++ said 0 c ∷ []) ≡ opening_of ys ++ c ∷ []) → (b : Bool) → cond b (some_acted ys) true ≡ false
        → cond b (y.call ∷ opening_of (ys ++ said 0 c ∷ [])) [] ≡ cond b (y.call ∷ opening_of ys) [] ++ c ∷ []
    go rest true h = ap (λ (l : List Call). y.call ∷ l) (rest h)
    go rest false h = absurd (false≢true (sym h))

pub open_same : (xs : List Said) (x : Said) → some_acted xs ≡ true → opening_of (xs ++ x ∷ []) ≡ opening_of xs
open_same [] x h = absurd (false≢true h)
open_same (y ∷ ys) x h = go (open_same ys x) (eqb y.actor 0) h
  where
    go : (some_acted ys ≡ true → opening_of (ys ++ x ∷ []) ≡ opening_of ys) → (b : Bool) → cond b (some_acted ys) true ≡ true
        → cond b (y.call ∷ opening_of (ys ++ x ∷ [])) [] ≡ cond b (y.call ∷ opening_of ys) []
    go rest true h = ap (λ (l : List Call). y.call ∷ l) (rest h)
    go rest false h = refl

pub open_act : (xs : List Said) (x : Said) → eqb x.actor 0 ≡ false → opening_of (xs ++ x ∷ []) ≡ opening_of xs
open_act [] x h = ap (λ (b : Bool). cond b (x.call ∷ []) []) h
open_act (y ∷ ys) x h = ap (λ (l : List Call). cond (eqb y.actor 0) (y.call ∷ l) []) (open_act ys x h)

-- ---- the calls of one actor

abbrev more_by : Bool → List Call → Call → List Call
more_by b calls c = cond b (calls ++ c ∷ []) calls

pub calls_one : (k : ℕ) (xs : List Said) (x : Said) → more_by (eqb x.actor k) (calls_by k xs) x.call ≡ calls_by k (xs ++ x ∷ [])
calls_one k [] x = go (eqb x.actor k)
  where
    go : (b : Bool) → more_by b [] x.call ≡ cond b (x.call ∷ []) []
    go true = refl
    go false = refl
calls_one k (y ∷ ys) x = go (eqb y.actor k) (eqb x.actor k) (calls_one k ys x)
  where
    go : (b d : Bool) → more_by d (calls_by k ys) x.call ≡ calls_by k (ys ++ x ∷ []) → more_by d (cond b (y.call ∷ calls_by k ys) (calls_by k ys)) x.call ≡ cond b (y.call ∷ calls_by k (ys ++ x ∷ [])) (calls_by k (ys ++ x ∷ []))
    go true true h = ap (λ (l : List Call). y.call ∷ l) h
    go true false h = ap (λ (l : List Call). y.call ∷ l) h
    go false true h = h
    go false false h = h

pub calls_same : (k : ℕ) (xs : List Said) (x : Said) → eqb x.actor k ≡ false → calls_by k (xs ++ x ∷ []) ≡ calls_by k xs
calls_same k xs x h = sym (calls_one k xs x) ∙ ap (λ (b : Bool). more_by b (calls_by k xs) x.call) h

-- ---- the closing part

pub close_more : (xs : List Said) (c : Call) → some_acted xs ≡ true → closing_of (xs ++ said 0 c ∷ []) ≡ closing_of xs ++ c ∷ []
close_more [] c h = absurd (false≢true h)
close_more (y ∷ ys) c h = go (close_more ys c) (eqb y.actor 0) h
  where
    go : (some_acted ys ≡ true → closing_of (ys ++ said 0 c ∷ []) ≡ closing_of ys ++ c ∷ []) → (b : Bool) → cond b (some_acted ys) true ≡ true
        → cond b (closing_of (ys ++ said 0 c ∷ [])) (calls_by 0 (ys ++ said 0 c ∷ [])) ≡ cond b (closing_of ys) (calls_by 0 ys) ++ c ∷ []
    go rest true h = rest h
    go rest false h = sym (calls_one 0 ys (said 0 c))

pub close_same : (xs : List Said) (c : Call) → some_acted xs ≡ false → closing_of (xs ++ said 0 c ∷ []) ≡ closing_of xs
close_same [] c h = refl
close_same (y ∷ ys) c h = go (close_same ys c) (eqb y.actor 0) h
  where
    go : (some_acted ys ≡ false → closing_of (ys ++ said 0 c ∷ []) ≡ closing_of ys) → (b : Bool) → cond b (some_acted ys) true ≡ false
        → cond b (closing_of (ys ++ said 0 c ∷ [])) (calls_by 0 (ys ++ said 0 c ∷ [])) ≡ cond b (closing_of ys) (calls_by 0 ys)
    go rest true h = rest h
    go rest false h = absurd (false≢true (sym h))

pub close_act : (xs : List Said) (x : Said) → eqb x.actor 0 ≡ false → closing_of (xs ++ x ∷ []) ≡ closing_of xs
close_act [] x h = ap (λ (b : Bool). cond b [] []) h
close_act (y ∷ ys) x h = λ i. cond (eqb y.actor 0) (close_act ys x h i) (calls_same 0 ys x h i)

-- ---- whether a line of an actor came

pub acted_plain : (xs : List Said) (c : Call) → some_acted (xs ++ said 0 c ∷ []) ≡ some_acted xs
acted_plain [] c = refl
acted_plain (y ∷ ys) c = ap (λ (b : Bool). cond (eqb y.actor 0) b true) (acted_plain ys c)

pub acted_act : (xs : List Said) (x : Said) → eqb x.actor 0 ≡ false → some_acted (xs ++ x ∷ []) ≡ true
acted_act [] x h = ap (λ (b : Bool). cond b false true) h
acted_act (y ∷ ys) x h = go (acted_act ys x h) (eqb y.actor 0)
  where
    go : some_acted (ys ++ x ∷ []) ≡ true → (b : Bool) → cond b (some_acted (ys ++ x ∷ [])) true ≡ true
    go rest true = rest
    go rest false = refl

-- ---- the calls of all actors

pub acts_plain : (xs : List Said) (c : Call) → acts_of (xs ++ said 0 c ∷ []) ≡ acts_of xs
acts_plain xs c =
    let x : Said = said 0 c in
    λ i. calls_same 1 xs x refl i ∷ calls_same 2 xs x refl i ∷ calls_same 3 xs x refl i ∷ calls_same 4 xs x refl i
    ∷ calls_same 5 xs x refl i ∷ calls_same 6 xs x refl i ∷ calls_same 7 xs x refl i ∷ calls_same 8 xs x refl i ∷ []

-- a fact about each actor's number
pub by_actor : (P : ℕ → Type 0) → P 1 → P 2 → P 3 → P 4 → P 5 → P 6 → P 7 → P 8 → (k : ℕ) → 0 < k → k ≤ 8 → P k
by_actor P p1 p2 p3 p4 p5 p6 p7 p8 k low high =
    dite (ℕ_discrete k 1) (λ e. subst P (sym e) p1) (λ n1.
    dite (ℕ_discrete k 2) (λ e. subst P (sym e) p2) (λ n2.
    dite (ℕ_discrete k 3) (λ e. subst P (sym e) p3) (λ n3.
    dite (ℕ_discrete k 4) (λ e. subst P (sym e) p4) (λ n4.
    dite (ℕ_discrete k 5) (λ e. subst P (sym e) p5) (λ n5.
    dite (ℕ_discrete k 6) (λ e. subst P (sym e) p6) (λ n6.
    dite (ℕ_discrete k 7) (λ e. subst P (sym e) p7) (λ n7.
    dite (ℕ_discrete k 8) (λ e. subst P (sym e) p8) (λ n8. absurd (omega arith)))))))))

abbrev all_more : List Said → ℕ → Call → List (List Call)
all_more xs k c = map (λ j. more_by (eqb k j) (calls_by j xs) c) (1 ∷ 2 ∷ 3 ∷ 4 ∷ 5 ∷ 6 ∷ 7 ∷ 8 ∷ [])

pub acts_more : (xs : List Said) (k : ℕ) (c : Call) → 0 < k → k ≤ 8 → slice_set (acts_of xs) (k - 1) (calls_by k xs ++ c ∷ []) ≡ acts_of (xs ++ said k c ∷ [])
acts_more xs k c low high =
    let x : Said = said k c in
    by_actor (λ (n : ℕ). slice_set (acts_of xs) (n - 1) (calls_by n xs ++ c ∷ []) ≡ all_more xs n c) refl refl refl refl refl refl refl refl k low high
    ∙ (λ i. calls_one 1 xs x i ∷ calls_one 2 xs x i ∷ calls_one 3 xs x i ∷ calls_one 4 xs x i ∷ calls_one 5 xs x i ∷ calls_one 6 xs x i ∷ calls_one 7 xs x i ∷ calls_one 8 xs x i ∷ [])

pub act_of : (xs : List Said) (k : ℕ) (d : List Call) → 0 < k → k ≤ 8 → get_or (acts_of xs) (k - 1) d ≡ calls_by k xs
act_of xs k d low high = by_actor (λ (n : ℕ). get_or (acts_of xs) (n - 1) d ≡ calls_by n xs) refl refl refl refl refl refl refl refl k low high

-- ---- results

pub on_ok : {T E : Type 0} {P Q : Type 0} (r : Result T E) → OnOk r P → (P → Q) → OnOk r Q
on_ok (Ok x) p f = f p
on_ok (Err e) p f = tt
