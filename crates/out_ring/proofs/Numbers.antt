-- Packets with consecutive sequence numbers.
use Rattle.std.proofs.Common.{◌≡◌, ◌≢◌, ◌<◌, ℕ, zero, suc, ◌+◌, ◌%◌, Bool, cond, List, [], ◌∷◌, ◌++◌, length, take, drop, refl, sym, ap, ◌∙◌, arith, Some, None, slice_get}
use Rattle.std.specs.Prelude.{◌==◌}
use Rattle.std.specs.List.{find}
use Rattle.std.proofs.lemmas.Bool.{eq-eqb, ne_eqb}
use Rattle.out_ring.specs.Ring.{Pushed, Sent, sent}
use Rattle.out_ring.specs.History.{numbered}

pub numbered_same : (n m ssrc : ℕ) (ps : List Pushed) → n % 65536 ≡ m % 65536 → numbered n ssrc ps ≡ numbered m ssrc ps
numbered_same n m ssrc [] e = refl
numbered_same n m ssrc (p ∷ ps) e =
    ap (λ (k : ℕ). sent k ssrc p ∷ numbered (n + 1) ssrc ps) e
    ∙ ap (λ (rest : List Sent). sent (m % 65536) ssrc p ∷ rest) (numbered_same (n + 1) (m + 1) ssrc ps (omega (arith, e)))

pub length-numbered : (n ssrc : ℕ) (ps : List Pushed) → length (numbered n ssrc ps) ≡ length ps
length-numbered n ssrc [] = refl
length-numbered n ssrc (p ∷ ps) = ap suc (length-numbered (n + 1) ssrc ps)

pub numbered-append : (n ssrc : ℕ) (xs ys : List Pushed) → numbered n ssrc (xs ++ ys) ≡ numbered n ssrc xs ++ numbered (n + length xs) ssrc ys
numbered-append n ssrc [] ys = ap (λ (k : ℕ). numbered k ssrc ys) (let e : n ≡ n + 0 = omega arith in e)
numbered-append n ssrc (x ∷ xs) ys =
    ap (λ (l : List Sent). sent (n % 65536) ssrc x ∷ l)
    (numbered-append (n + 1) ssrc xs ys
    ∙ ap (λ (k : ℕ). numbered (n + 1) ssrc xs ++ numbered k ssrc ys) (let e : n + 1 + length xs ≡ n + suc (length xs) = omega arith in e))

pub take-numbered : (i n ssrc : ℕ) (ps : List Pushed) → take i (numbered n ssrc ps) ≡ numbered n ssrc (take i ps)
take-numbered zero n ssrc ps = refl
take-numbered (suc i) n ssrc [] = refl
take-numbered (suc i) n ssrc (p ∷ ps) = ap (λ (l : List Sent). sent (n % 65536) ssrc p ∷ l) (take-numbered i (n + 1) ssrc ps)

pub drop-numbered : (i n ssrc : ℕ) (ps : List Pushed) → drop i (numbered n ssrc ps) ≡ numbered (n + i) ssrc (drop i ps)
drop-numbered zero n ssrc ps = ap (λ (k : ℕ). numbered k ssrc ps) (let e : n ≡ n + 0 = omega arith in e)
drop-numbered (suc i) n ssrc [] = refl
drop-numbered (suc i) n ssrc (p ∷ ps) =
    drop-numbered i (n + 1) ssrc ps ∙ ap (λ (k : ℕ). numbered k ssrc (drop i ps)) (let e : n + 1 + i ≡ n + suc i = omega arith in e)

pub item-numbered : (n ssrc : ℕ) (ps : List Pushed) (i : ℕ) (p : Pushed) → slice_get ps i ≡ Some p
    → slice_get (numbered n ssrc ps) i ≡ Some (sent ((n + i) % 65536) ssrc p)
item-numbered n ssrc [] i p e = absurd (cc e)
item-numbered n ssrc (q ∷ ps) zero p e =
    ap (λ (k : ℕ). Some (sent (k % 65536) ssrc q)) (let same : n ≡ n + 0 = omega arith in same)
    ∙ ap (λ (r : Pushed). Some (sent ((n + 0) % 65536) ssrc r)) (let same : q ≡ p = cc e in same)
item-numbered n ssrc (q ∷ ps) (suc i) p e =
    item-numbered (n + 1) ssrc ps i p e ∙ ap (λ (k : ℕ). Some (sent (k % 65536) ssrc p)) (let same : n + 1 + i ≡ n + suc i = omega arith in same)

pub number-numbered : (n ssrc : ℕ) (ps : List Pushed) (i : ℕ) (x : Sent) → slice_get (numbered n ssrc ps) i ≡ Some x → x.number ≡ (n + i) % 65536
number-numbered n ssrc [] i x e = absurd (cc e)
number-numbered n ssrc (q ∷ ps) zero x e =
    let same : sent (n % 65536) ssrc q ≡ x = cc e in
    sym (ap (λ (y : Sent). y.number) same) ∙ ap (λ (k : ℕ). k % 65536) (let more : n ≡ n + 0 = omega arith in more)
number-numbered n ssrc (q ∷ ps) (suc i) x e =
    number-numbered (n + 1) ssrc ps i x e ∙ ap (λ (k : ℕ). k % 65536) (let more : n + 1 + i ≡ n + suc i = omega arith in more)

-- ---- by number

-- the first packet with a number is the one at the number's distance from n
pub find-numbered : (n ssrc s i : ℕ) (ps : List Pushed) (p : Pushed) → slice_get ps i ≡ Some p → i < 65536 → (n + i) % 65536 ≡ s
    → find (λ packet. packet.number == s) (numbered n ssrc ps) ≡ Some (sent s ssrc p)
find-numbered n ssrc s i [] p at few e = absurd (cc at)
find-numbered n ssrc s zero (q ∷ ps) p at few e =
    let here : n % 65536 ≡ s = omega (arith, e) in
    ap (λ (b : Bool). cond b (Some (sent (n % 65536) ssrc q)) (find (λ packet. packet.number == s) (numbered (n + 1) ssrc ps))) (eq-eqb (n % 65536) s here)
    ∙ ap (λ (k : ℕ). Some (sent k ssrc q)) here ∙ ap (λ (r : Pushed). Some (sent s ssrc r)) (let same : q ≡ p = cc at in same)
find-numbered n ssrc s (suc i) (q ∷ ps) p at few e =
    ap (λ (b : Bool). cond b (Some (sent (n % 65536) ssrc q)) (find (λ packet. packet.number == s) (numbered (n + 1) ssrc ps)))
    (ne_eqb (n % 65536) s (λ here. omega (arith, here, e, few)))
    ∙ find-numbered (n + 1) ssrc s i ps p at (omega arith) (ap (λ (k : ℕ). k % 65536) (let same : n + 1 + i ≡ n + suc i = omega arith in same) ∙ e)

-- no packet has a number that lies at none of the places
pub no_number : (n ssrc s : ℕ) (ps : List Pushed) → ((i : ℕ) → i < length ps → (n + i) % 65536 ≢ s)
    → find (λ packet. packet.number == s) (numbered n ssrc ps) ≡ None
no_number n ssrc s [] none = refl
no_number n ssrc s (q ∷ ps) none =
    ap (λ (b : Bool). cond b (Some (sent (n % 65536) ssrc q)) (find (λ packet. packet.number == s) (numbered (n + 1) ssrc ps)))
    (ne_eqb (n % 65536) s (λ here. none 0 (omega arith) (ap (λ (k : ℕ). k % 65536) (let same : n + 0 ≡ n = omega arith in same) ∙ here)))
    ∙ no_number (n + 1) ssrc s ps (λ i lt here. none (suc i) (omega arith) (ap (λ (k : ℕ). k % 65536) (let same : n + suc i ≡ n + 1 + i = omega arith in same) ∙ here))
