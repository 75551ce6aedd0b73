-- The text that is due for bytes after other bytes.
use Rattle.std.proofs.Common.{◌≡◌, ℕ, List, [], ◌∷◌, ◌++◌, refl, sym, ap, ◌∙◌, Result, Ok, Err, append_assoc, append-nil}
use Rattle.sfu_driver.specs.Outcome.{End, Outcome, after, before, takes, then_due}

pub before_twice : {S : Type 0} (t u : List ℕ) (o : Outcome S) → before (t ++ u) o ≡ before t (before u o)
before_twice {S} t u o = ap (λ (text : List ℕ). let r : Outcome S = record { text = text; result = o.result } in r) (append_assoc t u o.text)

pub after_before : {S T : Type 0} (t u : List ℕ) (r : Result S End) (g : S → Outcome T) → after (t ++ u) r g ≡ before t (after u r g)
after_before t u (Ok s) g = before_twice t u (g s)
after_before t u (Err end) g = refl

pub after_then : {S T V : Type 0} (t : List ℕ) (r : Result S End) (f : S → Outcome T) (g : T → Outcome V) → then_due (after t r f) g ≡ after t r (λ s. then_due (f s) g)
after_then t (Ok s) f g = after_before t (f s).text (f s).result g
after_then t (Err end) f g = refl

pub then_assoc : {S T V : Type 0} (o : Outcome S) (f : S → Outcome T) (g : T → Outcome V) → then_due (then_due o f) g ≡ then_due o (λ s. then_due (f s) g)
then_assoc o f g = after_then o.text o.result f g

-- a rule for what follows may be replaced by another one with the same results
pub after_same : {S T : Type 0} (t : List ℕ) (r : Result S End) (f g : S → Outcome T) → ((s : S) → f s ≡ g s) → after t r f ≡ after t r g
after_same t (Ok s) f g same = ap (before t) (same s)
after_same t (Err end) f g same = refl

pub takes_on : {S : Type 0} (byte : S → ℕ → Outcome S) (s : S) (xs ys : List ℕ) → takes byte s (xs ++ ys) ≡ then_due (takes byte s xs) (λ q. takes byte q ys)
takes_on byte s [] ys = refl
takes_on byte s (b ∷ xs) ys =
    after_same (byte s b).text (byte s b).result (λ q. takes byte q (xs ++ ys)) (λ q. then_due (takes byte q xs) (λ p. takes byte p ys)) (λ q. takes_on byte q xs ys)
    ∙ sym (then_assoc (byte s b) (λ q. takes byte q xs) (λ p. takes byte p ys))

pub then_ok : {S T : Type 0} (o : Outcome S) (q : S) (g : S → Outcome T) → o.result ≡ Ok q → then_due o g ≡ before o.text (g q)
then_ok {S} o q g is = ap (λ (r : Result S End). after o.text r g) is

pub then_err : {S T : Type 0} (o : Outcome S) (end : End) (g : S → Outcome T) → o.result ≡ Err end → then_due o g ≡ record { text = o.text; result = Err end }
then_err {S} o end g is = ap (λ (r : Result S End). after o.text r g) is

-- the state after the first bytes, and the other bytes
pub takes_ok : {S : Type 0} (byte : S → ℕ → Outcome S) (s q : S) (xs ys : List ℕ) → (takes byte s xs).result ≡ Ok q
    → takes byte s (xs ++ ys) ≡ before (takes byte s xs).text (takes byte q ys)
takes_ok byte s q xs ys is = takes_on byte s xs ys ∙ then_ok (takes byte s xs) q (λ p. takes byte p ys) is

-- the command ended in the first bytes
pub takes_err : {S : Type 0} (byte : S → ℕ → Outcome S) (s : S) (xs ys : List ℕ) (end : End) → (takes byte s xs).result ≡ Err end
    → takes byte s (xs ++ ys) ≡ record { text = (takes byte s xs).text; result = Err end }
takes_err byte s xs ys end is = takes_on byte s xs ys ∙ then_err (takes byte s xs) end (λ p. takes byte p ys) is

more_of : {S T : Type 0} (o : Outcome S) (r : Result S End) (g : S → Outcome T) → (more : List ℕ) × ((after o.text r g).text ≡ o.text ++ more)
more_of o (Ok q) g = ((g q).text, refl)
more_of o (Err end) g = ([], sym (append-nil o.text))

-- the text of the first bytes is a prefix of the whole text
pub then_front : {S T : Type 0} (o : Outcome S) (g : S → Outcome T) → (more : List ℕ) × ((then_due o g).text ≡ o.text ++ more)
then_front o g = more_of o o.result g

pub takes_front : {S : Type 0} (byte : S → ℕ → Outcome S) (s : S) (xs ys : List ℕ) → (more : List ℕ) × ((takes byte s (xs ++ ys)).text ≡ (takes byte s xs).text ++ more)
takes_front {S} byte s xs ys =
    let part = then_front (takes byte s xs) (λ q. takes byte q ys) in
    (part.0, ap (λ (o : Outcome S). o.text) (takes_on byte s xs ys) ∙ part.1)
