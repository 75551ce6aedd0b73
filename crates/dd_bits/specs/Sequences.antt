-- Grammars that are read from left to right, one part after another, until the first fault. S is the input, a list of bits or of bytes. Reading
-- a part returns its value and the remaining input, or a fault E. Here each part reads the input that the part before it left. The code keeps a
-- place in its input, and fills an array or a list.
use Rattle.std.specs.Prelude.{◌≡◌, ℕ, zero, suc, Bool, List, [], ◌∷◌, ◌++◌, Option, Some, None, Result, Ok, Err}
use Rattle.dd_bits.specs.declared.reader.BitReader.{BitReader}
use Rattle.dd_bits.specs.Numbers.{fixed, non_symmetric}
use Rattle.dd_bits.specs.Reader.{bits_left}

infixl 10 ◌>>=◌
abbrev pub ◌>>=◌ : {A B E : Type 0} → Result A E → (A → Result B E) → Result B E
(Ok x) >>= f = f x
(Err e) >>= f = Err e

-- a value, or this fault if there is none
abbrev pub or_fault : {A E : Type 0} → E → Option A → Result A E
or_fault e None = Err e
or_fault e (Some x) = Ok x

-- f(n) and ns(n), or this fault if there are too few bits
abbrev pub fixed_or : {E : Type 0} → E → ℕ → List Bool → Result (ℕ × List Bool) E
fixed_or short n bits = or_fault short (fixed n bits)

abbrev pub non_symmetric_or : {E : Type 0} → E → ℕ → List Bool → Result (ℕ × List Bool) E
non_symmetric_or short n bits = or_fault short (non_symmetric n bits)

-- ---- n items, one after another

unfoldable pub repeat_at : {A E S : Type 0} → (S → Result (A × S) E) → ℕ → S → Result (List A × S) E
repeat_at item zero input = Ok ([], input)
repeat_at item (suc n) input = do
  first ← item input
  others ← repeat_at item n first.1
  Ok (first.0 ∷ others.0, others.1)

-- ---- items up to a mark that ends them

-- what follows an item, if there is one
abbrev pub going_on : {A E S : Type 0} → (A → S → Result (List A × S) E) → Option A × S → Result (List A × S) E
going_on more (None, input) = Ok ([], input)
going_on more (Some x, input) = more x input >>= λ others. Ok (x ∷ others.0, others.1)

-- items up to a mark, each read after the one before it; if there are more items than the limit, the fault is `full`
unfoldable pub until_at : {A E S : Type 0} → (A → S → Result (Option A × S) E) → E → ℕ → A → S → Result (List A × S) E
until_at next full zero before input = next before input >>= going_on (λ x rest. Err full)
until_at next full (suc capacity) before input = next before input >>= going_on (until_at next full capacity)

-- the encoding of such items, each after the one before it, and of the mark
abbrev pub until_spelled : {A T : Type 0} → (A → A → List T) → List T → A → List A → List T
until_spelled item mark before [] = mark
until_spelled item mark before (x ∷ xs) = item before x ++ until_spelled item mark x xs

-- R holds of each item and the one before it
abbrev pub EachAfter : {A : Type 0} → (A → A → Type 0) → A → List A → Type 0
EachAfter R before [] = Unit {0}
EachAfter R before (x ∷ xs) = R before x × EachAfter R x xs

-- ---- the result of a function that reads bits

-- The function's result, mapped by `view`, and the bits that it leaves are those of the grammar; or its error is the fault of the grammar.
abbrev pub Gives : {X Y E : Type 0} → (X → Y) → Result X E → BitReader → Result (Y × List Bool) E → Type 0
Gives view (Ok x) new given = given ≡ Ok (view x, bits_left new)
Gives view (Err e) new given = given ≡ Err e
