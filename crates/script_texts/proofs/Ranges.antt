-- A fact about each element that was read is a fact about the list.
use Rattle.std.proofs.Common.{◌<◌, ℕ, zero, suc, ◌^◌, List, [], ◌∷◌, length, get_or, map, arith}
use Rattle.hex.specs.Hex.{IsBytes}
use Rattle.script_texts.specs.Grammar.{Number, AllWithin}

pub all_bytes : (bytes : List ℕ) → ((k : ℕ) → k < length bytes → get_or bytes k 0 < 256) → IsBytes bytes
all_bytes [] h i = omega arith
all_bytes (b ∷ bs) h zero = h 0 (omega arith)
all_bytes (b ∷ bs) h (suc i) = all_bytes bs (λ k lt. h (suc k) (omega arith)) i

pub all_within : (numbers : List ℕ) → ((k : ℕ) → k < length numbers → get_or numbers k 0 < 2 ^ 16) → AllWithin (map (λ n. Number 16 n) numbers)
all_within [] h = tt
all_within (n ∷ ns) h = (h 0 (omega arith), all_within ns (λ k lt. h (suc k) (omega arith)))
