-- The reads of a command, one after another.
use Rattle.std.proofs.Common.{◌≡◌, ◌<◌, ℕ, List, [], ◌∷◌, ◌++◌, length, refl, sym, ap, ◌∙◌, arith, append_assoc, append-nil}
use Rattle.sfu_driver.specs.Reads.{BeginsWith}

-- more was read after the first read
pub begins_on : (first taken more : List ℕ) → BeginsWith first taken → 0 < length taken → BeginsWith first (taken ++ more)
begins_on first taken more begins some = record {
  more = begins.more ++ more;
  split = ap (λ (xs : List ℕ). xs ++ more) begins.split ∙ append_assoc first begins.more more;
  none = λ none. absurd (let empty = ap length (begins.none none) in omega arith);
}

-- the first read returned these bytes, and nothing else was read yet
pub begins_first : (first : List ℕ) → BeginsWith first ([] ++ first)
begins_first first = record { more = []; split = sym (append-nil first); none = λ none. empty first none }
  where
    empty : (xs : List ℕ) → length xs ≡ 0 → xs ≡ []
    empty [] none = refl
    empty (b ∷ xs) none = absurd (omega arith)
