-- The used distances in an array are valid.
use Rattle.std.proofs.Common.{◌<◌, ℕ, zero, suc, arith, List, [], ◌∷◌, take}
use Rattle.std.specs.Prelude.{slice_index}
use Rattle.std.specs.List.{AllByRecursion}
use Rattle.sfu_base.specs.declared.frame.FrameMeaning.{FrameMeaning}
use Rattle.sfu_base.specs.Frame.{IsDistance, IsValid}
use Rattle.forwarding_model.specs.forwarding.Targets.{references}

pub taken_all : (P : ℕ → Type 0) (n : ℕ) (xs : List ℕ) → ((i : ℕ) → i < n → P (slice_index xs i)) → AllByRecursion P (take n xs)
taken_all P zero xs h = tt
taken_all P (suc n) [] h = tt
taken_all P (suc n) (x ∷ xs) h = (h 0 (omega arith), taken_all P n xs (λ i lt. h (suc i) (omega arith)))

pub distances_of : (f : FrameMeaning) → IsValid f → AllByRecursion IsDistance (references f)
distances_of f valid = taken_all IsDistance f.ref_count f.refs valid.distances
