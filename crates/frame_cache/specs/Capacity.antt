-- How many buffers a store has for the subscribers of its track.
use Rattle.std.specs.Prelude.{◌+◌, ◌*◌, min, zero, suc, ℕ}

-- for n subscribers: 116 for each from the second to the 16th, and 12 more for each from the second to the 256th
abbrev pub capacity_for : ℕ → ℕ
capacity_for zero = 0
capacity_for (suc zero) = 0
capacity_for (suc (suc n)) = 116 * min (suc n) 15 + 12 * min (suc n) 255
