-- The packet in a new buffer.
use Rattle.std.specs.Prelude.{ℕ, List, [], ◌∷◌}

-- a fixed header of version 2 (RFC 3550, section 5.1), and nothing else
abbrev pub least_packet : List ℕ
least_packet = 128 ∷ 0 ∷ 0 ∷ 0 ∷ 0 ∷ 0 ∷ 0 ∷ 0 ∷ 0 ∷ 0 ∷ 0 ∷ 0 ∷ []
