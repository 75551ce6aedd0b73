-- Copies of packets in pages, and in which order pages are used.
use Rattle.std.specs.Prelude.{◌≡◌, ◌<◌, ◌≤◌, ◌+◌, ◌-◌, ◌*◌, ◌==◌, ℕ, zero, suc, List, [], ◌∷◌, if◌then◌else◌, length, take, drop, slice_index}
use Rattle.out_ring.specs.declared.pages.Location.{Location}

abbrev pub copy_at : List ℕ → Location → List ℕ
copy_at bytes location = take location.size (drop location.at bytes)

-- this packet was written over these bytes from this place on, and the others are the same
pub record Writes (bytes : List ℕ) (at : ℕ) (packet : List ℕ) (new : List ℕ) : Type 0 where
  pub size : length new ≡ length bytes
  pub there : take (length packet) (drop at new) ≡ packet
  pub before : (from size : ℕ) → from + size ≤ at → take size (drop from new) ≡ take size (drop from bytes)
  pub behind : (from size : ℕ) → at + length packet ≤ from → take size (drop from new) ≡ take size (drop from bytes)

-- how many bytes of the current page, the last one in the order, have copies, if the next one begins here
abbrev pub filled : List ℕ → ℕ → ℕ
filled order at = at - 49152 * slice_index order 48

-- the first place of the page in the order, or the order's length
abbrev pub place_of : List ℕ → ℕ → ℕ
place_of [] page = zero
place_of (first ∷ order) page = if first == page then zero else suc (place_of order page)

-- each of the pages stands at one place
pub record IsOrder (order : List ℕ) : Type 0 where
  pub size : length order ≡ 49
  pub small : (place : ℕ) → place < 49 → slice_index order place < 49
  pub apart : (place : ℕ) → place < 49 → place_of order (slice_index order place) ≡ place
