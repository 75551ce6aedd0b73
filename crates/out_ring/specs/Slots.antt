-- Which packet is in a slot: one that is shared, or a copy in a page.
use Rattle.std.specs.Prelude.{◌≡◌, ◌<◌, ◌≤◌, ℕ, zero, suc, ◌+◌, ◌-◌, ◌*◌, List, [], ◌∷◌, ◌++◌, Option, None, Some, drop, false, length, map, replicate, slice_get}
use Rattle.rtp_packet.specs.Faults.{first_fault}
use Rattle.out_ring.specs.declared.heads.Head.{Head}
use Rattle.out_ring.specs.declared.pages.Copies.{Copies}
use Rattle.out_ring.specs.declared.slots.Slots.{Slots}
use Rattle.out_ring.specs.Pages.{copy_at, filled, place_of}
use Rattle.out_ring.specs.Ring.{Pushed}

-- the shared packet, or else the copy
abbrev pub bytes_by : Option (List ℕ) → List ℕ → List ℕ
bytes_by (Some shared) copy = shared
bytes_by None copy = copy

abbrev pub packet_in : List ℕ → Head → Pushed
packet_in bytes head = record { bytes = bytes_by head.shared (copy_at bytes head.location); marker = head.marker }

abbrev pub packets_of : Slots → List Pushed
packets_of slots = map (packet_in slots.own.bytes.items) slots.heads

-- the packet is shared, or it is there
pub record HasCopy (bytes : List ℕ) (head : Head) : Type 0 where
  pub there : head.shared ≡ None → head.location.at + head.location.size ≤ length bytes
  pub reads : head.shared ≡ None → first_fault (copy_at bytes head.location) ≡ None
  pub fits : head.location.size ≤ 1536
  pub above : 49152 * head.location.page ≤ head.location.at
  pub within : head.location.at + head.location.size ≤ 49152 * head.location.page + 49152

-- A packet with this many newer ones is in its page, in the current one below what is filled. Each newer one has at most 1,536 bytes, and a page that
-- was left has at least 32, so few pages were begun since.
pub record IsPlaced (bytes : List ℕ) (order : List ℕ) (filled : ℕ) (head : Head) (newer : ℕ) : Type 0 where
  pub copy : HasCopy bytes head
  pub page : place_of order head.location.page < 49
  pub below : place_of order head.location.page ≡ 48 → head.location.at + head.location.size ≤ 49152 * head.location.page + filled
  pub few : filled + 2310144 ≤ 49152 * place_of order head.location.page + 1536 * newer

-- All these packets are, the oldest first, and newer ones are in the same pages or in pages that were begun later.
pub record ArePlaced (bytes : List ℕ) (order : List ℕ) (filled : ℕ) (heads : List Head) : Type 0 where
  pub each : (i : ℕ) (head : Head) → slice_get heads i ≡ Some head → IsPlaced bytes order filled head (length heads - suc i)
  pub later : (i j : ℕ) (head newer : Head) → i ≤ j → slice_get heads i ≡ Some head → slice_get heads j ≡ Some newer
      → place_of order head.location.page ≤ place_of order newer.location.page

abbrev pub AreIn : Copies → List Head → Type 0
AreIn own heads = ArePlaced own.bytes.items own.order.items (filled own.order.items own.at) heads

-- this many of the newest packets are
pub record AreHeld (slots : Slots) (held : ℕ) : Type 0 where
  pub size : length slots.heads ≡ 1536
  pub placed : AreIn slots.own (drop (1536 - held) slots.heads)

-- the head of a slot that hasn't been filled yet
abbrev pub bare : Head
bare = record { shared = None; location = record { at = 0; size = 0; page = 0 }; marker = false }

-- these heads, followed by bare heads for the remaining slots
unfoldable pub padded : List Head → List Head
padded heads = heads ++ replicate (1536 - length heads) bare

-- the packet that the head at this place shares, if there is one
abbrev pub shared_at : List Head → ℕ → Option (List ℕ)
shared_at [] place = None
shared_at (head ∷ heads) zero = head.shared
shared_at (head ∷ heads) (suc place) = shared_at heads place

-- the heads after the head at this place, if there is one, stopped sharing its packet
abbrev pub evict : List Head → ℕ → List Head
evict [] place = []
evict (head ∷ heads) zero = record head { shared = None } ∷ heads
evict (head ∷ heads) (suc place) = head ∷ evict heads place
