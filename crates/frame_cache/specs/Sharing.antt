-- The packets that subscribers of the current frame share: packets of the frame, and its first packet with another mask.
use Rattle.std.specs.Prelude.{◌≡◌, ◌⊎◌, ℕ, List, [], ◌∷◌, ◌++◌, Option, None, Some, length, slice_get, take}
use Rattle.dd_structure.specs.TemplateStructure.{TemplateStructure}
use Rattle.packet_format.specs.Remasked.{remasked_bytes}

-- if a mask is cached, the cached packet is the first packet with this mask
abbrev pub CarriesMask : ℕ → Option TemplateStructure → List ℕ → Option ℕ → List ℕ → Type 0
CarriesMask id force packet None kept = Unit {0}
CarriesMask id force packet (Some mask) kept = kept ≡ remasked_bytes id force mask packet

-- if a packet is shared at this place, it is this packet
abbrev pub IsShared : ℕ → List ℕ → List (List ℕ) → Type 0
IsShared place packet shared = (other : List ℕ) → slice_get shared place ≡ Some other → other ≡ packet

-- either nothing changed; or this packet's place is the next one, and it is shared after the others
abbrev pub MayShare : ℕ → List ℕ → List (List ℕ) → List (List ℕ) → Type 0
MayShare place packet old new = (new ≡ old) ⊎ ((length old ≡ place) × (new ≡ old ++ packet ∷ []))

-- the shared packets are the first of these packets
abbrev pub AreFirst : List (List ℕ) → List (List ℕ) → Type 0
AreFirst shared packets = shared ≡ take (length shared) packets
