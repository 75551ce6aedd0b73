-- What is stored of the current frame for its subscribers.
use Rattle.std.specs.Prelude.{ℕ, List, [], ◌∷◌, Option, None, Some}
use Rattle.track_core.specs.declared.layers.Layers.{Layers}
use Rattle.frame_cache.specs.declared.cache.FrameCache.{FrameCache}
use Rattle.frame_cache.specs.Sharing.{AreFirst, CarriesMask}

-- If the track is layered and a mask is cached, the cached packet is the first of these packets with this mask.
abbrev pub CachesFirst : Option Layers → List (List ℕ) → FrameCache → Type 0
CachesFirst None packets cached = Unit {0}
CachesFirst (Some l) [] cached = Unit {0}
CachesFirst (Some l) (packet ∷ rest) cached = CarriesMask l.id l.table.structure packet cached.mask cached.packet

-- what is stored belongs to the frame with these packets
pub record IsOfFrame (layers : Option Layers) (packets : List (List ℕ)) (cache : FrameCache) : Type 0 where
  pub cached : CachesFirst layers packets cache
  pub shared : AreFirst cache.shared.items packets
