-- Packets of a frame that are shared.
use Rattle.std.proofs.Common.{◌≡◌, ◌<◌, ◌≤◌, inl, inr, ℕ, suc, List, [], ◌∷◌, ◌++◌, length, take, refl, sym, ap, subst, ◌∙◌, arith, Option, None, Some, slice_get, length-append}
use Rattle.std.proofs.lemmas.Option.{slice_get_within}
use Rattle.out_ring.proofs.Lists.{item_before_end, take_one_more}
use Rattle.track_core.specs.declared.layers.Layers.{Layers}
use Rattle.frame_cache.specs.declared.cache.FrameCache.{FrameCache}
use Rattle.frame_cache.specs.Sharing.{AreFirst, IsShared, MayShare, CarriesMask}
use Rattle.room_core.specs.FrameCache.{IsOfFrame, CachesFirst}
use Rattle.room_core.proofs.Pushing.{keeps_nothing}

-- the packet shared at an index of the frame is the frame's packet there
pub is_shared : (shared packets : List (List ℕ)) (place : ℕ) (packet : List ℕ) → AreFirst shared packets → slice_get packets place ≡ Some packet
    → IsShared place packet shared
is_shared shared packets place packet first at other there =
    let within : place < length shared = slice_get_within shared place other there in
    let same : Some other ≡ Some packet =
    sym there ∙ ap (λ (l : List (List ℕ)). slice_get l place) first ∙ item_before_end packets (length shared) place within ∙ at in
    cc same

-- one more packet is shared, or none
pub more_shared : (old new packets : List (List ℕ)) (place : ℕ) (packet : List ℕ) → AreFirst old packets → slice_get packets place ≡ Some packet
    → MayShare place packet old new → AreFirst new packets
more_shared old new packets place packet first at (inl same) = subst (λ (l : List (List ℕ)). AreFirst l packets) (sym same) first
more_shared old new packets place packet first at (inr one) =
    subst (λ (l : List (List ℕ)). AreFirst l packets) (sym one.1)
    (ap (λ (l : List (List ℕ)). l ++ packet ∷ []) (first ∙ ap (λ (n : ℕ). take n packets) one.0)
    ∙ sym (take_one_more packets place packet at)
    ∙ ap (λ (n : ℕ). take n packets) (let e : suc place ≡ length (old ++ packet ∷ []) = omega (arith, length-append old (packet ∷ []), one.0) in e))

pub shared_grows : (place : ℕ) (packet : List ℕ) (old new : List (List ℕ)) → MayShare place packet old new → length old ≤ length new
shared_grows place packet old new (inl same) = subst (λ (l : List (List ℕ)). length old ≤ length l) (sym same) (omega arith)
shared_grows place packet old new (inr one) =
    subst (λ (l : List (List ℕ)). length old ≤ length l) (sym one.1) (omega (arith, length-append old (packet ∷ [])))

-- ---- what is stored of the frame

pub frame_begins : (layers : Option Layers) (packets : List (List ℕ)) (cache : FrameCache) → cache.mask ≡ None → cache.shared.items ≡ [] → IsOfFrame layers packets cache
frame_begins layers packets cache none empty = record {
  cached = keeps_nothing layers packets cache none;
  shared = subst (λ (l : List (List ℕ)). AreFirst l packets) (sym empty) refl;
}

-- the remasked packet stays if neither the mask nor the packet changed
pub cached_stays : (layers : Option Layers) (packets : List (List ℕ)) (old new : FrameCache) → new.mask ≡ old.mask → new.packet ≡ old.packet
    → CachesFirst layers packets old → CachesFirst layers packets new
cached_stays None packets old new mask packet h = tt
cached_stays (Some l) [] old new mask packet h = tt
cached_stays (Some l) (b ∷ rest) old new mask packet h =
    subst (λ (m : Option ℕ). CarriesMask l.id l.table.structure b m new.packet) (sym mask)
    (subst (λ (p : List ℕ). CarriesMask l.id l.table.structure b old.mask p) (sym packet) h)

-- a packet of the frame was queued
pub frame_goes_on : (layers : Option Layers) (packets : List (List ℕ)) (old new : FrameCache) (place : ℕ) (packet : List ℕ) → IsOfFrame layers packets old
    → slice_get packets place ≡ Some packet → MayShare place packet old.shared.items new.shared.items → new.mask ≡ old.mask → new.packet ≡ old.packet
    → IsOfFrame layers packets new
frame_goes_on layers packets old new place packet h at shared mask same = record {
  cached = cached_stays layers packets old new mask same h.cached;
  shared = more_shared old.shared.items new.shared.items packets place packet h.shared at shared;
}
