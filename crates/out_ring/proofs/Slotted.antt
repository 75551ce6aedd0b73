-- Packets slot by slot: shared ones, and copies.
use Rattle.std.proofs.Common.{◌≡◌, ◌<◌, ℕ, zero, suc, ◌+◌, ◌-◌, List, [], ◌∷◌, ◌++◌, length, drop, map, refl, sym, ap, ◌∙◌, arith, Option, Some, None, slice_get, length-append, length-drop}
use Rattle.std.specs.Prelude.{set}
use Rattle.std.proofs.lemmas.List.{drop-append-le, drop-drop, drop-map, map-append}
use Rattle.out_ring.specs.declared.heads.Head.{Head}
use Rattle.out_ring.specs.Ring.{Pushed}
use Rattle.out_ring.specs.Slots.{evict, packet_in, shared_at}

pub size_pushed : {X : Type 0} (xs : List X) (x : X) → length xs ≡ 1536 → length (drop 1 xs ++ x ∷ []) ≡ 1536
size_pushed xs x full = omega (arith, length-append (drop 1 xs) (x ∷ []), length-drop 1 xs, full)

-- the newest of a full ring, after one was appended and the oldest dropped
pub newest_pushed : {X : Type 0} (xs : List X) (x : X) (held : ℕ) → length xs ≡ 1536 → held < 1536
    → drop (1535 - held) (drop 1 xs ++ x ∷ []) ≡ drop (1536 - held) xs ++ x ∷ []
newest_pushed xs x held full few =
    drop-append-le (1535 - held) (drop 1 xs) (x ∷ []) (omega (arith, length-drop 1 xs, full))
    ∙ ap (λ l. l ++ x ∷ []) (drop-drop (1535 - held) 1 xs ∙ ap (λ k. drop k xs) (let e : 1 + (1535 - held) ≡ 1536 - held = omega (arith, few) in e))

-- the packets of the newest slots after a push
pub packets_pushed : (bytes new : List ℕ) (heads : List Head) (last : Head) (held : ℕ) → length heads ≡ 1536 → held < 1536
    → map (packet_in new) (drop (1536 - held) heads) ≡ map (packet_in bytes) (drop (1536 - held) heads)
    → drop (1535 - held) (map (packet_in new) (drop 1 heads ++ last ∷ [])) ≡ drop (1536 - held) (map (packet_in bytes) heads) ++ packet_in new last ∷ []
packets_pushed bytes new heads last held full few same =
    drop-map (packet_in new) (1535 - held) (drop 1 heads ++ last ∷ [])
    ∙ ap (map (packet_in new)) (newest_pushed heads last held full few)
    ∙ map-append (packet_in new) (drop (1536 - held) heads) (last ∷ [])
    ∙ ap (λ (l : List Pushed). l ++ packet_in new last ∷ []) (same ∙ sym (drop-map (packet_in bytes) (1536 - held) heads))

-- the packets of all slots after a push that writes no copy
pub all_pushed : (bytes : List ℕ) (heads : List Head) (last : Head)
    → map (packet_in bytes) (drop 1 heads ++ last ∷ []) ≡ drop 1 (map (packet_in bytes) heads) ++ packet_in bytes last ∷ []
all_pushed bytes heads last =
    map-append (packet_in bytes) (drop 1 heads) (last ∷ [])
    ∙ ap (λ (l : List Pushed). l ++ packet_in bytes last ∷ []) (sym (drop-map (packet_in bytes) 1 heads))

-- ---- a slot's shared packet is evicted

pub shared_there : (heads : List Head) (i : ℕ) (head : Head) → slice_get heads i ≡ Some head → shared_at heads i ≡ head.shared
shared_there [] i head e = absurd (cc e)
shared_there (h ∷ heads) zero head e = ap (λ (x : Head). x.shared) (let same : h ≡ head = cc e in same)
shared_there (h ∷ heads) (suc i) head e = shared_there heads i head e

pub evict_there : (heads : List Head) (i : ℕ) (head : Head) → slice_get heads i ≡ Some head
    → evict heads i ≡ set heads i (record { shared = None; location = head.location; marker = head.marker })
evict_there [] i head e = refl
evict_there (h ∷ heads) zero head e = ap (λ (x : Head). record { shared = None; location = x.location; marker = x.marker } ∷ heads) (let same : h ≡ head = cc e in same)
evict_there (h ∷ heads) (suc i) head e = ap (λ (hs : List Head). h ∷ hs) (evict_there heads i head e)

-- a head that shares nothing stays the same
pub evict_unshared : (heads : List Head) (i : ℕ) (head : Head) → slice_get heads i ≡ Some head → head.shared ≡ None → evict heads i ≡ heads
evict_unshared [] i head e none = refl
evict_unshared (h ∷ heads) zero head e none =
    ap (λ (shared : Option (List ℕ)). record { shared = shared; location = h.location; marker = h.marker } ∷ heads)
    (sym (ap (λ (x : Head). x.shared) (let same : h ≡ head = cc e in same) ∙ none))
evict_unshared (h ∷ heads) (suc i) head e none = ap (λ (hs : List Head). h ∷ hs) (evict_unshared heads i head e none)

pub size_evict : (heads : List Head) (i : ℕ) → length (evict heads i) ≡ length heads
size_evict [] i = refl
size_evict (h ∷ heads) zero = refl
size_evict (h ∷ heads) (suc i) = ap suc (size_evict heads i)

pub behind : (heads : List Head) (i from : ℕ) → i < from → drop from (evict heads i) ≡ drop from heads
behind heads i zero lt = absurd (omega (arith, lt))
behind [] i (suc from) lt = refl
behind (h ∷ heads) zero (suc from) lt = refl
behind (h ∷ heads) (suc i) (suc from) lt = behind heads i from (omega (arith, lt))

-- ---- the packet at a place

pub packet_there : (bytes : List ℕ) (heads : List Head) (i : ℕ) (head : Head) → slice_get heads i ≡ Some head
    → slice_get (map (packet_in bytes) heads) i ≡ Some (packet_in bytes head)
packet_there bytes [] i head e = absurd (cc e)
packet_there bytes (h ∷ heads) zero head e = ap (λ (x : Head). Some (packet_in bytes x)) (let same : h ≡ head = cc e in same)
packet_there bytes (h ∷ heads) (suc i) head e = packet_there bytes heads i head e
