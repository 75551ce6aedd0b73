-- The packets of a frame are queued one after another.
use Rattle.std.proofs.Common.{◌≡◌, ◌≤◌, ◌<◌, ℕ, zero, suc, ◌+◌, ◌-◌, Bool, true, false, ◌&&◌, ◌||◌, List, ◌∷◌, [], ◌++◌, length, map, take, drop, refl, sym, ap, ◌∙◌, arith, Option, None, Some, slice_get, subst, eqb}
use Rattle.std.proofs.lemmas.Bool.{ne_eqb}
use Rattle.std.proofs.lemmas.List.{length-drop, length-map, length-take, take_all}
use Rattle.std.proofs.lemmas.Option.{slice_get-map}
use Rattle.std.specs.Option.{option_map}
use Rattle.forwarding_model.specs.forwarding.Timeline.{Packet}
use Rattle.forwarding_model.specs.forwarding.Outgoing.{marked}
use Rattle.dd_structure.specs.TemplateStructure.{TemplateStructure}
use Rattle.packet_format.specs.Packets.{packet_of}
use Rattle.packet_format.specs.Remasked.{or_same, remasked, remasked_bytes, remasked_packet}
use Rattle.packet_format.specs.CarriedMask.{carries_mask}
use Rattle.packet_format.proofs.Remasked.{packets_remasked}
use Rattle.packet_format.proofs.RemaskedRests.{rests_remasked, rests_carry_mask}
use Rattle.rtp_packet.specs.Faults.{first_fault}
use Rattle.rtp_packet.proofs.Faultless.{header_there}
use Rattle.out_ring.specs.Ring.{Ring, pushed}
use Rattle.track_core.specs.declared.layers.Layers.{Layers}
use Rattle.track_core.specs.Track.{id_of, structure_in}
use Rattle.room_core.specs.Follows.{pushed_all, remasked_by, carries_mask_by}
use Rattle.room_core.specs.Sent.{remasked_first, carries_mask_first}
use Rattle.frame_cache.specs.Sharing.{CarriesMask}
use Rattle.room_core.specs.FrameCache.{CachesFirst}
use Rattle.frame_cache.specs.declared.cache.FrameCache.{FrameCache}
use Rattle.room_core.proofs.Rings.{length-pushed, pushed_both, pushed_is, pushed_more, pushed_none, take_next}
use Rattle.room_core.proofs.SentMarked.{length-marked, marked_at}

-- the packets in the form in which a frame's packets are queued, except for their numbers
abbrev pub to_queue : Bool → List (List ℕ) → List Packet
to_queue top packets = marked top (map packet_of packets)

length-to_queue : (top : Bool) (packets : List (List ℕ)) → length (to_queue top packets) ≡ length packets
length-to_queue top packets = length-marked top (map packet_of packets) ∙ length-map packets packet_of

queued_at : (top : Bool) (packets : List (List ℕ)) (i : ℕ) (bytes : List ℕ) → slice_get packets i ≡ Some bytes
    → slice_get (to_queue top packets) i ≡ Some (record (packet_of bytes) { marker = top && eqb (i + 1) (length packets) || (packet_of bytes).marker })
queued_at top packets i bytes at =
    marked_at top (map packet_of packets) i (packet_of bytes) (slice_get-map packet_of packets i ∙ ap (option_map packet_of) at)
    ∙ ap (λ (n : ℕ). Some (record (packet_of bytes) { marker = top && eqb (i + 1) n || (packet_of bytes).marker })) (length-map packets packet_of)

-- the packets from an index on
abbrev pub to_queue_from : ℕ → Bool → List (List ℕ) → List Packet
to_queue_from from top packets = drop from (to_queue top packets)

length-to_queue_from : (from : ℕ) (top : Bool) (packets : List (List ℕ)) → length (to_queue_from from top packets) ≡ length packets - from
length-to_queue_from from top packets = length-drop from (to_queue top packets) ∙ ap (λ (n : ℕ). n - from) (length-to_queue top packets)

behind : {X : Type 0} (n i j : ℕ) (xs : List X) → j ≡ n + i → slice_get (drop n xs) i ≡ slice_get xs j
behind zero i j xs e = ap (slice_get xs) (let same : i ≡ j = omega (arith, e) in same)
behind (suc n) i j [] e = refl
behind (suc n) i zero (x ∷ xs) e = absurd (omega (arith, e))
behind (suc n) i (suc j) (x ∷ xs) e = behind n i j xs (omega (arith, e))

queued_behind : (from : ℕ) (top : Bool) (packets : List (List ℕ)) (i : ℕ) (p : Packet) → from ≤ i → slice_get (to_queue top packets) i ≡ Some p
    → slice_get (to_queue_from from top packets) (i - from) ≡ Some p
queued_behind from top packets i p le at = behind from (i - from) i (to_queue top packets) (omega (arith, le)) ∙ at

-- no packet is queued yet
pub push_begins : (from : ℕ) (top : Bool) (packets : List (List ℕ)) (ring : Ring) → ring ≡ pushed_all (take (from - from) (to_queue_from from top packets)) ring
push_begins from top packets ring =
    let none : 0 ≡ from - from = omega arith in
    sym (pushed_none ring) ∙ ap (λ (n : ℕ). pushed_all (take n (to_queue_from from top packets)) ring) none

-- one more packet of the frame was queued
pub push_next : (bytes : List ℕ) (packets : List (List ℕ)) (top : Bool) (from i : ℕ) (ring ring' first : Ring) → 12 ≤ length bytes → from ≤ i
    → slice_get packets i ≡ Some bytes
    → ring ≡ pushed_all (take (i - from) (to_queue_from from top packets)) first
    → ring' ≡ pushed bytes (top && eqb (i + 1) (length packets) || (packet_of bytes).marker) ring
    → ring' ≡ pushed_all (take (i + 1 - from) (to_queue_from from top packets)) first
push_next bytes packets top from i ring ring' first long le at so_far now =
    let m : Bool = top && eqb (i + 1) (length packets) || (packet_of bytes).marker in
    let p : Packet = record (packet_of bytes) { marker = m } in
    let ps : List Packet = to_queue_from from top packets in
    let one : (i - from) + 1 ≡ i + 1 - from = omega (arith, le) in
    now ∙ pushed_is bytes m ring long ∙ ap (pushed_all (p ∷ [])) so_far ∙ sym (pushed_more (take (i - from) ps) p first)
    ∙ ap (λ (xs : List Packet). pushed_all xs first) (sym (take_next (i - from) ps p (queued_behind from top packets i p le (queued_at top packets i bytes at))))
    ∙ ap (λ (n : ℕ). pushed_all (take n ps) first) one

-- there is capacity for one more packet
pub push_capacity : (packets : List (List ℕ)) (top : Bool) (from i : ℕ) (ring first : Ring) → from ≤ i → i < length packets → length first.queued + length packets ≤ 512 + from
    → ring ≡ pushed_all (take (i - from) (to_queue_from from top packets)) first → length ring.queued < 512
push_capacity packets top from i ring first le lt capacity so_far =
    let size : length ring.queued ≡ length first.queued + length (take (i - from) (to_queue_from from top packets)) =
    ap (λ (r : Ring). length r.queued) so_far ∙ length-pushed (take (i - from) (to_queue_from from top packets)) first in
    let few : length (take (i - from) (to_queue_from from top packets)) ≤ i - from = omega (arith, length-take (i - from) (to_queue_from from top packets)) in
    omega arith

-- all packets are queued
pub push_ends : (packets : List (List ℕ)) (top : Bool) (from i : ℕ) (ring first : Ring) → length packets ≤ i
    → ring ≡ pushed_all (take (i - from) (to_queue_from from top packets)) first → ring ≡ pushed_all (to_queue_from from top packets) first
push_ends packets top from i ring first all so_far =
    so_far ∙ ap (λ (xs : List Packet). pushed_all xs first) (take_all (i - from) (to_queue_from from top packets) (omega (arith, length-to_queue_from from top packets, all)))

-- ---- the first packet separately

-- the first packet with its marker, and then the packets after it
first_apart : (id : ℕ) (force : Option TemplateStructure) (mask : ℕ) (top : Bool) (p : Packet) (ps : List Packet)
    → marked top (remasked_first id force mask (p ∷ ps))
    ≡ remasked_packet id force mask (record p { marker = top && eqb (length (p ∷ ps)) 1 || p.marker }) ∷ drop 1 (marked top (p ∷ ps))
first_apart id force mask true p [] = refl
first_apart id force mask false p [] = refl
first_apart id force mask top p (q ∷ ps) =
    ap (λ (m : Bool). remasked_packet id force mask (record p { marker = m }) ∷ marked top (q ∷ ps)) (sym (none top (eqb (length (p ∷ (q ∷ ps))) 1) (ne_eqb (length (p ∷ (q ∷ ps))) 1 (λ e. omega arith))))
  where
    none : (top last : Bool) → last ≡ false → (top && last || p.marker) ≡ p.marker
    none true last e = ap (λ (b : Bool). b || p.marker) e
    none false last e = refl

plain_apart : (top : Bool) (p : Packet) (ps : List Packet) → marked top (p ∷ ps) ≡ record p { marker = top && eqb (length (p ∷ ps)) 1 || p.marker } ∷ drop 1 (marked top (p ∷ ps))
plain_apart true p [] = refl
plain_apart false p [] = refl
plain_apart top p (q ∷ ps) =
    ap (λ (m : Bool). record p { marker = m } ∷ marked top (q ∷ ps)) (sym (none top (eqb (length (p ∷ (q ∷ ps))) 1) (ne_eqb (length (p ∷ (q ∷ ps))) 1 (λ e. omega arith))))
  where
    none : (top last : Bool) → last ≡ false → (top && last || p.marker) ≡ p.marker
    none true last e = ap (λ (b : Bool). b || p.marker) e
    none false last e = refl

-- one packet with its marker
abbrev pub first_of : Bool → ℕ → List ℕ → Packet
first_of top count bytes = record (packet_of bytes) { marker = top && eqb count 1 || (packet_of bytes).marker }

either_apart : (layers : Option Layers) (mask : ℕ) (top : Bool) (bytes : List ℕ) (rest : List (List ℕ))
    → marked top (remasked_by layers mask (map packet_of (bytes ∷ rest))) ≡ remasked_by layers mask (first_of top (length (bytes ∷ rest)) bytes ∷ []) ++ to_queue_from 1 top (bytes ∷ rest)
either_apart None mask top bytes rest =
    plain_apart top (packet_of bytes) (map packet_of rest)
    ∙ ap (λ (n : ℕ). record (packet_of bytes) { marker = top && eqb (suc n) 1 || (packet_of bytes).marker } ∷ to_queue_from 1 top (bytes ∷ rest)) (length-map rest packet_of)
either_apart (Some l) mask top bytes rest =
    first_apart l.id l.table.structure mask top (packet_of bytes) (map packet_of rest)
    ∙ ap (λ (n : ℕ). remasked_packet l.id l.table.structure mask (record (packet_of bytes) { marker = top && eqb (suc n) 1 || (packet_of bytes).marker }) ∷ to_queue_from 1 top (bytes ∷ rest)) (length-map rest packet_of)

-- the first packet is queued, and then the packets after it
pub push_first_ends : (layers : Option Layers) (mask : ℕ) (top : Bool) (packets : List (List ℕ)) (bytes : List ℕ) (first mid last : Ring) → slice_get packets 0 ≡ Some bytes
    → mid ≡ pushed_all (remasked_by layers mask (first_of top (length packets) bytes ∷ [])) first → last ≡ pushed_all (to_queue_from 1 top packets) mid
    → last ≡ pushed_all (marked top (remasked_by layers mask (map packet_of packets))) first
push_first_ends layers mask top [] bytes first mid last at one more = absurd cc
push_first_ends layers mask top (b ∷ rest) bytes first mid last at one more =
    let same : bytes ≡ b = cc in
    more ∙ ap (pushed_all (to_queue_from 1 top (b ∷ rest))) (one ∙ ap (λ (x : List ℕ). pushed_all (remasked_by layers mask (first_of top (length (b ∷ rest)) x ∷ [])) first) same)
    ∙ sym (pushed_both (remasked_by layers mask (first_of top (length (b ∷ rest)) b ∷ [])) (to_queue_from 1 top (b ∷ rest)) first)
    ∙ ap (λ (ps : List Packet). pushed_all ps first) (sym (either_apart layers mask top b rest))

-- without a packet nothing changes
pub push_first_none : (layers : Option Layers) (mask : ℕ) (top : Bool) (packets : List (List ℕ)) (ring : Ring) → length packets ≡ 0
    → ring ≡ pushed_all (marked top (remasked_by layers mask (map packet_of packets))) ring
push_first_none None mask top [] ring none = sym (pushed_none ring)
push_first_none (Some l) mask top [] ring none = sym (pushed_none ring)
push_first_none layers mask top (b ∷ rest) ring none = absurd (omega (arith, none))

-- ---- whether the first packet carries a mask or structure

pub first_carries_mask : (l : Layers) (packets : List (List ℕ)) (bytes : List ℕ) → slice_get packets 0 ≡ Some bytes → 12 ≤ length bytes → carries_mask l.id bytes ≡ carries_mask_first l.id (map packet_of packets)
first_carries_mask l [] bytes at long = absurd cc
first_carries_mask l (b ∷ rest) bytes at long = let same : bytes ≡ b = cc in sym (rests_carry_mask l.id bytes long) ∙ ap (λ (x : List ℕ). carries_mask l.id (packet_of x).rest) same

pub carries_mask_said : (layers : Option Layers) (id : ℕ) (packets : List (List ℕ)) (bytes : List ℕ) → Some id ≡ option_map id_of layers → slice_get packets 0 ≡ Some bytes → 12 ≤ length bytes
    → carries_mask id bytes ≡ carries_mask_by layers packets
carries_mask_said None id packets bytes is at long = absurd cc
carries_mask_said (Some l) id packets bytes is at long = let same : id ≡ l.id = cc in ap (λ (n : ℕ). carries_mask n bytes) same ∙ first_carries_mask l packets bytes at long

-- ---- a packet with a mask, if it can be remasked

pub remasking_reads : (id mask : ℕ) (force : Option TemplateStructure) (bytes : List ℕ) → first_fault bytes ≡ None → first_fault (remasked_bytes id force mask bytes) ≡ None
remasking_reads id mask force bytes reads = by (remasked id force mask bytes) refl
  where
    by : (o : Option (List ℕ)) → remasked id force mask bytes ≡ o → first_fault (or_same o bytes) ≡ None
    by None is = reads
    by (Some new) is = (packets_remasked id mask force bytes new is).reads reads

pub remasking_fits : (id mask : ℕ) (force : Option TemplateStructure) (bytes : List ℕ) → length bytes ≤ 1500 → length (remasked_bytes id force mask bytes) ≤ 1536
remasking_fits id mask force bytes fits = by (remasked id force mask bytes) refl
  where
    by : (o : Option (List ℕ)) → remasked id force mask bytes ≡ o → length (or_same o bytes) ≤ 1536
    by None is = omega (arith, fits)
    by (Some new) is = (packets_remasked id mask force bytes new is).few

pub remasking_pushed : (id mask : ℕ) (force : Option TemplateStructure) (bytes : List ℕ) (marker : Bool) (ring ring' : Ring) → first_fault bytes ≡ None
    → ring' ≡ pushed (remasked_bytes id force mask bytes) marker ring
    → ring' ≡ pushed_all (remasked_packet id force mask (record (packet_of bytes) { marker = marker }) ∷ []) ring
remasking_pushed id mask force bytes marker ring ring' reads now =
    now ∙ pushed_is (remasked_bytes id force mask bytes) marker ring (header_there (remasked_bytes id force mask bytes) (remasking_reads id mask force bytes reads))
    ∙ ap (λ (p : Packet). pushed_all (record p { marker = marker } ∷ []) ring) (rests_remasked id mask force bytes (header_there bytes reads))

-- ---- what is stored of the current frame

pub keeps_nothing : (layers : Option Layers) (packets : List (List ℕ)) (cached : FrameCache) → cached.mask ≡ None → CachesFirst layers packets cached
keeps_nothing None packets cached none = tt
keeps_nothing (Some l) [] cached none = tt
keeps_nothing (Some l) (b ∷ rest) cached none = subst (λ (m : Option ℕ). CarriesMask l.id l.table.structure b m cached.packet) (sym none) tt

pub keeps_one : (layers : Option Layers) (packets : List (List ℕ)) (bytes : List ℕ) (cached : FrameCache) → slice_get packets 0 ≡ Some bytes
    → CachesFirst layers packets cached → CachesFirst layers (bytes ∷ []) cached
keeps_one None packets bytes cached at kept = tt
keeps_one (Some l) [] bytes cached at kept = absurd cc
keeps_one (Some l) (b ∷ rest) bytes cached at kept = let same : b ≡ bytes = cc in subst (λ (x : List ℕ). CarriesMask l.id l.table.structure x cached.mask cached.packet) same kept

pub keeps_first : (layers : Option Layers) (packets : List (List ℕ)) (bytes : List ℕ) (cached : FrameCache) → slice_get packets 0 ≡ Some bytes
    → CachesFirst layers (bytes ∷ []) cached → CachesFirst layers packets cached
keeps_first None packets bytes cached at kept = tt
keeps_first (Some l) [] bytes cached at kept = tt
keeps_first (Some l) (b ∷ rest) bytes cached at kept = let same : bytes ≡ b = cc in subst (λ (x : List ℕ). CarriesMask l.id l.table.structure x cached.mask cached.packet) same kept

-- by the id and the structure in force
pub keeps_by : (layers : Option Layers) (id : ℕ) (force : Option TemplateStructure) (bytes : List ℕ) (cached : FrameCache) → Some id ≡ option_map id_of layers → force ≡ structure_in layers
    → CachesFirst layers (bytes ∷ []) cached → CarriesMask id force bytes cached.mask cached.packet
keeps_by None id force bytes cached is force_is kept = absurd cc
keeps_by (Some l) id force bytes cached is force_is kept =
    let same : id ≡ l.id = cc in
    subst (λ (f : Option TemplateStructure). CarriesMask id f bytes cached.mask cached.packet) (sym force_is)
    (subst (λ (n : ℕ). CarriesMask n l.table.structure bytes cached.mask cached.packet) (sym same) kept)

pub keeps_on : (layers : Option Layers) (id : ℕ) (force : Option TemplateStructure) (bytes : List ℕ) (cached : FrameCache) → Some id ≡ option_map id_of layers → force ≡ structure_in layers
    → CarriesMask id force bytes cached.mask cached.packet → CachesFirst layers (bytes ∷ []) cached
keeps_on None id force bytes cached is force_is kept = tt
keeps_on (Some l) id force bytes cached is force_is kept =
    let same : id ≡ l.id = cc in
    subst (λ (n : ℕ). CarriesMask n l.table.structure bytes cached.mask cached.packet) same
    (subst (λ (f : Option TemplateStructure). CarriesMask id f bytes cached.mask cached.packet) force_is kept)

-- on a plain track it is unchanged
pub none_remasked : (layers : Option Layers) (mask : ℕ) (ps : List Packet) → None ≡ option_map id_of layers → remasked_by layers mask ps ≡ ps
none_remasked None mask ps is = refl
none_remasked (Some l) mask ps is = absurd (let none : None ≡ Some l.id = is in cc)
