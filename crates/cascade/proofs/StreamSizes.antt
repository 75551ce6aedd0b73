-- The length of a stream's packets, and the number of its ticks.
use Rattle.std.proofs.Common.{◌≡◌, ◌+◌, ◌*◌, ◌≤◌, ℕ, zero, suc, arith, Bool, true, false, cond, List, [], ◌∷◌, ◌++◌, length, length-append, map, refl, ap, Option, None, Some}
use Rattle.std.specs.Prelude.{flat_map}
use Rattle.std.specs.List.{enumerate_from}
use Rattle.std.specs.Option.{option_to_list}
use Rattle.std.proofs.lemmas.List.{length-map}
use Rattle.std.proofs.lemmas.List.FromFn.{length-enumerate_from}
use Rattle.stream_maker.specs.declared.counts.Counts.{Counts}
use Rattle.stream_maker.specs.declared.event.Event.{Event}
use Rattle.stream_maker.specs.declared.event.Event.TheVariants as event
use Rattle.stream_maker.specs.declared.place.Place.{Place}
use Rattle.stream_maker.specs.Bytes.{extension, header, long_extension, packet_bytes, payload, short_extension, starts_key_frame}
use Rattle.stream_maker.specs.Order.{ends_stream, tick_due}
use Rattle.stream_maker.specs.Packets.{is_key_unit, is_upper, numbers, packet_count, packets, parts_from, parts_of, placed}
use Rattle.stream_maker.specs.Stream.{Stream, counts_of, events, fate, turns, waiting}
use Rattle.stream_maker.specs.Turn.{Given, sent, sent_event, tick_event, turn}

-- ---- packets

header_short : (p : Place) → length (header p) ≤ 12
unfolding header
header_short p = omega arith

payload_short : (p : Place) → length (payload p) ≤ 201
unfolding payload
payload_short p = omega arith

long_short : (frame : ℕ) → length (long_extension frame) ≤ 32
unfolding long_extension
long_short frame = omega arith

short_short : (p : Place) → length (short_extension p) ≤ 32
unfolding short_extension
short_short p = omega arith

extension_short : (p : Place) → length (extension p) ≤ 32
unfolding extension
extension_short p = go (starts_key_frame p)
  where
    go : (b : Bool) → length (cond b (long_extension p.frame) (short_extension p)) ≤ 32
    go true = long_short p.frame
    go false = short_short p

pub made_short : (p : Place) → length (packet_bytes p) ≤ 245
unfolding packet_bytes
made_short p =
    let a = header_short p in
    let b = extension_short p in
    let c = payload_short p in
    omega (arith, a, b, c, length-append (header p) (extension p), length-append (header p ++ extension p) (payload p))

-- ---- the number of packets

count_small : (frame : ℕ) → packet_count frame ≤ 3
count_small frame = go (is_upper frame) (is_key_unit frame)
  where
    go : (a b : Bool) → cond a 2 (cond b 3 1) ≤ 3
    go true b = omega arith
    go false true = omega arith
    go false false = omega arith

length-numbers : (first count : ℕ) → length (numbers first count) ≡ count
length-numbers first zero = refl
length-numbers first (suc count) = ap suc (length-numbers (first + 1) count)

parts_few : (frame : ℕ) → length (parts_of frame) ≤ 3
unfolding parts_of
parts_few frame =
    let few = count_small frame in
    omega (arith, few, length-map (numbers 0 (packet_count frame)) (λ (part : ℕ). let x : ℕ × ℕ = (frame, part) in x), length-numbers 0 (packet_count frame))

all_parts_few : (frames : List ℕ) → length (flat_map parts_of frames) ≤ 3 * length frames
all_parts_few [] = omega arith
all_parts_few (frame ∷ frames) =
    let one = parts_few frame in
    let rest = all_parts_few frames in
    omega (arith, one, rest, length-append (parts_of frame) (flat_map parts_of frames))

packets_few : (frames : ℕ) → length (packets frames) ≤ 3 * frames
unfolding placed parts_from
packets_few frames =
    let parts = all_parts_few (numbers 0 frames) in
    omega (
      arith,
      parts,
      length-numbers 0 frames,
      length-map (enumerate_from 0 (flat_map parts_of (numbers 0 frames))) (λ (e : ℕ × (ℕ × ℕ)). let p : Place = record { sequence = e.0; frame = e.1.0; part = e.1.1 } in p),
      length-enumerate_from 0 (flat_map parts_of (numbers 0 frames)),
    )

-- ---- ticks

abbrev pub ticks_in : Event → ℕ
ticks_in (event.Packet moment) = 0
ticks_in (event.Tick moment) = 1
ticks_in event.End = 0

abbrev pub tick_count : List Given → ℕ
tick_count [] = 0
tick_count (g ∷ gs) = ticks_in g.event + tick_count gs

ticks-append : (xs ys : List Given) → tick_count (xs ++ ys) ≡ tick_count xs + tick_count ys
ticks-append [] ys = omega arith
ticks-append (x ∷ xs) ys = let rest = ticks-append xs ys in omega (arith, rest)

none_sent : (counts : Counts) (ps : List Place) → tick_count (map (sent_event counts) ps) ≡ 0
none_sent counts [] = refl
none_sent counts (p ∷ ps) = let rest = none_sent counts ps in omega (arith, rest)

one_tick : (counts : Counts) (o : Option ℕ) → tick_count (map (tick_event counts) (option_to_list o)) ≤ 1
one_tick counts None = omega arith
one_tick counts (Some moment) = omega arith

turns_few : (s : Stream) (before left : List Place) → tick_count (turns s before left) ≤ length left + 1
unfolding turns turn
turns_few s before [] = omega arith
turns_few s before (p ∷ left) =
    let counts : Counts = counts_of s (p ∷ before) in
    let places : List Place = sent (fate s p) (waiting s before) p ++ cond (ends_stream s.frames p) (option_to_list (waiting s (p ∷ before))) [] in
    let moments : List ℕ = option_to_list (tick_due s.frames p) in
    let rest = turns_few s (p ∷ before) left in
    let none = none_sent counts places in
    let one = one_tick counts (tick_due s.frames p) in
    let all = ticks-append (map (sent_event counts) places ++ map (tick_event counts) moments) (turns s (p ∷ before) left) in
    let these = ticks-append (map (sent_event counts) places) (map (tick_event counts) moments) in
    omega (arith, rest, none, one, all, these)

pub ticks_few : (s : Stream) → tick_count (events s) ≤ 3 * s.frames + 1
ticks_few s =
    let all = turns_few s [] (packets s.frames) in
    let few = packets_few s.frames in
    omega (arith, all, few)
