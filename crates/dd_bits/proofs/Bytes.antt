-- Bytes and their bits.
use Rattle.std.proofs.Common.{◌≡◌, ℕ, ◌+◌, ◌-◌, ◌*◌, ◌/◌, ◌%◌, ◌^◌, ◌<◌, ◌≤◌, List, [], ◌∷◌, ◌++◌, length, get_or, set, take, drop, replicate, Bool, false, refl, sym, ap, ◌∙◌, append_assoc, arith}
use Rattle.std.proofs.lemmas.List.{length-append, length-drop, length-take, append-nil, take_more_set, take-set, take_more, drop-append-le, take-append-le, drop-drop, drop_at}
use Rattle.std.proofs.lemmas.Nat.{field_of}
use Rattle.std.proofs.Math.Pow.{mod-mod-pow}
use Rattle.dd_bits.specs.Bits.{value, bits_of, bits_of_bytes}
use Rattle.dd_bits.specs.Reader.{bits_left}
use Rattle.dd_bits.specs.Writer.{capacity, written}
use Rattle.dd_bits.specs.declared.reader.BitReader.{BitReader}
use Rattle.dd_bits.specs.declared.writer.BitWriter.{BitWriter}
use Rattle.dd_bits.proofs.Values.{length-bits_of, value-bits_of, value-take, value-drop, bits_of-join, bits_of-split, bits_of-mod, bits_of-shifted}

pub length-bits_of_bytes : (bytes : List ℕ) → length (bits_of_bytes bytes) ≡ 8 * length bytes
unfolding bits_of_bytes
length-bits_of_bytes [] = refl
length-bits_of_bytes (b ∷ bs) = omega (arith, length-append (bits_of 8 b) (bits_of_bytes bs), length-bits_of 8 b, length-bits_of_bytes bs)

pub bits_of_bytes-append : (xs ys : List ℕ) → bits_of_bytes (xs ++ ys) ≡ bits_of_bytes xs ++ bits_of_bytes ys
unfolding bits_of_bytes
bits_of_bytes-append [] ys = refl
bits_of_bytes-append (x ∷ xs) ys = ap (λ (t : List Bool). bits_of 8 x ++ t) (bits_of_bytes-append xs ys) ∙ sym (append_assoc (bits_of 8 x) (bits_of_bytes xs) (bits_of_bytes ys))

bits_of_bytes-one : (b : ℕ) → bits_of_bytes (b ∷ []) ≡ bits_of 8 b
unfolding bits_of_bytes
bits_of_bytes-one b = append-nil (bits_of 8 b)

-- ---- the remaining bits of a reader

pub length-bits_left : (r : BitReader) → length (bits_left r) ≡ 8 * length r.rest.now - r.used
unfolding bits_left
length-bits_left r = omega (arith, length-drop r.used (bits_of_bytes r.rest.now), length-bits_of_bytes r.rest.now)

-- the number in bits that are all in one byte
pub value_in_byte : (used count : ℕ) (bytes : List ℕ) → used + count ≤ 8 → 1 ≤ length bytes → value (take count (drop used (bits_of_bytes bytes))) ≡ get_or bytes 0 0 / 2 ^ (8 - used - count) % 2 ^ count
unfolding bits_of_bytes
value_in_byte used count [] fits some = absurd (omega arith)
value_in_byte used count (b ∷ bs) fits some =
    let eight = length-bits_of 8 b in
    let len : length (drop used (bits_of 8 b)) ≡ 8 - used = omega (arith, length-drop used (bits_of 8 b)) in
    let all : used + (8 - used) ≡ 8 = omega arith in
    let behind : count + (8 - used - count) ≡ 8 - used = omega arith in
    let unread : value (drop used (bits_of 8 b)) ≡ b % 2 ^ (8 - used) =
    value-drop used (bits_of 8 b) (omega arith) ∙ rw (eight, value-bits_of 8 b) (rw all at (mod-mod-pow b used (8 - used))) in
    ap value (ap (take count) (drop-append-le used (bits_of 8 b) (bits_of_bytes bs) (omega arith)) ∙ take-append-le count (drop used (bits_of 8 b)) (bits_of_bytes bs) (omega arith))
    ∙ value-take count (drop used (bits_of 8 b)) (omega arith) ∙ rw (len, unread) (rw behind at (field_of b count (8 - used - count)))

-- the bits after the first byte
pub drop_byte : (used count : ℕ) (bytes : List ℕ) → used + count ≡ 8 → 1 ≤ length bytes → drop count (drop used (bits_of_bytes bytes)) ≡ bits_of_bytes (drop 1 bytes)
unfolding bits_of_bytes
drop_byte used count [] all some = absurd (omega arith)
drop_byte used count (b ∷ bs) all some =
    drop-drop count used (bits_of 8 b ++ bits_of_bytes bs) ∙ rw all (drop_at (bits_of 8 b) (bits_of_bytes bs) 8 (length-bits_of 8 b))

-- ---- the written bits

pub length-written : (w : BitWriter) → length (written w) ≡ 8 * w.len + w.used
unfolding written
length-written w = omega (arith, w.whole, w.within, length-append (bits_of_bytes (take w.len w.bytes)) (bits_of w.used w.pending), length-bits_of_bytes (take w.len w.bytes), length-bits_of w.used w.pending, length-take w.len w.bytes)

-- no writer has more bits than its capacity
pub written_within : (w : BitWriter) → length (written w) ≤ capacity
written_within w = omega (arith, length-written w, w.within)

whole_byte : (used count p x y : ℕ) → x < 2 ^ count → used + count ≡ 8 → y ≡ p * 2 ^ count + x → bits_of 8 y ≡ bits_of used p ++ bits_of count x
whole_byte used count p x y small eight is = rw is (rw eight at (bits_of-join used count p x small))

-- a byte becomes full
pub put_whole : (bytes : List ℕ) (len used count p x y : ℕ) → len < length bytes → x < 2 ^ count → used + count ≡ 8 → y ≡ p * 2 ^ count + x
    → bits_of_bytes (take (len + 1) (set bytes len y)) ++ bits_of 0 0 ≡ (bits_of_bytes (take len bytes) ++ bits_of used p) ++ bits_of count x
unfolding bits_of
put_whole bytes len used count p x y lt small eight is =
    append-nil _ ∙ ap bits_of_bytes (take_more_set bytes len y lt) ∙ bits_of_bytes-append (take len bytes) (y ∷ [])
    ∙ ap (λ (t : List Bool). bits_of_bytes (take len bytes) ++ t) (bits_of_bytes-one y ∙ whole_byte used count p x y small eight is) ∙ sym (append_assoc (bits_of_bytes (take len bytes)) (bits_of used p) (bits_of count x))

-- more bits in a byte that doesn't become full
pub put_part : (bytes : List ℕ) (len used count p x y : ℕ) → x < 2 ^ count
    → bits_of_bytes (take len (set bytes len y)) ++ bits_of (used + count) (p * 2 ^ count + x) ≡ (bits_of_bytes (take len bytes) ++ bits_of used p) ++ bits_of count x
put_part bytes len used count p x y small =
    rw (take-set bytes len y, bits_of-join used count p x small) (sym (append_assoc (bits_of_bytes (take len bytes)) (bits_of used p) (bits_of count x)))

-- the bits of the bytes that a writer returns
pub shown_full : (bytes : List ℕ) (len p : ℕ) → bits_of_bytes (take len bytes) ≡ (bits_of_bytes (take len bytes) ++ bits_of 0 p) ++ replicate 0 false
unfolding bits_of
shown_full bytes len p = sym (append-nil _ ∙ append-nil _)

pub shown_part : (bytes : List ℕ) (len used p : ℕ) → len < length bytes → used < 8 → get_or bytes len 0 ≡ p * 2 ^ (8 - used)
    → bits_of_bytes (take (len + 1) bytes) ≡ (bits_of_bytes (take len bytes) ++ bits_of used p) ++ replicate (8 - used) false
shown_part bytes len used p lt in_byte shown =
    let eight : used + (8 - used) ≡ 8 = omega arith in
    let last : bits_of 8 (p * 2 ^ (8 - used)) ≡ bits_of used p ++ replicate (8 - used) false = rw eight at (bits_of-shifted used (8 - used) p) in
    ap bits_of_bytes (take_more bytes len 0 lt) ∙ rw shown (bits_of_bytes-append (take len bytes) (p * 2 ^ (8 - used) ∷ []))
    ∙ ap (λ (t : List Bool). bits_of_bytes (take len bytes) ++ t) (bits_of_bytes-one (p * 2 ^ (8 - used)) ∙ last) ∙ sym (append_assoc (bits_of_bytes (take len bytes)) (bits_of used p) (replicate (8 - used) false))

-- the next digits of a number that is written
pub put_more : (missing count v x : ℕ) (old new total : List Bool) → count ≤ missing → x ≡ v / 2 ^ (missing - count) % 2 ^ count → new ≡ old ++ bits_of count x → old ++ bits_of missing v ≡ total → new ++ bits_of (missing - count) v ≡ total
put_more missing count v x old new total le is e so_far =
    let all : count + (missing - count) ≡ missing = omega arith in
    let split : bits_of missing v ≡ bits_of count (v / 2 ^ (missing - count)) ++ bits_of (missing - count) v = rw all at (bits_of-split count (missing - count) v) in
    rw (e, is, bits_of-mod count (v / 2 ^ (missing - count))) (append_assoc old (bits_of count (v / 2 ^ (missing - count))) (bits_of (missing - count) v) ∙ ap (λ (t : List Bool). old ++ t) (sym split) ∙ so_far)

pub put_all : (missing v : ℕ) (now : List Bool) → missing ≡ 0 → now ++ bits_of missing v ≡ now
unfolding bits_of
put_all missing v now none = rw none (append-nil now)
