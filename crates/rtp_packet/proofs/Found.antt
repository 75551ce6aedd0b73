-- Bytes with no fault are a packet: the pieces that the fields determine, concatenated, are the bytes again.
use Rattle.std.proofs.Common.{◌≡◌, ◌<◌, ◌≤◌, ℕ, ◌+◌, ◌-◌, ◌*◌, ◌/◌, ◌%◌, ◌^◌, ◌==◌, ◌||◌, nat_lt, Bool, true, false, cond, List, [], ◌∷◌, ◌++◌, length, get_or, take, drop, slice_index, Option, Some, None, is_some, IfSome, IfNone, lit<, refl, sym, ap, ◌∙◌, arith, append_assoc, append-nil, length-drop}
use Rattle.std.proofs.lemmas.Bool.{ltb-false, eqb-false}
use Rattle.std.proofs.lemmas.Bool.Decides.{nat_tests}
use Rattle.std.proofs.lemmas.List.{drop-drop, take-append-drop, drop_more, drop_all, get_or-drop, length-take-le}
use Rattle.byteorder.specs.Endian.{big_bytes, big_number}
use Rattle.byteorder.specs.Numbers.{big_from-lt}
use Rattle.rtp_packet.specs.Fields.{version_of, is_extended, is_padded, csrc_count, marker_of, payload_type_of, sequence_of, timestamp_of, ssrc_of, behind_csrcs, behind_header, block_words, last_byte, profile_in, block_in, behind_extension, payload_in}
use Rattle.rtp_packet.specs.Faults.{first_fault, lacks_extension, has_bad_padding}
use Rattle.sfu_base.specs.Bytes.{AreBytes}
use Rattle.rtp_packet.specs.Packet.{IsPacket, Fits, first_byte, second_byte, extension_bytes, padding_bytes, packet_of}
use Rattle.rtp_packet.proofs.Faultless.{has_none}

drop_bytes : (n : ℕ) (xs : List ℕ) → AreBytes xs → AreBytes (drop n xs)
drop_bytes n xs fits i = rw (get_or-drop n xs i 0) (fits (n + i))

first_byte_of : (b : ℕ) → b < 256 → b / 64 ≡ 2 → first_byte (b / 32 % 2 == 1) (b / 16 % 2 == 1) (b % 16) ≡ b
first_byte_of b lt version = grind (arith, nat_tests)

second_byte_of : (b : ℕ) → b < 256 → second_byte (b / 128 == 1) (b % 128) ≡ b
second_byte_of b lt = grind (arith, nat_tests)

-- the twelve bytes of the fixed header
abbrev fixed_header : List ℕ → List ℕ
fixed_header bytes =
    (first_byte (is_padded bytes) (is_extended bytes) (csrc_count bytes) ∷ second_byte (marker_of bytes) (payload_type_of bytes) ∷ [])
    ++ big_bytes 2 (sequence_of bytes) ++ big_bytes 4 (timestamp_of bytes) ++ big_bytes 4 (ssrc_of bytes)

header_laid : (bytes : List ℕ) → AreBytes bytes → 12 ≤ length bytes → version_of bytes ≡ 2 → bytes ≡ fixed_header bytes ++ drop 12 bytes
header_laid (a ∷ b ∷ c ∷ d ∷ e ∷ f ∷ g ∷ h ∷ i ∷ j ∷ k ∷ l ∷ rest) fits long version =
    let bytes : List ℕ = a ∷ b ∷ c ∷ d ∷ e ∷ f ∷ g ∷ h ∷ i ∷ j ∷ k ∷ l ∷ rest in
    let first = first_byte_of a (fits 0) version in
    let second = second_byte_of b (fits 1) in
    let s = sequence_of bytes in
    let t = timestamp_of bytes in
    let u = ssrc_of bytes in
    let s0 : s / 256 % 256 ≡ c = omega (arith, fits 2, fits 3) in
    let s1 : s % 256 ≡ d = omega (arith, fits 2, fits 3) in
    let t0 : t / 16777216 % 256 ≡ e = omega (arith, fits 4, fits 5, fits 6, fits 7) in
    let t1 : t / 65536 % 256 ≡ f = omega (arith, fits 4, fits 5, fits 6, fits 7) in
    let t2 : t / 256 % 256 ≡ g = omega (arith, fits 4, fits 5, fits 6, fits 7) in
    let t3 : t % 256 ≡ h = omega (arith, fits 4, fits 5, fits 6, fits 7) in
    let u0 : u / 16777216 % 256 ≡ i = omega (arith, fits 8, fits 9, fits 10, fits 11) in
    let u1 : u / 65536 % 256 ≡ j = omega (arith, fits 8, fits 9, fits 10, fits 11) in
    let u2 : u / 256 % 256 ≡ k = omega (arith, fits 8, fits 9, fits 10, fits 11) in
    let u3 : u % 256 ≡ l = omega (arith, fits 8, fits 9, fits 10, fits 11) in
    cc
header_laid bytes fits long version = absurd (omega arith)

-- how many words the extension has, if there is one
abbrev words_in : Bool → List ℕ → ℕ
words_in extended rest = cond extended (block_words rest) 0

extension_laid : (extended : Bool) (rest : List ℕ) → AreBytes rest → lacks_extension extended rest ≡ false
    → rest ≡ extension_bytes (profile_in extended rest) (words_in extended rest) (block_in extended rest) ++ behind_extension extended rest
extension_laid false rest fits there = refl
extension_laid true (a ∷ b ∷ c ∷ d ∷ rest) fits there =
    let all : List ℕ = a ∷ b ∷ c ∷ d ∷ rest in
    let n = 4 * block_words all in
    let p = big_number 2 all in
    let w = block_words all in
    let p0 : p / 256 % 256 ≡ a = omega (arith, fits 0, fits 1) in
    let p1 : p % 256 ≡ b = omega (arith, fits 0, fits 1) in
    let w0 : w / 256 % 256 ≡ c = omega (arith, fits 2, fits 3) in
    let w1 : w % 256 ≡ d = omega (arith, fits 2, fits 3) in
    let behind : drop (4 + n) all ≡ drop n rest = sym (drop-drop n 4 all) in
    let whole : take n rest ++ drop (4 + n) all ≡ rest = ap (λ (x : List ℕ). take n rest ++ x) behind ∙ take-append-drop n rest in
    cc
extension_laid true rest fits there = absurd (omega (arith, ltb-false (length rest) (4 + 4 * block_words rest) there))

-- the block is whole words, and each of its numbers fits
whole_words : (extended : Bool) (rest : List ℕ) → lacks_extension extended rest ≡ false → length (block_in extended rest) ≡ 4 * words_in extended rest
whole_words false rest there = refl
whole_words true rest there =
    length-take-le (4 * block_words rest) (drop 4 rest)
    (omega (arith, length-drop 4 rest, ltb-false (length rest) (4 + 4 * block_words rest) there))

few_words_in : (extended : Bool) (rest : List ℕ) → AreBytes rest → words_in extended rest < 2 ^ 16
few_words_in false rest fits = lit< tt
few_words_in true rest fits = big_from-lt 0 2 (drop 2 rest) (drop_bytes 2 rest fits)

profile_fits : (extended : Bool) (rest : List ℕ) → AreBytes rest → IfSome (profile_in extended rest) (λ n. n < 2 ^ 16)
profile_fits false rest fits = tt
profile_fits true rest fits = big_from-lt 0 2 rest fits

no_block_in : (extended : Bool) (rest : List ℕ) → IfNone (profile_in extended rest) (block_in extended rest ≡ [])
no_block_in false rest = refl
no_block_in true rest = tt

behind_bytes : (extended : Bool) (rest : List ℕ) → AreBytes rest → AreBytes (behind_extension extended rest)
behind_bytes false rest fits = fits
behind_bytes true rest fits = drop_bytes (4 + 4 * block_words rest) rest fits

-- the bytes before the padding count
abbrev filler_in : Bool → List ℕ → Option (List ℕ)
filler_in padded rest = cond padded (Some (take (last_byte rest - 1) (drop (length rest - last_byte rest) rest))) None

neither : (x y : Bool) → (x || y) ≡ false → (x ≡ false) × (y ≡ false)
neither false y h = (refl, h)
neither true y h = cc

-- a list that ends in its own length is the concatenation of a prefix and that length
ends_in_length : (tail : List ℕ) (c : ℕ) → length tail ≡ c → 0 < c → get_or tail (c - 1) 0 ≡ c
    → tail ≡ take (c - 1) tail ++ (length (take (c - 1) tail) + 1) ∷ []
ends_in_length tail c len some last =
    let front : length (take (c - 1) tail) + 1 ≡ c = omega (arith, length-take-le (c - 1) tail (omega arith)) in
    let end : drop (c - 1) tail ≡ c ∷ [] =
    drop_more tail (c - 1) 0 (omega arith)
    ∙ ap (λ (x : ℕ). x ∷ drop (c - 1 + 1) tail) last
    ∙ ap (λ (x : List ℕ). c ∷ x) (drop_all (c - 1 + 1) tail (omega arith)) in
    sym (take-append-drop (c - 1) tail) ∙ ap (λ (x : List ℕ). take (c - 1) tail ++ x) (end ∙ ap (λ (x : ℕ). x ∷ []) (sym front))

padding_laid : (padded : Bool) (rest : List ℕ) → has_bad_padding padded rest ≡ false → rest ≡ payload_in padded rest ++ padding_bytes (filler_in padded rest)
padding_laid false rest good = sym (append-nil rest)
padding_laid true rest good =
    let c = last_byte rest in
    let n = length rest in
    let tests = neither (c == 0) (nat_lt n c) good in
    let some : 0 < c = omega (arith, eqb-false c 0 tests.0) in
    let within : c ≤ n = ltb-false n c tests.1 in
    let tail = drop (n - c) rest in
    let len : length tail ≡ c = omega (arith, length-drop (n - c) rest) in
    let last : get_or tail (c - 1) 0 ≡ c = get_or-drop (n - c) rest (c - 1) 0 ∙ ap (λ (x : ℕ). slice_index rest x) (omega arith) in
    sym (take-append-drop (n - c) rest) ∙ ap (λ (x : List ℕ). take (n - c) rest ++ x) (ends_in_length tail c len some last)

short_filler_in : (padded : Bool) (rest : List ℕ) → AreBytes rest → has_bad_padding padded rest ≡ false → IfSome (filler_in padded rest) (λ xs. length xs < 255)
short_filler_in false rest fits good = tt
short_filler_in true rest fits good =
    let c = last_byte rest in
    let n = length rest in
    let tests = neither (c == 0) (nat_lt n c) good in
    let some : 0 < c = omega (arith, eqb-false c 0 tests.0) in
    let within : c ≤ n = ltb-false n c tests.1 in
    omega (arith, fits (n - 1), length-take-le (c - 1) (drop (n - c) rest) (omega (arith, length-drop (n - c) rest)))

joined : (h bytes cs e p q rest behind tail : List ℕ) → bytes ≡ h ++ rest → rest ≡ cs ++ behind → behind ≡ e ++ tail → tail ≡ p ++ q
    → bytes ≡ h ++ cs ++ e ++ p ++ q
joined h bytes cs e p q rest behind tail at_rest at_behind at_tail at_end =
    at_rest ∙ ap (λ (x : List ℕ). h ++ x) (at_behind ∙ ap (λ (x : List ℕ). cs ++ x) (at_tail ∙ ap (λ (x : List ℕ). e ++ x) at_end)) ∙ simp append_assoc

some_profile : (extended : Bool) (rest : List ℕ) → is_some (profile_in extended rest) ≡ extended
some_profile true rest = refl
some_profile false rest = refl

some_filler : (padded : Bool) (rest : List ℕ) → is_some (filler_in padded rest) ≡ padded
some_filler true rest = refl
some_filler false rest = refl

all_fits : (bytes : List ℕ) → AreBytes bytes → Fits (packet_of bytes)
all_fits bytes fits =
    let behind = drop_bytes (12 + 4 * csrc_count bytes) bytes fits in
    record {
      payload_type = omega arith;
      sequence = big_from-lt 0 2 (drop 2 bytes) (drop_bytes 2 bytes fits);
      timestamp = big_from-lt 0 4 (drop 4 bytes) (drop_bytes 4 bytes fits);
      ssrc = big_from-lt 0 4 (drop 8 bytes) (drop_bytes 8 bytes fits);
      profile = profile_fits (is_extended bytes) (behind_csrcs bytes) behind;
      no_block = no_block_in (is_extended bytes) (behind_csrcs bytes);
    }

pub packet_found : (bytes : List ℕ) → AreBytes bytes → first_fault bytes ≡ None → IsPacket bytes (packet_of bytes)
packet_found bytes fits none =
    let clean = has_none bytes none in
    let extended = is_extended bytes in
    let padded = is_padded bytes in
    let behind = behind_csrcs bytes in
    let rest = behind_header bytes in
    let words = 4 * csrc_count bytes in
    let behind_fits = drop_bytes (12 + words) bytes fits in
    let csrcs_laid : drop 12 bytes ≡ take words (drop 12 bytes) ++ behind =
    sym (take-append-drop words (drop 12 bytes)) ∙ ap (λ (x : List ℕ). take words (drop 12 bytes) ++ x) (drop-drop words 12 bytes) in
    let laid = joined (fixed_header bytes) bytes (take words (drop 12 bytes))
    (extension_bytes (profile_in extended behind) (words_in extended behind) (block_in extended behind))
    (payload_in padded rest) (padding_bytes (filler_in padded rest)) (drop 12 bytes) behind rest
    (header_laid bytes fits clean.header clean.version) csrcs_laid
    (extension_laid extended behind behind_fits clean.extension) (padding_laid padded rest clean.padding) in
    record {
      csrc_words = csrc_count bytes;
      csrcs = take words (drop 12 bytes);
      block_words = words_in extended behind;
      filler = filler_in padded rest;
      laid = rw (some_filler padded rest, some_profile extended behind) laid;
      fits = all_fits bytes fits;
      few_csrcs = omega arith;
      whole_csrcs = length-take-le words (drop 12 bytes) (omega (arith, clean.csrcs, length-drop 12 bytes));
      few_words = few_words_in extended behind behind_fits;
      whole_block = whole_words extended behind clean.extension;
      short_filler = short_filler_in padded rest (behind_bytes extended behind behind_fits) clean.padding;
    }
