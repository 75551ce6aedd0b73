-- The bytes of a composed packet have no fault, and the fields that are read from them are the packet's.
use Rattle.std.proofs.Common.{◌≡◌, ◌<◌, ℕ, ◌+◌, ◌-◌, ◌*◌, ◌/◌, ◌%◌, ◌^◌, ◌==◌, ◌||◌, nat_lt, Bool, true, false, List, [], ◌∷◌, ◌++◌, length, take, drop, slice_index, Option, Some, None, is_some, IfSome, IfNone, refl, sym, ap, ◌∙◌, arith, append_assoc, append-nil, length-append}
use Rattle.std.proofs.lemmas.Bool.{le-ltb, ne_eqb}
use Rattle.std.proofs.lemmas.Bool.Decides.{nat_tests}
use Rattle.std.proofs.lemmas.List.{drop-drop, drop_at, take_at, get_or_at}
use Rattle.sfu_base.specs.declared.call.RtpFault.{RtpFault}
use Rattle.byteorder.specs.Endian.{big_bytes, big_number}
use Rattle.rtp_packet.specs.Fields.{is_extended, is_padded, csrc_count, sequence_of, timestamp_of, ssrc_of, behind_csrcs, behind_header, block_words, last_byte, profile_in, block_in, behind_extension, payload_in}
use Rattle.rtp_packet.specs.Faults.{first_fault, lacks_extension, has_bad_padding}
use Rattle.rtp_packet.specs.Packet.{Packet, IsPacket, first_byte, second_byte, extension_bytes, padding_bytes, packet_of}
use Rattle.rtp_packet.proofs.Faultless.{HasNoFault, none_found}

-- the fields of the first two bytes
version_back : (p x : Bool) (n : ℕ) → n < 16 → first_byte p x n / 64 ≡ 2
version_back true true n h = omega arith
version_back true false n h = omega arith
version_back false true n h = omega arith
version_back false false n h = omega arith

padded_back : (p x : Bool) (n : ℕ) → n < 16 → (first_byte p x n / 32 % 2 == 1) ≡ p
padded_back true true n h = grind (arith, nat_tests)
padded_back true false n h = grind (arith, nat_tests)
padded_back false true n h = grind (arith, nat_tests)
padded_back false false n h = grind (arith, nat_tests)

extended_back : (p x : Bool) (n : ℕ) → n < 16 → (first_byte p x n / 16 % 2 == 1) ≡ x
extended_back true true n h = grind (arith, nat_tests)
extended_back true false n h = grind (arith, nat_tests)
extended_back false true n h = grind (arith, nat_tests)
extended_back false false n h = grind (arith, nat_tests)

count_back : (p x : Bool) (n : ℕ) → n < 16 → first_byte p x n % 16 ≡ n
count_back true true n h = omega arith
count_back true false n h = omega arith
count_back false true n h = omega arith
count_back false false n h = omega arith

pub marker_back : (m : Bool) (n : ℕ) → n < 128 → (second_byte m n / 128 == 1) ≡ m
marker_back true n h = grind (arith, nat_tests)
marker_back false n h = grind (arith, nat_tests)

pub type_back : (m : Bool) (n : ℕ) → n < 128 → second_byte m n % 128 ≡ n
type_back true n h = omega arith
type_back false n h = omega arith

-- a number read from its own bytes
pub two_back : (n : ℕ) (rest : List ℕ) → n < 2 ^ 16 → big_number 2 (big_bytes 2 n ++ rest) ≡ n
two_back n rest h = omega arith

pub four_back : (n : ℕ) (rest : List ℕ) → n < 2 ^ 32 → big_number 4 (big_bytes 4 n ++ rest) ≡ n
four_back n rest h = omega arith

-- The extension at the start of its bytes, and the bytes after it.

abbrev Extended : Option ℕ → ℕ → List ℕ → List ℕ → List ℕ
Extended profile words block tail = extension_bytes profile words block ++ tail

profile_back : (profile : Option ℕ) (words : ℕ) (block tail : List ℕ) → IfSome profile (λ n. n < 2 ^ 16)
    → profile_in (is_some profile) (Extended profile words block tail) ≡ profile
profile_back None words block tail fits = refl
profile_back (Some n) words block tail fits = ap Some (two_back n (big_bytes 2 words ++ block ++ tail) fits)

words_back : (n words : ℕ) (block tail : List ℕ) → words < 2 ^ 16 → block_words (Extended (Some n) words block tail) ≡ words
words_back n words block tail few = two_back words (block ++ tail) few

block_back : (profile : Option ℕ) (words : ℕ) (block tail : List ℕ) → words < 2 ^ 16 → length block ≡ 4 * words → IfNone profile (block ≡ [])
    → block_in (is_some profile) (Extended profile words block tail) ≡ block
block_back None words block tail few whole none = sym none
block_back (Some n) words block tail few whole none =
    ap (λ (w : ℕ). take (4 * w) (block ++ tail)) (words_back n words block tail few) ∙ take_at block tail (4 * words) whole

tail_back : (profile : Option ℕ) (words : ℕ) (block tail : List ℕ) → words < 2 ^ 16 → length block ≡ 4 * words
    → behind_extension (is_some profile) (Extended profile words block tail) ≡ tail
tail_back None words block tail few whole = refl
tail_back (Some n) words block tail few whole =
    ap (λ (w : ℕ). drop (4 + 4 * w) (Extended (Some n) words block tail)) (words_back n words block tail few)
    ∙ sym (drop-drop (4 * words) 4 (Extended (Some n) words block tail))
    ∙ drop_at block tail (4 * words) whole

extension_there : (profile : Option ℕ) (words : ℕ) (block tail : List ℕ) → words < 2 ^ 16 → length block ≡ 4 * words
    → lacks_extension (is_some profile) (Extended profile words block tail) ≡ false
extension_there None words block tail few whole = refl
extension_there (Some n) words block tail few whole =
    le-ltb (length (Extended (Some n) words block tail)) (4 + 4 * block_words (Extended (Some n) words block tail))
    (omega (arith, words_back n words block tail few, length-append block tail))

-- The payload and the padding after it.

-- the list, with its end concatenated first
at_end : (payload filler : List ℕ) → payload ++ padding_bytes (Some filler) ≡ (payload ++ filler) ++ (length filler + 1) ∷ []
at_end payload filler = sym (append_assoc payload filler ((length filler + 1) ∷ []))

last_back : (payload filler : List ℕ) → last_byte (payload ++ padding_bytes (Some filler)) ≡ length filler + 1
last_back payload filler =
    let count = length filler + 1 in
    let front = payload ++ filler in
    ap last_byte (at_end payload filler)
    ∙ get_or_at front count [] 0 (length (front ++ count ∷ []) - 1) (omega (arith, length-append front (count ∷ [])))

whole_length : (payload filler : List ℕ) → length (payload ++ padding_bytes (Some filler)) ≡ length payload + (length filler + 1)
whole_length payload filler =
    let count = length filler + 1 in
    omega (arith, length-append payload (filler ++ count ∷ []), length-append filler (count ∷ []))

payload_back : (payload : List ℕ) (filler : Option (List ℕ)) → payload_in (is_some filler) (payload ++ padding_bytes filler) ≡ payload
payload_back payload None = append-nil payload
payload_back payload (Some f) =
    let all = payload ++ padding_bytes (Some f) in
    ap (λ (x : ℕ). take (length all - x) all) (last_back payload f)
    ∙ take_at payload (padding_bytes (Some f)) (length all - (length f + 1)) (omega (arith, whole_length payload f))

neither_from : (x y : Bool) → x ≡ false → y ≡ false → (x || y) ≡ false
neither_from x y hx hy = rw (hx, hy) refl

padding_good : (payload : List ℕ) (filler : Option (List ℕ)) → has_bad_padding (is_some filler) (payload ++ padding_bytes filler) ≡ false
padding_good payload None = refl
padding_good payload (Some f) =
    let all = payload ++ padding_bytes (Some f) in
    neither_from (last_byte all == 0) (nat_lt (length all) (last_byte all))
    (ne_eqb (last_byte all) 0 (λ h. omega (arith, h, last_back payload f)))
    (le-ltb (length all) (last_byte all) (omega (arith, whole_length payload f, last_back payload f)))

at_both : {X : Type 0} (f : Bool → List ℕ → X) (a b : Bool) (xs ys : List ℕ) → a ≡ b → xs ≡ ys → f a xs ≡ f b ys
at_both f a b xs ys e h = ap (λ (x : Bool). f x xs) e ∙ ap (f b) h

pub same_packet : (p q : Packet) → q.marker ≡ p.marker → q.payload_type ≡ p.payload_type → q.sequence ≡ p.sequence → q.timestamp ≡ p.timestamp
    → q.ssrc ≡ p.ssrc → q.profile ≡ p.profile → q.block ≡ p.block → q.payload ≡ p.payload → q ≡ p
same_packet p q a b c d e f g h =
    let packed : (m : Bool) (t s u v : ℕ) (o : Option ℕ) (x y : List ℕ) → Packet = λ m t s u v o x y. record {
      marker = m;
      payload_type = t;
      sequence = s;
      timestamp = u;
      ssrc = v;
      profile = o;
      block = x;
      payload = y;
    } in
    let same : packed q.marker q.payload_type q.sequence q.timestamp q.ssrc q.profile q.block q.payload
    ≡ packed p.marker p.payload_type p.sequence p.timestamp p.ssrc p.profile p.block p.payload = rw (a, b, c, d, e, f, g, h) refl in
    same

packet_taken : (bytes : List ℕ) (p : Packet) → IsPacket bytes p → (first_fault bytes ≡ None) × (packet_of bytes ≡ p)
packet_taken bytes p is =
    let n = is.csrc_words in
    let padded = is_some is.filler in
    let extended = is_some p.profile in
    let tail = p.payload ++ padding_bytes is.filler in
    let ext = extension_bytes p.profile is.block_words p.block in
    let first : slice_index bytes 0 ≡ first_byte padded extended n = ap (λ (x : List ℕ). slice_index x 0) is.laid in
    let second : slice_index bytes 1 ≡ second_byte p.marker p.payload_type = ap (λ (x : List ℕ). slice_index x 1) is.laid in
    let count : csrc_count bytes ≡ n = ap (λ (x : ℕ). x % 16) first ∙ count_back padded extended n is.few_csrcs in
    let extended_is : is_extended bytes ≡ extended = ap (λ (x : ℕ). x / 16 % 2 == 1) first ∙ extended_back padded extended n is.few_csrcs in
    let padded_is : is_padded bytes ≡ padded = ap (λ (x : ℕ). x / 32 % 2 == 1) first ∙ padded_back padded extended n is.few_csrcs in
    let after : drop 12 bytes ≡ is.csrcs ++ ext ++ p.payload ++ padding_bytes is.filler = ap (drop 12) is.laid in
    let regrouped : is.csrcs ++ ext ++ p.payload ++ padding_bytes is.filler ≡ is.csrcs ++ (ext ++ tail) = simp append_assoc in
    let behind_is : behind_csrcs bytes ≡ ext ++ tail =
    ap (λ (x : ℕ). drop (12 + 4 * x) bytes) count
    ∙ sym (drop-drop (4 * n) 12 bytes)
    ∙ ap (drop (4 * n)) (after ∙ regrouped)
    ∙ drop_at is.csrcs (ext ++ tail) (4 * n) is.whole_csrcs in
    let header_is : behind_header bytes ≡ tail =
    at_both behind_extension (is_extended bytes) extended (behind_csrcs bytes) (ext ++ tail) extended_is behind_is
    ∙ tail_back p.profile is.block_words p.block tail is.few_words is.whole_block in
    let long : length bytes ≡ 12 + length (is.csrcs ++ (ext ++ tail)) = omega (arith, ap length is.laid, ap length regrouped) in
    let clean : HasNoFault bytes = record {
      header = omega arith;
      version = ap (λ (x : ℕ). x / 64) first ∙ version_back padded extended n is.few_csrcs;
      csrcs = omega (arith, length-append is.csrcs (ext ++ tail), is.whole_csrcs);
      extension = at_both lacks_extension (is_extended bytes) extended (behind_csrcs bytes) (ext ++ tail) extended_is behind_is
          ∙ extension_there p.profile is.block_words p.block tail is.few_words is.whole_block;
      padding = at_both has_bad_padding (is_padded bytes) padded (behind_header bytes) tail padded_is header_is
          ∙ padding_good p.payload is.filler;
    } in (
      none_found bytes clean,
      same_packet p (packet_of bytes)
          (ap (λ (x : ℕ). x / 128 == 1) second ∙ marker_back p.marker p.payload_type is.fits.payload_type)
          (ap (λ (x : ℕ). x % 128) second ∙ type_back p.marker p.payload_type is.fits.payload_type)
          (ap sequence_of is.laid ∙ two_back p.sequence [] is.fits.sequence)
          (ap timestamp_of is.laid ∙ four_back p.timestamp [] is.fits.timestamp)
          (ap ssrc_of is.laid ∙ four_back p.ssrc [] is.fits.ssrc)
          (at_both profile_in (is_extended bytes) extended (behind_csrcs bytes) (ext ++ tail) extended_is behind_is
          ∙ profile_back p.profile is.block_words p.block tail is.fits.profile)
          (at_both block_in (is_extended bytes) extended (behind_csrcs bytes) (ext ++ tail) extended_is behind_is
          ∙ block_back p.profile is.block_words p.block tail is.few_words is.whole_block is.fits.no_block)
          (at_both payload_in (is_padded bytes) padded (behind_header bytes) tail padded_is header_is
          ∙ payload_back p.payload is.filler),
    )

pub packet_has_no_fault : (bytes : List ℕ) (p : Packet) → IsPacket bytes p → first_fault bytes ≡ None
packet_has_no_fault bytes p is = (packet_taken bytes p is).0

pub packet_is_fields : (bytes : List ℕ) (p : Packet) → IsPacket bytes p → packet_of bytes ≡ p
packet_is_fields bytes p is = (packet_taken bytes p is).1

pub one_packet : (bytes : List ℕ) (p q : Packet) → IsPacket bytes p → IsPacket bytes q → p ≡ q
one_packet bytes p q is_p is_q = sym (packet_is_fields bytes p is_p) ∙ packet_is_fields bytes q is_q

-- bytes with a fault aren't a packet
pub faulty_is_none : (bytes : List ℕ) (e : RtpFault) (p : Packet) → first_fault bytes ≡ Some e → IsPacket bytes p → ⊥
faulty_is_none bytes e p at_fault is = let none = packet_has_no_fault bytes p is in cc
