-- How the parts of a packet determine the places of its bytes, and the packet without its padding.
use Rattle.std.proofs.Common.{◌≡◌, ◌<◌, lit<, ℕ, zero, suc, ◌+◌, ◌-◌, ◌*◌, ◌/◌, ◌%◌, ◌==◌, Bool, true, false, List, [], ◌∷◌, ◌++◌, length, take, drop, slice_index, Option, Some, None, is_some, refl, sym, ap, subst, ◌∙◌, arith, append-nil, append_assoc, length-append}
use Rattle.std.proofs.lemmas.List.{take_at}
use Rattle.std.proofs.lemmas.Bool.Decides.{nat_tests}
use Rattle.byteorder.specs.Endian.{big_bytes}
use Rattle.sfu_base.specs.Bytes.{AreBytes}
use Rattle.rtp_packet.specs.Fields.{is_padded}
use Rattle.rtp_packet.specs.Packet.{IsPacket, Packet, Fits, first_byte, second_byte, extension_bytes, padding_bytes}
use Rattle.rtx_stream.specs.Bare.{bare_bytes}

pub count_back : (p x : Bool) (n : ℕ) → n < 16 → first_byte p x n % 16 ≡ n
count_back true true n h = omega arith
count_back true false n h = omega arith
count_back false true n h = omega arith
count_back false false n h = omega arith

padded_back : (p x : Bool) (n : ℕ) → n < 16 → (first_byte p x n / 32 % 2 == 1) ≡ p
padded_back true true n h = grind (arith, nat_tests)
padded_back true false n h = grind (arith, nat_tests)
padded_back false true n h = grind (arith, nat_tests)
padded_back false false n h = grind (arith, nat_tests)

pub first_of : (bytes : List ℕ) (p : Packet) (is : IsPacket bytes p)
    → slice_index bytes 0 ≡ first_byte (is_some is.filler) (is_some p.profile) is.csrc_words
first_of bytes p is = ap (λ (x : List ℕ). slice_index x 0) is.laid

csrcs_at : (bytes : List ℕ) (p : Packet) (is : IsPacket bytes p) → take (4 * (slice_index bytes 0 % 16)) (drop 12 bytes) ≡ is.csrcs
csrcs_at bytes p is =
    let count : slice_index bytes 0 % 16 ≡ is.csrc_words =
    ap (λ (x : ℕ). x % 16) (first_of bytes p is) ∙ count_back (is_some is.filler) (is_some p.profile) is.csrc_words is.few_csrcs in
    let ext = extension_bytes p.profile is.block_words p.block in
    let after : drop 12 bytes ≡ is.csrcs ++ ext ++ p.payload ++ padding_bytes is.filler = ap (drop 12) is.laid in
    let regrouped : is.csrcs ++ ext ++ p.payload ++ padding_bytes is.filler ≡ is.csrcs ++ (ext ++ p.payload ++ padding_bytes is.filler) = simp append_assoc in
    ap (λ (x : ℕ). take (4 * x) (drop 12 bytes)) count ∙ ap (take (4 * is.csrc_words)) (after ∙ regrouped)
    ∙ take_at is.csrcs (ext ++ p.payload ++ padding_bytes is.filler) (4 * is.csrc_words) is.whole_csrcs

-- if equal bytes are equal packets, their parts are at the same places
pub record SameLayout (bytes others : List ℕ) (p o : Packet) (is : IsPacket bytes p) (other : IsPacket others o) : Type 0 where
  pub count : is.csrc_words ≡ other.csrc_words
  pub csrcs : is.csrcs ≡ other.csrcs
  pub words : is.block_words ≡ other.block_words

same_layout : (bytes others : List ℕ) (p o : Packet) (is : IsPacket bytes p) (other : IsPacket others o) → bytes ≡ others → p ≡ o
    → SameLayout bytes others p o is other
same_layout bytes others p o is other same says = record {
  count = sym (count_back (is_some is.filler) (is_some p.profile) is.csrc_words is.few_csrcs)
      ∙ ap (λ (x : ℕ). x % 16) (sym (first_of bytes p is) ∙ ap (λ (x : List ℕ). slice_index x 0) same ∙ first_of others o other)
      ∙ count_back (is_some other.filler) (is_some o.profile) other.csrc_words other.few_csrcs;
  csrcs = sym (csrcs_at bytes p is) ∙ ap (λ (x : List ℕ). take (4 * (slice_index x 0 % 16)) (drop 12 x)) same ∙ csrcs_at others o other;
  words = omega (arith, is.whole_block, other.whole_block, ap (λ (x : Packet). length x.block) says);
}

-- equal packets whose parts are at the same places are equal bytes
pub same_bare : (bytes others : List ℕ) (p o q r : Packet) (is : IsPacket bytes p) (other : IsPacket others o) → bytes ≡ others → p ≡ o → q ≡ r
    → bare_bytes is.csrc_words is.csrcs is.block_words q ≡ bare_bytes other.csrc_words other.csrcs other.block_words r
same_bare bytes others p o q r is other same says laid =
    let places = same_layout bytes others p o is other same says in
    ap (bare_bytes is.csrc_words is.csrcs is.block_words) laid
    ∙ ap (λ (n : ℕ). bare_bytes n is.csrcs is.block_words r) places.count
    ∙ ap (λ (x : List ℕ). bare_bytes other.csrc_words x is.block_words r) places.csrcs
    ∙ ap (λ (n : ℕ). bare_bytes other.csrc_words other.csrcs n r) places.words

-- parts concatenated like those of a packet, with the same extension and no padding, are a packet
abbrev pub bare_packet : (bytes : List ℕ) (p q : Packet) (is : IsPacket bytes p) → q.profile ≡ p.profile → q.block ≡ p.block → Fits q
    → IsPacket (bare_bytes is.csrc_words is.csrcs is.block_words q) q
bare_packet bytes p q is same_profile same_block fits = record {
  csrc_words = is.csrc_words;
  csrcs = is.csrcs;
  block_words = is.block_words;
  filler = None;
  laid = sym (append-nil (bare_bytes is.csrc_words is.csrcs is.block_words q));
  fits = fits;
  few_csrcs = is.few_csrcs;
  whole_csrcs = is.whole_csrcs;
  few_words = is.few_words;
  whole_block = ap length same_block ∙ is.whole_block;
  short_filler = tt;
}

pub bare_is_unpadded : (csrc_words block_words : ℕ) (csrcs : List ℕ) (q : Packet) → csrc_words < 16
    → is_padded (bare_bytes csrc_words csrcs block_words q) ≡ false
bare_is_unpadded csrc_words block_words csrcs q few = padded_back false (is_some q.profile) csrc_words few

no_filler : (o : Option (List ℕ)) → is_some o ≡ false → padding_bytes o ≡ []
no_filler None h = refl
no_filler (Some xs) h = cc

-- a packet without padding bit equals its form without padding
pub unpadded_is_bare : (bytes : List ℕ) (p : Packet) (is : IsPacket bytes p) → is_padded bytes ≡ false
    → bytes ≡ bare_bytes is.csrc_words is.csrcs is.block_words p
unpadded_is_bare bytes p is unpadded =
    let none : is_some is.filler ≡ false =
    sym (padded_back (is_some is.filler) (is_some p.profile) is.csrc_words is.few_csrcs)
    ∙ ap (λ (x : ℕ). x / 32 % 2 == 1) (sym (first_of bytes p is)) ∙ unpadded in
    let bit : first_byte (is_some is.filler) (is_some p.profile) is.csrc_words ≡ first_byte false (is_some p.profile) is.csrc_words =
    ap (λ (x : Bool). first_byte x (is_some p.profile) is.csrc_words) none in
    let rest = is.csrcs ++ extension_bytes p.profile is.block_words p.block ++ p.payload in
    is.laid ∙ rw (none, no_filler is.filler none) (append-nil (bare_bytes is.csrc_words is.csrcs is.block_words p))

-- the bytes between the fixed header and the payload
pub tail_laid : (bytes : List ℕ) (p : Packet) (is : IsPacket bytes p) (end : ℕ)
    → end ≡ 12 + length is.csrcs + length (extension_bytes p.profile is.block_words p.block)
    → take (end - 12) (drop 12 bytes) ≡ is.csrcs ++ extension_bytes p.profile is.block_words p.block
tail_laid bytes p is end at_end =
    let ext = extension_bytes p.profile is.block_words p.block in
    let after : drop 12 bytes ≡ is.csrcs ++ ext ++ p.payload ++ padding_bytes is.filler = ap (drop 12) is.laid in
    let regrouped : is.csrcs ++ ext ++ p.payload ++ padding_bytes is.filler ≡ (is.csrcs ++ ext) ++ (p.payload ++ padding_bytes is.filler) = simp append_assoc in
    ap (take (end - 12)) (after ∙ regrouped)
    ∙ take_at (is.csrcs ++ ext) (p.payload ++ padding_bytes is.filler) (end - 12) (omega (arith, length-append is.csrcs ext))

-- the concatenated pieces of a header
pub put_together : (first second x y : ℕ) (a b c tail a' b' c' tail' w0 w1 w2 w3 w4 : List ℕ) → w0 ≡ first ∷ second ∷ [] → w1 ≡ w0 ++ a
    → w2 ≡ w1 ++ b → w3 ≡ w2 ++ c → w4 ≡ w3 ++ tail → first ≡ x → second ≡ y → a ≡ a' → b ≡ b' → c ≡ c' → tail ≡ tail'
    → w4 ≡ (x ∷ y ∷ []) ++ a' ++ b' ++ c' ++ tail'
put_together first second x y a b c tail a' b' c' tail' w0 w1 w2 w3 w4 e0 e1 e2 e3 e4 ex ey ea eb ec et =
    e4 ∙ ap (λ (w : List ℕ). w ++ tail) (e3 ∙ ap (λ (w : List ℕ). w ++ c) (e2 ∙ ap (λ (w : List ℕ). w ++ b) (e1 ∙ ap (λ (w : List ℕ). w ++ a) e0)))
    ∙ rw (ex, ey, ea, eb, ec, et) refl

-- a part of a list of bytes is a list of bytes

behind_bytes : (front xs : List ℕ) → AreBytes (front ++ xs) → AreBytes xs
behind_bytes [] xs fit = fit
behind_bytes (f ∷ front) xs fit = behind_bytes front xs (λ i. fit (suc i))

before_bytes : (xs back : List ℕ) → AreBytes (xs ++ back) → AreBytes xs
before_bytes [] back fit i = lit< tt
before_bytes (x ∷ xs) back fit zero = fit zero
before_bytes (x ∷ xs) back fit (suc i) = before_bytes xs back (λ j. fit (suc j)) i

pub payload_bytes : (bytes : List ℕ) (p : Packet) (is : IsPacket bytes p) → AreBytes bytes → AreBytes p.payload
payload_bytes bytes p is fit =
    let padding = padding_bytes is.filler in
    let front = (first_byte (is_some is.filler) (is_some p.profile) is.csrc_words ∷ second_byte p.marker p.payload_type ∷ [])
    ++ big_bytes 2 p.sequence ++ big_bytes 4 p.timestamp ++ big_bytes 4 p.ssrc ++ is.csrcs ++ extension_bytes p.profile is.block_words p.block in
    let parts : bytes ≡ front ++ p.payload ++ padding = is.laid in
    before_bytes p.payload padding
    (behind_bytes front (p.payload ++ padding) (subst AreBytes (parts ∙ append_assoc front p.payload padding) fit))
