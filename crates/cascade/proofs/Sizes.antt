-- The length of a packet after its mask was rewritten.
use Rattle.std.proofs.Common.{◌≡◌, ◌+◌, ◌-◌, ◌*◌, ◌/◌, ◌%◌, ◌≤◌, ℕ, zero, suc, arith, Bool, true, false, cond, eqb, nat_lt, List, [], ◌∷◌, ◌++◌, length, length-append, length-drop, length-take, take, drop, refl, ap, Option, None, Some}
use Rattle.std.proofs.lemmas.Bool.{ltb-false}
use Rattle.rtp_packet.specs.Fields.{behind_csrcs, behind_extension, behind_header, block_in, block_of, block_words, csrc_count, is_extended, profile_of}
use Rattle.rtp_packet.specs.Rewritten.{rewritten}
use Rattle.rtp_extension.specs.declared.form.Form.{Form}
use Rattle.rtp_extension.specs.declared.form.Form.TheVariants.{OneByte, TwoByte}
use Rattle.rtp_extension.specs.Forms.{PlainElement, element_bytes, form_of}
use Rattle.rtp_extension.specs.Reading.{elements_if, elements_of, ends_one, one_byte_from, two_byte_from}
use Rattle.rtp_extension.specs.Reblocked.{block_if, block_with, elements_laid, extension_with, profile_for, replaced, word_padding}
use Rattle.rtp_extension.proofs.Reblocking.{length-block_in}
use Rattle.dd_structure.specs.TemplateStructure.{TemplateStructure}
use Rattle.packet_format.specs.Formats.{element_of}
use Rattle.packet_format.specs.Remasked.{at_most, new_value, remasked, with_extension, with_value}

-- ---- elements

-- at most this number of bytes in either form
abbrev total : List PlainElement → ℕ
total [] = 0
total (e ∷ es) = 2 + length e.value + total es

length-one : (form : Form) (e : PlainElement) → length (element_bytes form e) ≤ 2 + length e.value
length-one OneByte e = omega arith
length-one TwoByte e = omega arith

length-laid : (form : Form) (es : List PlainElement) → length (elements_laid form es) ≤ total es
length-laid form [] = omega arith
length-laid form (e ∷ es) =
    let rest = length-laid form es in
    let one = length-one form e in
    omega (arith, rest, one, length-append (element_bytes form e) (elements_laid form es))

one_short : (skipped : ℕ) (block : List ℕ) → total (one_byte_from skipped block) ≤ 2 * (length block - skipped)
unfolding one_byte_from
one_short zero [] = omega arith
one_short (suc skipped) [] = omega arith
one_short (suc skipped) (byte ∷ rest) = let r = one_short skipped rest in omega (arith, r)
one_short zero (zero ∷ rest) = let r = one_short zero rest in omega (arith, r)
one_short zero (suc n ∷ rest) = go (ends_one (suc n) (length rest)) (one_short (suc n % 16 + 1) rest)
  where
    go : (b : Bool) → total (one_byte_from (suc n % 16 + 1) rest) ≤ 2 * (length rest - (suc n % 16 + 1))
        → total (cond b [] (record { id = suc n / 16; value = take (suc n % 16 + 1) rest } ∷ one_byte_from (suc n % 16 + 1) rest)) ≤ 2 * (suc (length rest) - 0)
    go true r = omega arith
    go false r = omega (arith, r, length-take (suc n % 16 + 1) rest)

two_short : (skipped : ℕ) (block : List ℕ) → total (two_byte_from skipped block) ≤ 2 * (length block - skipped)
unfolding two_byte_from
two_short zero [] = omega arith
two_short (suc skipped) [] = omega arith
two_short (suc skipped) (byte ∷ rest) = let r = two_short skipped rest in omega (arith, r)
two_short zero (zero ∷ rest) = let r = two_short zero rest in omega (arith, r)
two_short zero (suc n ∷ []) = omega arith
two_short zero (suc n ∷ count ∷ rest) = go (nat_lt (length rest) count) (two_short count rest)
  where
    go : (b : Bool) → total (two_byte_from count rest) ≤ 2 * (length rest - count)
        → total (cond b [] (record { id = suc n; value = take count rest } ∷ two_byte_from count rest)) ≤ 2 * (suc (suc (length rest)) - 0)
    go true r = omega arith
    go false r = omega (arith, r, length-take count rest)

elements_short : (profile : ℕ) (block : List ℕ) → total (elements_of profile block) ≤ 2 * length block
elements_short profile block = go (form_of profile)
  where
    go : (o : Option Form) → total (elements_if o block) ≤ 2 * length block
    go None = omega arith
    go (Some OneByte) = let r = one_short 0 block in omega (arith, r)
    go (Some TwoByte) = let r = two_short 0 block in omega (arith, r)

replaced_short : (id : ℕ) (value : List ℕ) (es : List PlainElement) → total (replaced id value es) ≤ 2 + length value + total es
replaced_short id value [] = omega arith
replaced_short id value (e ∷ es) = go (eqb e.id id) (replaced_short id value es)
  where
    go : (b : Bool) → total (replaced id value es) ≤ 2 + length value + total es
        → total (cond b (record { id = id; value = value } ∷ es) (e ∷ replaced id value es)) ≤ 2 + length value + (2 + length e.value + total es)
    go true r = omega arith
    go false r = omega (arith, r)

-- ---- the header extension

block_short : (profile id : ℕ) (block value : List ℕ) → length (block_with profile block id value) ≤ 2 * length block + length value + 5
block_short profile id block value = go (form_of (profile_for profile value))
  where
    es : List PlainElement
    es = replaced id value (elements_of profile block)

    few : total es ≤ 2 + length value + 2 * length block
    few = let a = replaced_short id value (elements_of profile block) in let b = elements_short profile block in omega (arith, a, b)

    go : (o : Option Form) → length (block_if o es) ≤ 2 * length block + length value + 5
    go None = omega arith
    go (Some form) =
        let laid = length-laid form es in
        let is = length-block_in form es in
        let padding : word_padding (length (elements_laid form es)) ≤ 3 = omega arith in
        omega (arith, laid, is, padding, few)

extension_short : (profile id : ℕ) (block value : List ℕ) → length (extension_with profile block id value) ≤ 2 * length block + length value + 9
extension_short profile id block value =
    let short = block_short profile id block value in
    omega (arith, short)

-- ---- the packet

cut_short : (b : Bool) (rest : List ℕ) → length (block_in b rest) ≤ length rest
cut_short true rest = omega (arith, length-take (4 * block_words rest) (drop 4 rest), length-drop 4 rest)
cut_short false rest = omega arith

behind_short : (b : Bool) (rest : List ℕ) → length (behind_extension b rest) ≤ length rest
behind_short true rest = omega (arith, length-drop (4 + 4 * block_words rest) rest)
behind_short false rest = omega arith

with_short : (extension bytes : List ℕ) → length (with_extension extension bytes) ≤ 12 + length extension + 2 * length bytes
with_short extension bytes =
    let behind = behind_short (is_extended bytes) (behind_csrcs bytes) in
    omega (
      arith,
      behind,
      length-drop (12 + 4 * csrc_count bytes) bytes,
      length-drop 12 bytes,
      length-take 12 bytes,
      length-take (4 * csrc_count bytes) (drop 12 bytes),
      length-append (take 12 bytes) (take (4 * csrc_count bytes) (drop 12 bytes) ++ (extension ++ behind_header bytes)),
      length-append (take (4 * csrc_count bytes) (drop 12 bytes)) (extension ++ behind_header bytes),
      length-append extension (behind_header bytes),
    )

at_most_is : (most : ℕ) (o : Option (List ℕ)) (new : List ℕ) → at_most most o ≡ Some new → (o ≡ Some new) × (length new ≤ most)
at_most_is most None new e = absurd (cc)
at_most_is most (Some bytes) new e = go (nat_lt most (length bytes)) refl e
  where
    go : (b : Bool) → nat_lt most (length bytes) ≡ b → cond b None (Some bytes) ≡ Some new → (Some bytes ≡ Some new) × (length new ≤ most)
    go true is k = absurd (cc)
    go false is k = (k, let same : bytes ≡ new = cc in let fits = ltb-false most (length bytes) is in omega (arith, ap length same, fits))

-- A value has at most 255 bytes.
pub remasked_short : (id mask : ℕ) (force : Option TemplateStructure) (bytes new : List ℕ) → remasked id force mask bytes ≡ Some new → length new ≤ 276 + 4 * length bytes
remasked_short id mask force bytes new e =
    go (profile_of bytes) (at_most 255 (new_value force mask (element_of id bytes))) (λ value is. (at_most_is 255 (new_value force mask (element_of id bytes)) value is).1)
    (at_most_is 1536 (with_value id (profile_of bytes) (at_most 255 (new_value force mask (element_of id bytes))) bytes) new e).0
  where
    go : (profile : Option ℕ) (o : Option (List ℕ)) → ((value : List ℕ) → o ≡ Some value → length value ≤ 255) → with_value id profile o bytes ≡ Some new → length new ≤ 276 + 4 * length bytes
    go None o few k = absurd (cc)
    go (Some profile) None few k = absurd (cc)
    go (Some profile) (Some value) few k =
        let same : with_extension (extension_with profile (block_of bytes) id value) bytes ≡ new = cc in
        let fits = few value refl in
        let whole = with_short (extension_with profile (block_of bytes) id value) bytes in
        let extension = extension_short profile id (block_of bytes) value in
        let block = cut_short (is_extended bytes) (behind_csrcs bytes) in
        omega (arith, ap length same, fits, whole, extension, block, length-drop (12 + 4 * csrc_count bytes) bytes)

-- Another sequence number, SSRC and marker don't change the length.
pub rewritten_short : (sequence ssrc : ℕ) (marker : Bool) (bytes : List ℕ) → 12 ≤ length bytes → length (rewritten sequence ssrc marker bytes) ≤ length bytes
unfolding rewritten
rewritten_short sequence ssrc marker bytes long = simp (length-append, length-take, length-drop) (omega arith)
