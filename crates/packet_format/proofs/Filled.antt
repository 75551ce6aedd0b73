-- The code writes the remasked packet.
use Rattle.std.proofs.Common.{◌≡◌, ◌<◌, ◌≤◌, ℕ, ◌+◌, ◌-◌, ◌*◌, Bool, true, false, List, [], ◌++◌, length, take, drop, Option, Some, None, Result, Ok, Err, refl, sym, ap, ap₂, subst, ◌∙◌, arith, append_assoc}
use Rattle.std.specs.Prelude.{OnErr}
use Rattle.std.proofs.lemmas.Bool.{le-ltb, lt-ltb, ltb-false}
use Rattle.std.proofs.lemmas.List.{drop-drop, length-drop, length-take-le}
use Rattle.std.proofs.Math.Seq.{take-add}
use Rattle.sfu_base.specs.Bytes.{AreBytes}
use Rattle.rtp_packet.specs.Faults.{first_fault, lacks_extension}
use Rattle.rtp_packet.specs.Fields.{behind_csrcs, behind_extension, behind_header, block_in, block_of, block_words, csrc_count, is_extended, profile_in, profile_of}
use Rattle.rtp_packet.proofs.Faultless.{has_none}
use Rattle.rtp_extension.specs.Forms.{IsBetween}
use Rattle.rtp_extension.specs.Reblocked.{extension_with}
use Rattle.dd_structure.specs.TemplateStructure.{TemplateStructure}
use Rattle.dd_descriptor.specs.declared.fault.DdFault.{DdFault}
use Rattle.dd_descriptor.specs.Parts.{MakesBytes, MakesNone, PartBits, parts_at, with_mask}
use Rattle.packet_format.specs.Formats.{element_in, element_of}
use Rattle.packet_format.specs.WholeBytes.{whole_bytes}
use Rattle.packet_format.specs.Remasked.{at_most, new_value, remasked, value_with, with_extension, with_value}
use Rattle.packet_format.proofs.Extended.{length-with_extension}
use Rattle.packet_format.proofs.Remasked.{header_before, not_more, some_bits}
use Rattle.packet_format.proofs.WholeBytes.{length-whole, padded_once}

abbrev pub given : List ℕ → Option (List ℕ)
given bytes = Some bytes

kept : (most : ℕ) (bytes : List ℕ) → length bytes ≤ most → at_most most (given bytes) ≡ Some bytes
kept most bytes few = rw (le-ltb most (length bytes) few) refl

over : (most : ℕ) (bytes : List ℕ) → most < length bytes → at_most most (given bytes) ≡ None
over most bytes many = rw (lt-ltb most (length bytes) many) refl

pub on_err : {A E : Type 0} {P : Type 0} (r : Result A E) → P → OnErr r P
on_err (Ok x) p = tt
on_err (Err e) p = p

-- ---- the value

module _ (descriptor : List ℕ) (force : Option TemplateStructure) (mask : ℕ) (out : List ℕ) where
  pub value_filled : AreBytes out → MakesBytes (parts_at descriptor force) mask out → at_most 255 (new_value force mask (given descriptor)) ≡ Some out
  value_filled are made = by (parts_at descriptor force) made
    where
      by : (r : Result PartBits DdFault) → MakesBytes r mask out → at_most 255 (value_with mask r) ≡ Some out
      by (Err fault) made = absurd made
      by (Ok parts) made =
          let bits = with_mask parts mask in
          let same : out ≡ whole_bytes bits = padded_once bits out made.0 are in
          ap (λ (bytes : List ℕ). at_most 255 (given bytes)) (sym same) ∙ kept 255 out made.1

  pub value_too_long : MakesNone (parts_at descriptor force) mask → at_most 255 (new_value force mask (given descriptor)) ≡ None
  value_too_long none = by (parts_at descriptor force) none
    where
      by : (r : Result PartBits DdFault) → MakesNone r mask → at_most 255 (value_with mask r) ≡ None
      by (Err fault) none = refl
      by (Ok parts) none = let bits = with_mask parts mask in over 255 (whole_bytes bits) (omega (arith, length-whole bits, none))

pub value_between : (force : Option TemplateStructure) (mask : ℕ) (descriptor value : List ℕ) → at_most 255 (new_value force mask (Some descriptor)) ≡ Some value → IsBetween 1 255 (length value)
value_between force mask descriptor value e =
    let fits = not_more 255 (new_value force mask (Some descriptor)) value e in
    record { low_end = some (parts_at descriptor force) fits.0; high_end = fits.1 }
  where
    some : (r : Result PartBits DdFault) → value_with mask r ≡ Some value → 1 ≤ length value
    some (Err fault) e = absurd cc
    some (Ok parts) e =
        let same : whole_bytes (with_mask parts mask) ≡ value = cc in
        subst (λ (xs : List ℕ). 1 ≤ length xs) same (omega (arith, length-whole (with_mask parts mask), some_bits parts mask))

-- ---- the place of the old extension

block_there : (x : Bool) (rest : List ℕ) → x ≡ true → lacks_extension x rest ≡ false
    → (4 + length (block_in x rest) ≤ length rest) × (behind_extension x rest ≡ drop (4 + length (block_in x rest)) rest)
block_there false rest e there = absurd cc
block_there true rest e there =
    let long = ltb-false (length rest) (4 + 4 * block_words rest) there in
    let len : length (take (4 * block_words rest) (drop 4 rest)) ≡ 4 * block_words rest = length-take-le (4 * block_words rest) (drop 4 rest) (omega (arith, length-drop 4 rest, long)) in
    (omega (arith, len, long), ap (λ (n : ℕ). drop (4 + n) rest) (sym len))

extended_with : (id : ℕ) (x : Bool) (rest value : List ℕ) → element_in id (profile_in x rest) (block_in x rest) ≡ Some value → x ≡ true
extended_with id true rest value e = refl
extended_with id false rest value e = absurd cc

pub extension_there : (id : ℕ) (bytes descriptor block : List ℕ) → first_fault bytes ≡ None → element_of id bytes ≡ Some descriptor → block ≡ block_of bytes
    → (12 + 4 * csrc_count bytes + (4 + length block) ≤ length bytes) × (behind_header bytes ≡ drop (12 + 4 * csrc_count bytes + (4 + length block)) bytes)
extension_there id bytes descriptor block reads found same =
    let clean = has_none bytes reads in
    let at = block_there (is_extended bytes) (behind_csrcs bytes) (extended_with id (is_extended bytes) (behind_csrcs bytes) descriptor found) clean.extension in
    let len : length block ≡ length (block_of bytes) = ap length same in (
      omega (arith, at.0, len, clean.csrcs, length-drop (12 + 4 * csrc_count bytes) bytes),
      at.1 ∙ drop-drop (4 + length (block_of bytes)) (12 + 4 * csrc_count bytes) bytes ∙ ap (λ (n : ℕ). drop (12 + 4 * csrc_count bytes + (4 + n)) bytes) (sym len),
    )

-- ---- the packet

pub packet_filled : (packet extension out : List ℕ) (old : ℕ) → 12 + 4 * csrc_count packet + old ≤ length packet → behind_header packet ≡ drop (12 + 4 * csrc_count packet + old) packet
    → 12 + 4 * csrc_count packet + length extension + (length packet - (12 + 4 * csrc_count packet + old)) ≤ 1536
    → out ≡ (take (12 + 4 * csrc_count packet) packet ++ extension) ++ drop (12 + 4 * csrc_count packet + old) packet
    → at_most 1536 (Some (with_extension extension packet)) ≡ Some out
packet_filled packet extension out old long behind few is =
    let words = 4 * csrc_count packet in
    let tail = behind_header packet in
    let size : length tail ≡ length packet - (12 + words + old) = ap length behind ∙ length-drop (12 + words + old) packet in
    let short : length (with_extension extension packet) ≤ 1536 = omega (arith, length-with_extension extension packet (omega (arith, long)), size, few) in
    let regrouped : ((take 12 packet ++ take words (drop 12 packet)) ++ extension) ++ tail ≡ with_extension extension packet = simp append_assoc in
    let same : out ≡ with_extension extension packet = is ∙ ap₂ (λ (x y : List ℕ). (x ++ extension) ++ y) (take-add 12 words packet) (sym behind) ∙ regrouped in
    kept 1536 (with_extension extension packet) short ∙ ap given (sym same)

remasked_at : (id : ℕ) (force : Option TemplateStructure) (mask : ℕ) (bytes descriptor value : List ℕ) (p : ℕ) → profile_of bytes ≡ Some p → element_of id bytes ≡ Some descriptor
    → at_most 255 (new_value force mask (Some descriptor)) ≡ Some value
    → remasked id force mask bytes ≡ at_most 1536 (Some (with_extension (extension_with p (block_of bytes) id value) bytes))
remasked_at id force mask bytes descriptor value p is_p found is =
    ap₂ (λ (o : Option ℕ) (v : Option (List ℕ)). at_most 1536 (with_value id o v bytes)) is_p (ap (λ (o : Option (List ℕ)). at_most 255 (new_value force mask o)) found ∙ is)

pub extension_too_long : (id : ℕ) (force : Option TemplateStructure) (mask : ℕ) (bytes descriptor value block : List ℕ) (p : ℕ) → profile_of bytes ≡ Some p → element_of id bytes ≡ Some descriptor
    → at_most 255 (new_value force mask (Some descriptor)) ≡ Some value → block ≡ block_of bytes → (length (extension_with p block id value) ≤ 2048 → ⊥)
    → remasked id force mask bytes ≡ None
extension_too_long id force mask bytes descriptor value block p is_p found is same many =
    let extension = extension_with p (block_of bytes) id value in
    let so : length extension ≤ 2048 → ⊥ = λ few. many (subst (λ (b : List ℕ). length (extension_with p b id value) ≤ 2048) (sym same) few) in
    remasked_at id force mask bytes descriptor value p is_p found is
    ∙ over 1536 (with_extension extension bytes) (by extension so)
  where
    by : (extension : List ℕ) → (length extension ≤ 2048 → ⊥) → 1536 < length (with_extension extension bytes)
    by extension so = omega (arith, so, length-with_extension extension bytes (header_before id bytes descriptor found))

-- a call whose contract says both that something would have fitted and that it didn't fit
pub not_fitting : (old : List ℕ) (n : ℕ) → old ≡ [] → (length old + n ≤ 2048 → false ≡ true) → n ≤ 2048 → ⊥
not_fitting old n none fits few = let e = fits (omega (arith, few, ap length none)) in cc
