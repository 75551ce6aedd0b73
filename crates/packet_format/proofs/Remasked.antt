-- A remasked packet is the same except for its header extension, and has the same descriptor except for the mask.
use Rattle.std.proofs.Common.{◌≡◌, ◌<◌, ◌≤◌, ℕ, ◌+◌, ◌*◌, ◌^◌, nat_lt, Bool, true, false, cond, inl, inr, List, [], ◌++◌, length, Option, Some, None, IsSome, Result, Ok, Err, refl, sym, ap, ap₂, subst, ◌∙◌, arith, length-append}
use Rattle.std.specs.Prelude.{◌⊎◌}
use Rattle.std.proofs.lemmas.Bool.{ltb-false, ltb-true, or_cases}
use Rattle.std.proofs.lemmas.List.{drop_all}
use Rattle.forwarding_model.specs.frames.Reading.{Descriptor, DescriptorReading, Payload, is_key_start, keeps_structure, obeys_structure, read_by, shown, shown_by}
use Rattle.forwarding_model.specs.frames.Reading.DescriptorReading.{Faulty, NeedsStructure, Reads}
use Rattle.forwarding_model.specs.frames.Reading.Showing.{Unread, Shows}
use Rattle.rtp_packet.specs.Fields.{behind_csrcs, block_in, block_of, csrc_count, is_extended, profile_in, profile_of}
use Rattle.rtp_extension.specs.Forms.{IsBetween, form_of}
use Rattle.rtp_extension.specs.Reading.{elements_of, value_of}
use Rattle.rtp_extension.specs.Reblocked.{block_with, extension_with, profile_for, replaced}
use Rattle.rtp_extension.proofs.Reblocking.{new_value as value_placed, old_value, whole_words}
use Rattle.dd_bits.specs.Bits.{bits_of}
use Rattle.dd_bits.specs.Writer.{IsPadded}
use Rattle.dd_bits.proofs.SequenceLaws.{ok_is, some_is}
use Rattle.dd_bits.proofs.Values.{length-bits_of}
use Rattle.dd_structure.specs.Spelling.{IsWellFormed}
use Rattle.dd_structure.specs.TemplateStructure.{TemplateStructure}
use Rattle.dd_descriptor.specs.declared.fault.DdFault.{DdFault}
use Rattle.dd_descriptor.specs.Content.{Content, holding}
use Rattle.dd_descriptor.specs.Laid.{IsDescriptor}
use Rattle.dd_descriptor.specs.Parts.{PartBits, parts_at, with_mask}
use Rattle.dd_descriptor.specs.Reading.{descriptor_at}
use Rattle.dd_descriptor.specs.Remasking.{remasked as remasked_descriptor, with_new_mask}
use Rattle.dd_descriptor.specs.Spelling.{flag_bits}
use Rattle.dd_descriptor.proofs.Again.{laid_again}
use Rattle.dd_descriptor.proofs.LaidFound.{descriptor_laid}
use Rattle.dd_descriptor.proofs.OwnStructure.{own_structure}
use Rattle.dd_descriptor.proofs.Remasked.{laid_parts, parts_laid, remasked_is, with_mask-laid}
use Rattle.dd_layout.proofs.Layouts.{same_structure}
use Rattle.packet_format.specs.Formats.{descriptor_in, element_in, element_of, format_of, payload_in, reading_of}
use Rattle.packet_format.specs.WholeBytes.{whole_bytes}
use Rattle.packet_format.specs.Remasked.{at_most, new_value, remasked, value_with, with_extension, with_value}
use Rattle.packet_format.specs.RemaskedReads.{CarriedStructuresDecide, FirstPacketsShow, IsRemasked, PacketsAreRemasked, RemaskedPacketsShow, remasked_as}
use Rattle.packet_format.proofs.Extended.{IsExtended, extended, length-with_extension}
use Rattle.packet_format.proofs.Formats.{is_read, well_carried, well_in_force}
use Rattle.packet_format.proofs.Reblocked.{new_elements, new_profile_small}
use Rattle.packet_format.proofs.WholeBytes.{length-whole, padded}

-- ---- what a remasked packet was made of

pub record IsMadeOf (id : ℕ) (force : Option TemplateStructure) (mask : ℕ) (bytes new : List ℕ) : Type 0 where
  pub its_profile : ℕ
  pub profile : profile_of bytes ≡ Some its_profile
  pub descriptor : List ℕ
  pub found : element_of id bytes ≡ Some descriptor
  pub its_parts : PartBits
  pub parts : parts_at descriptor force ≡ Ok its_parts
  pub short : length (whole_bytes (with_mask its_parts mask)) ≤ 255
  pub few : length new ≤ 1536
  pub is : new ≡ with_extension (extension_with its_profile (block_of bytes) id (whole_bytes (with_mask its_parts mask))) bytes

abbrev given : List ℕ → Option (List ℕ)
given bytes = Some bytes

pub not_more : (most : ℕ) (o : Option (List ℕ)) (xs : List ℕ) → at_most most o ≡ Some xs → (o ≡ Some xs) × (length xs ≤ most)
not_more most None xs e = absurd cc
not_more most (Some ys) xs e = by (nat_lt most (length ys)) refl e
  where
    by : (long : Bool) → nat_lt most (length ys) ≡ long → cond long None (given ys) ≡ Some xs → (given ys ≡ Some xs) × (length xs ≤ most)
    by true test e = absurd cc
    by false test e = let same : ys ≡ xs = cc in (e, subst (λ (zs : List ℕ). length zs ≤ most) same (ltb-false most (length ys) test))

pub made_of : (id : ℕ) (force : Option TemplateStructure) (mask : ℕ) (bytes new : List ℕ) → remasked id force mask bytes ≡ Some new → IsMadeOf id force mask bytes new
made_of id force mask bytes new e =
    let fits = not_more 1536 (with_value id (profile_of bytes) (at_most 255 (new_value force mask (element_of id bytes))) bytes) new e in
    at_profile (profile_of bytes) refl (at_most 255 (new_value force mask (element_of id bytes))) refl fits.0 fits.1
  where
    at_parts : (p : ℕ) → profile_of bytes ≡ Some p → (d value : List ℕ) → element_of id bytes ≡ Some d → (r : Result PartBits DdFault) → parts_at d force ≡ r
        → value_with mask r ≡ Some value → length value ≤ 255 → with_extension (extension_with p (block_of bytes) id value) bytes ≡ new → length new ≤ 1536
        → IsMadeOf id force mask bytes new
    at_parts p is_p d value found (Err fault) parts e short is few = absurd cc
    at_parts p is_p d value found (Ok its_parts) parts e short is few =
        let same : value ≡ whole_bytes (with_mask its_parts mask) = cc in
        record {
          its_profile = p;
          profile = is_p;
          descriptor = d;
          found = found;
          its_parts = its_parts;
          parts = parts;
          short = subst (λ (xs : List ℕ). length xs ≤ 255) same short;
          few = few;
          is = sym is ∙ ap (λ (xs : List ℕ). with_extension (extension_with p (block_of bytes) id xs) bytes) same;
        }

    at_element : (p : ℕ) → profile_of bytes ≡ Some p → (value : List ℕ) → (o : Option (List ℕ)) → element_of id bytes ≡ o → new_value force mask o ≡ Some value
        → length value ≤ 255 → with_extension (extension_with p (block_of bytes) id value) bytes ≡ new → length new ≤ 1536 → IsMadeOf id force mask bytes new
    at_element p is_p value None found e short is few = absurd cc
    at_element p is_p value (Some d) found e short is few = at_parts p is_p d value found (parts_at d force) refl e short is few

    at_profile : (o : Option ℕ) → profile_of bytes ≡ o → (v : Option (List ℕ)) → at_most 255 (new_value force mask (element_of id bytes)) ≡ v
        → with_value id o v bytes ≡ Some new → length new ≤ 1536 → IsMadeOf id force mask bytes new
    at_profile None is_o v is_v e few = absurd cc
    at_profile (Some p) is_o None is_v e few = absurd cc
    at_profile (Some p) is_o (Some value) is_v e few =
        let fits = not_more 255 (new_value force mask (element_of id bytes)) value is_v in
        let is : with_extension (extension_with p (block_of bytes) id value) bytes ≡ new = cc in
        at_element p is_o value (element_of id bytes) refl fits.0 fits.1 is few

-- ---- a packet with an element has its header, and an extension

extended_of : (x : Bool) (rest : List ℕ) (p : ℕ) → profile_in x rest ≡ Some p → x ≡ true
extended_of true rest p e = refl
extended_of false rest p e = absurd cc

-- if nothing follows the CSRC list, the profile counts as 0, which stands for no form
none_in_nothing : (id : ℕ) (x : Bool) (rest value : List ℕ) → rest ≡ [] → element_in id (profile_in x rest) (block_in x rest) ≡ Some value → ⊥
none_in_nothing id false rest value none e = cc
none_in_nothing id true rest value none e =
    let nothing : element_in id (profile_in true rest) (block_in true rest) ≡ None = rw none refl in
    cc

pub header_before : (id : ℕ) (bytes value : List ℕ) → element_of id bytes ≡ Some value → 12 + 4 * csrc_count bytes ≤ length bytes
header_before id bytes value found = by (nat_lt (length bytes) (12 + 4 * csrc_count bytes)) refl
  where
    by : (short : Bool) → nat_lt (length bytes) (12 + 4 * csrc_count bytes) ≡ short → 12 + 4 * csrc_count bytes ≤ length bytes
    by false test = ltb-false (length bytes) (12 + 4 * csrc_count bytes) test
    by true test =
        let none = drop_all (12 + 4 * csrc_count bytes) bytes (omega (arith, ltb-true (length bytes) (12 + 4 * csrc_count bytes) test)) in
        absurd (none_in_nothing id (is_extended bytes) (behind_csrcs bytes) value none found)

-- ---- the value has a byte

length-flag : (b : Bool) → length (flag_bits b) ≡ 1
length-flag true = length-bits_of 1 1
length-flag false = length-bits_of 1 0

pub some_bits : (p : PartBits) (mask : ℕ) → 1 ≤ length (with_mask p mask)
some_bits p mask = by p.head (flag_bits p.flags.structure) (flag_bits true ++ (flag_bits p.flags.dtis ++ (flag_bits p.flags.fdiffs ++ flag_bits p.flags.chains))) (p.structure ++ (bits_of p.targets mask ++ p.frame)) (length-flag p.flags.structure)
  where
    by : (a b c d : List Bool) → length b ≡ 1 → 1 ≤ length (a ++ ((b ++ c) ++ d))
    by a b c d one = omega (arith, one, length-append a ((b ++ c) ++ d), length-append (b ++ c) d, length-append b c)

-- ---- the new packet

is_some_of : {A : Type 0} (o : Option A) (x : A) → o ≡ Some x → IsSome o
is_some_of (Some y) x e = refl
is_some_of None x e = absurd cc

pub record IsMade (id : ℕ) (value bytes new : List ℕ) : Type 0 where
  pub packet : IsRemasked id bytes new
  pub found : element_of id new ≡ Some value

pub made : (id : ℕ) (force : Option TemplateStructure) (mask : ℕ) (bytes new : List ℕ) (m : IsMadeOf id force mask bytes new)
    → IsMade id (whole_bytes (with_mask m.its_parts mask)) bytes new
made id force mask bytes new m =
    let p = m.its_profile in
    let value = whole_bytes (with_mask m.its_parts mask) in
    let old = block_of bytes in
    let in_block : (other : ℕ) → element_of other bytes ≡ value_of other (elements_of p old) = λ other. ap (λ (o : Option ℕ). element_in other o old) m.profile in
    let there : IsSome (value_of id (elements_of p old)) = is_some_of (value_of id (elements_of p old)) m.descriptor (sym (in_block id) ∙ m.found) in
    let within : IsBetween 1 255 (length value) = record { low_end = omega (arith, length-whole (with_mask m.its_parts mask), some_bits m.its_parts mask); high_end = m.short } in
    let long = header_before id bytes m.descriptor m.found in
    let x = extended_of (is_extended bytes) (behind_csrcs bytes) p m.profile in
    let block = block_with p old id value in
    let extension = extension_with p old id value in
    let few : length (with_extension extension bytes) ≤ 1536 = subst (λ (xs : List ℕ). length xs ≤ 1536) m.is m.few in
    let whole = whole_words (form_of (profile_for p value)) (replaced id value (elements_of p old)) in
    let e : IsExtended (profile_for p value) block bytes new =
    subst (IsExtended (profile_for p value) block bytes) (sym m.is)
    (extended (profile_for p value) block bytes long x (new_profile_small p id old value there within)
    (omega (arith, few, length-with_extension extension bytes long)) whole) in
    let elements : elements_of (profile_for p value) block ≡ replaced id value (elements_of p old) = new_elements p id old value there within in
    let in_new : (other : ℕ) → element_of other new ≡ value_of other (replaced id value (elements_of p old)) = λ other.
    ap₂ (element_in other) e.profile e.block ∙ ap (value_of other) elements in
    record {
      packet = record {
        few = m.few;
        reads = e.reads;
        front = e.front;
        marker = e.marker;
        payload_type = e.payload_type;
        sequence = e.sequence;
        timestamp = e.timestamp;
        ssrc = e.ssrc;
        csrcs = e.csrcs;
        behind = e.behind;
        payload = e.payload;
        others = λ other apart. in_new other ∙ old_value id other value (elements_of p old) apart ∙ sym (in_block other);
      };
      found = in_new id ∙ value_placed id value (elements_of p old) there;
    }

pub packets_remasked : PacketsAreRemasked
packets_remasked id mask force bytes new e = (made id force mask bytes new (made_of id force mask bytes new e)).packet

-- ---- what it shows

record HasShown (id : ℕ) (force : Option TemplateStructure) (rest : List ℕ) (d : Descriptor TemplateStructure) (its_payload : Payload) : Type 0 where
  reads : (format_of id).descriptor force rest ≡ Reads d
  obeys : obeys_structure (format_of id) force d ≡ true
  payload : (format_of id).payload rest ≡ its_payload

has_shown : (id : ℕ) (force : Option TemplateStructure) (rest : List ℕ) (d : Descriptor TemplateStructure) (payload : Payload)
    → shown (format_of id) force rest ≡ Shows d payload → HasShown id force rest d payload
has_shown id force rest d payload e = by_reading ((format_of id).descriptor force rest) refl e
  where
    by_obeying : (c : Descriptor TemplateStructure) → (format_of id).descriptor force rest ≡ Reads c → (b : Bool) → obeys_structure (format_of id) force c ≡ b
        → cond b (Shows c ((format_of id).payload rest)) Unread ≡ Shows d payload → HasShown id force rest d payload
    by_obeying c is true obeys e =
        let same : c ≡ d = cc in
        record {
          reads = is ∙ ap Reads same;
          obeys = subst (λ (x : Descriptor TemplateStructure). obeys_structure (format_of id) force x ≡ true) same obeys;
          payload = cc;
        }
    by_obeying c is false obeys e = absurd cc

    by_reading : (r : DescriptorReading TemplateStructure) → (format_of id).descriptor force rest ≡ r → shown_by (format_of id) force ((format_of id).payload rest) r ≡ Shows d payload
        → HasShown id force rest d payload
    by_reading NeedsStructure is e = absurd cc
    by_reading Faulty is e = absurd cc
    by_reading (Reads c) is e = by_obeying c is (obeys_structure (format_of id) force c) refl e

-- a descriptor with this structure, carried or in force, is read in the same way with any structure in force that leads to this structure
other_force : (bytes : List ℕ) (force other : Option TemplateStructure) (c : Content) (s : TemplateStructure) → (carried : Option TemplateStructure) → c.structure ≡ carried
    → holding carried force ≡ Some s → holding carried other ≡ Some s → descriptor_at bytes force ≡ Ok c → descriptor_at bytes other ≡ Ok c
other_force bytes force other c s None is h k reads = ap (descriptor_at bytes) (k ∙ sym h) ∙ reads
other_force bytes force other c s (Some t) is h k reads = own_structure bytes force other c t reads is

same_reader : (force carried : Option TemplateStructure) → read_by force carried ≡ holding carried force
same_reader force None = refl
same_reader force (Some s) = refl

held_by_itself : (carried force : Option TemplateStructure) (s : TemplateStructure) → holding carried force ≡ Some s → holding carried (Some s) ≡ Some s
held_by_itself None force s h = refl
held_by_itself (Some t) force s h = h

value_reads : (descriptor : List ℕ) (s : TemplateStructure) (force : Option TemplateStructure) (c : Content) (p : PartBits) (mask : ℕ) → IsWellFormed s → mask < 2 ^ s.target_count
    → holding c.structure force ≡ Some s → descriptor_at descriptor force ≡ Ok c → parts_at descriptor (Some s) ≡ Ok p
    → descriptor_at (whole_bytes (with_mask p mask)) force ≡ Ok (with_new_mask c mask)
value_reads descriptor s force c p mask well small holds reads parts =
    let here = held_by_itself c.structure force s holds in
    let d : IsDescriptor descriptor (Some s) c = descriptor_laid descriptor (Some s) c well (other_force descriptor force (Some s) c s c.structure refl holds here reads) in
    let by : s ≡ d.by = some_is s d.by (sym here ∙ d.holds) in
    let same : laid_parts d.by d.layout c ≡ p = ok_is {E = DdFault} (laid_parts d.by d.layout c) p (sym (parts_laid d.by (Some s) d.layout c descriptor d.holds d.laid) ∙ parts) in
    let bits : with_mask p mask ≡ remasked_descriptor d mask = ap (λ (x : PartBits). with_mask x mask) (sym same) ∙ with_mask-laid d.by d.layout c mask in
    let value = whole_bytes (with_mask p mask) in
    let padded_so : IsPadded (remasked_descriptor d mask) value = subst (λ (b : List Bool). IsPadded b value) bits (padded (with_mask p mask)) in
    let few : mask < 2 ^ d.by.target_count = subst (λ (t : TemplateStructure). mask < 2 ^ t.target_count) by small in
    let new = remasked_is descriptor value (Some s) c mask d few padded_so in
    other_force value (Some s) force (with_new_mask c mask) s c.structure refl here holds
    (laid_again new.by (Some s) new.layout (with_new_mask c mask) value new.holds new.laid)

pub remasked_shows : RemaskedPacketsShow
remasked_shows id mask s force rest new d payload carried small e by e_shown =
    let m = made_of id (Some s) mask rest new e in
    let is = made id (Some s) mask rest new m in
    let old = has_shown id force rest d payload e_shown in
    let read = is_read id force rest d old.reads in
    let same_descriptor : read.bytes ≡ m.descriptor = some_is read.bytes m.descriptor (sym read.found ∙ m.found) in
    let holds : holding read.content.structure force ≡ Some s =
    sym (same_reader force read.content.structure) ∙ ap (λ (x : Descriptor TemplateStructure). read_by force x.structure) read.is ∙ by in
    let value = whole_bytes (with_mask m.its_parts mask) in
    let reads = value_reads m.descriptor s force read.content m.its_parts mask (well_carried id s carried) small holds
    (ap (λ (x : List ℕ). descriptor_at x force) (sym same_descriptor) ∙ read.reads) m.parts in
    let descriptor : (format_of id).descriptor force new ≡ Reads (remasked_as mask d) =
    ap (descriptor_in force) is.found ∙ ap reading_of reads ∙ ap (λ (x : Descriptor TemplateStructure). Reads (remasked_as mask x)) read.is in
    ap₂ (shown_by (format_of id) force) (ap payload_in is.packet.payload ∙ old.payload) descriptor
    ∙ ap (λ (b : Bool). cond b (Shows (remasked_as mask d) payload) Unread) old.obeys

-- if the frame isn't a key frame, its first packet carries its structure or none
structure_first : (id : ℕ) (s : TemplateStructure) (force : Option TemplateStructure) (key : Bool) (d : Descriptor TemplateStructure) → is_key_start d ≡ key → (key ≡ true → d.structure ≡ Some s)
    → obeys_structure (format_of id) force d ≡ true → (key ≡ true) ⊎ (force ≡ Some s) → read_by force d.structure ≡ Some s
structure_first id s force key d is owns obeys (inl begins) = ap (read_by force) (owns begins)
structure_first id s force key d is owns obeys (inr by) =
    elim (or_cases (is_key_start d) (keeps_structure (format_of id) force d.structure) obeys) [
      | inl start ↦ ap (read_by force) (owns (sym is ∙ start))
      | inr keeps ↦ kept d.structure (ap (λ (o : Option TemplateStructure). keeps_structure (format_of id) o d.structure) (sym by) ∙ keeps)
    ]
  where
    kept : (carried : Option TemplateStructure) → keeps_structure (format_of id) (Some s) carried ≡ true → read_by force carried ≡ Some s
    kept None e = by
    kept (Some t) e = ap Some ((same_structure t s).0 e)

pub first_shows : FirstPacketsShow
first_shows id mask s key rest d payload carried small is owns new e shows force which =
    let old = has_shown id force rest d payload (shows force which) in
    remasked_shows id mask s force rest new d payload carried small e (structure_first id s force key d is owns old.obeys which) (shows force which)

pub carried_decides : CarriedStructuresDecide
carried_decides id mask s force other rest d payload may e_shown carries =
    let old = has_shown id force rest d payload e_shown in
    let read = is_read id force rest d old.reads in
    let own : read.content.structure ≡ Some s = ap (λ (x : Descriptor TemplateStructure). x.structure) read.is ∙ carries in
    let by_own : (f : Option TemplateStructure) → holding read.content.structure f ≡ Some s = λ f. ap (λ (o : Option TemplateStructure). holding o f) own in
    let l : IsDescriptor read.bytes force read.content = descriptor_laid read.bytes force read.content (well_in_force id force may) read.reads in
    let same : s ≡ l.by = some_is s l.by (sym (by_own force) ∙ l.holds) in
    let parts : parts_at read.bytes other ≡ parts_at read.bytes force =
    parts_laid l.by other l.layout read.content read.bytes (by_own other ∙ ap (λ (t : TemplateStructure). Some t) same) l.laid
    ∙ sym (parts_laid l.by force l.layout read.content read.bytes l.holds l.laid) in
    ap (λ (v : Option (List ℕ)). at_most 1536 (with_value id (profile_of rest) (at_most 255 v) rest))
    (ap (new_value other mask) read.found ∙ ap (value_with mask) parts ∙ sym (ap (new_value force mask) read.found))
