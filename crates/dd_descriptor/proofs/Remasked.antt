-- A remasked descriptor has the parts of the old one, and is read as the old one except for its mask.
use Rattle.std.proofs.Common.{◌≡◌, ℕ, ◌+◌, ◌-◌, ◌*◌, ◌<◌, ◌^◌, Bool, true, false, List, ◌++◌, length, replicate, Option, Some, None, Result, Ok, Err, refl, sym, ap, subst, ◌∙◌, append_assoc, arith}
use Rattle.std.specs.Prelude.{is_some, IfSome, IsErr, OnErr, OnOk, ◌↔◌, ◌≤◌}
use Rattle.std.proofs.lemmas.List.{length-append, take_at}
use Rattle.dd_bits.specs.Bits.{bits_of, bits_of_bytes}
use Rattle.dd_bits.specs.Writer.{IsPadded}
use Rattle.dd_bits.proofs.Bytes.{length-bits_of_bytes}
use Rattle.dd_bits.proofs.SequenceLaws.{bind_is, ok_is, some_is}
use Rattle.dd_structure.specs.Spelling.{IsWellFormed}
use Rattle.dd_structure.specs.TemplateStructure.{TemplateStructure}
use Rattle.dd_descriptor.specs.declared.fault.DdFault.{DdFault}
use Rattle.dd_descriptor.specs.declared.descriptor.Custom.{Custom}
use Rattle.dd_descriptor.specs.Content.{FrameContent, Content, holding}
use Rattle.dd_descriptor.specs.Parts.{MakesBytes, MakesNone, PartBits, taken, body_parts_at, held_parts_at, parts_at, with_mask}
use Rattle.dd_descriptor.specs.Reading.{head_at, flags_in, carried_at, mask_at, index_of, index_at, frame_at, descriptor_at}
use Rattle.dd_descriptor.specs.Laid.{Layout, laid_flags, laid_mask, laid_frame, laid_more, laid_bits, IsMask, AreSizes, IsLaid, IsDescriptor}
use Rattle.dd_descriptor.specs.Remasking.{remasked_bits, remasked, with_new_mask, TakesMask}
use Rattle.dd_descriptor.specs.Spelling.{head_bits, carried_bits, IsFrame, IsWritable}
use Rattle.dd_descriptor.proofs.Again.{flags_of, after_flags, tail_of, head_again, length-head_bits, flags_either, carried_again, mask_again, index_again, frame_again, laid_again}
use Rattle.dd_descriptor.proofs.LaidFound.{descriptor_laid}
use Rattle.dd_descriptor.proofs.Padding.{not_too_long}

-- ---- the parts

taken_front : (front rest : List Bool) → taken (front ++ rest) rest ≡ front
taken_front front rest =
    let count : length (front ++ rest) - length rest ≡ length front = omega (arith, length-append front rest) in
    rw count (take_at front rest (length front) refl)

body_parts_again : (template : ℕ) (s : TemplateStructure) (carries : Bool) (has_mask : Bool) (mask : Option ℕ) (custom : Custom) (f : FrameContent) (sizes : List ℕ) (bits rest : List Bool)
    → mask_at has_mask carries s.target_count (bits ++ (laid_frame sizes custom f ++ rest)) ≡ Ok (mask, laid_frame sizes custom f ++ rest) → index_of template s.offset < length s.templates → IsFrame s (index_of template s.offset) custom f
    → (custom.fdiffs ≡ true → AreSizes sizes f.distances)
    → body_parts_at template (record { structure = carries; mask = has_mask; dtis = custom.dtis; fdiffs = custom.fdiffs; chains = custom.chains }) carries s (bits ++ (laid_frame sizes custom f ++ rest)) ≡ Ok ((s.target_count, laid_frame sizes custom f), rest)
unfolding body_parts_at
body_parts_again template s carries has_mask mask custom f sizes bits rest read lt is are =
    bind_is (mask_at has_mask carries s.target_count _) _ _ _ read (
    bind_is (index_at template s) _ _ _ (index_again template s lt) (
    bind_is (frame_at _ s (index_of template s.offset) _) _ _ _ (frame_again s (index_of template s.offset) carries has_mask custom f sizes rest is are) (rw (taken_front (laid_frame sizes custom f) rest) refl)))

held_parts_again : (o force : Option TemplateStructure) (s : TemplateStructure) (l : Layout) (c : Content) → holding o force ≡ Some s → IsWritable s c → IsMask l.has_mask o c.mask → (c.custom.fdiffs ≡ true → AreSizes l.sizes c.frame.distances)
    → held_parts_at c.template (record { structure = is_some o; mask = l.has_mask; dtis = c.custom.dtis; fdiffs = c.custom.fdiffs; chains = c.custom.chains }) o force (laid_mask s.target_count l.has_mask c.mask ++ (laid_frame l.sizes c.custom c.frame ++ l.behind))
    ≡ Ok ((s.target_count, laid_frame l.sizes c.custom c.frame), l.behind)
unfolding held_parts_at
held_parts_again None force s l c holds w is are =
    rw holds (body_parts_again c.template s false l.has_mask c.mask c.custom c.frame l.sizes (laid_mask s.target_count l.has_mask c.mask) l.behind
    (mask_again l.has_mask None c.mask s.target_count (laid_frame l.sizes c.custom c.frame ++ l.behind) (λ t none. absurd cc) w.mask is) w.index w.frame are)
held_parts_again (Some t) force s l c holds w is are =
    let same : s ≡ t = cc in
    let here : IsMask l.has_mask (Some s) c.mask = subst (λ (x : TemplateStructure). IsMask l.has_mask (Some x) c.mask) (sym same) is in
    let P : TemplateStructure → Type 0 = λ x. body_parts_at c.template (record { structure = true; mask = l.has_mask; dtis = c.custom.dtis; fdiffs = c.custom.fdiffs; chains = c.custom.chains }) true x (laid_mask s.target_count l.has_mask c.mask ++ (laid_frame l.sizes c.custom c.frame ++ l.behind)) ≡ Ok ((s.target_count, laid_frame l.sizes c.custom c.frame), l.behind) in
    subst P same (body_parts_again c.template s true l.has_mask c.mask c.custom c.frame l.sizes (laid_mask s.target_count l.has_mask c.mask) l.behind
    (mask_again l.has_mask (Some s) c.mask s.target_count (laid_frame l.sizes c.custom c.frame ++ l.behind) (λ u is. ap (λ (x : TemplateStructure). x.target_count) (some_is s u is)) w.mask here) w.index w.frame are)

abbrev pub laid_parts : TemplateStructure → Layout → Content → PartBits
laid_parts s l c = record { head = head_bits c; flags = flags_of l.has_mask c; structure = carried_bits c.structure; targets = s.target_count; frame = laid_frame l.sizes c.custom c.frame }

pub parts_laid : (s : TemplateStructure) (force : Option TemplateStructure) (l : Layout) (c : Content) (bytes : List ℕ) → holding c.structure force ≡ Some s → IsLaid s l c bytes → parts_at bytes force ≡ Ok (laid_parts s l c)
unfolding parts_at laid_bits
parts_laid s force l c bytes holds laid =
    let tail = tail_of s.target_count l c in
    let rest = laid_mask s.target_count l.has_mask c.mask ++ (laid_frame l.sizes c.custom c.frame ++ l.behind) in
    let len : 8 * length bytes ≡ 24 + length tail = omega (arith, ap length laid.bits, length-bits_of_bytes bytes, length-append (head_bits c) tail, length-head_bits c) in
    let head : taken (bits_of_bytes bytes) tail ≡ head_bits c = ap (λ (t : List Bool). taken t tail) laid.bits ∙ taken_front (head_bits c) tail in
    bind_is (head_at (bits_of_bytes bytes)) _ _ _ (ap head_at laid.bits ∙ head_again c tail laid.ranges.template laid.ranges.number) (
    bind_is (flags_in (length bytes) tail) _ _ _ (flags_either s.target_count (length bytes) l c laid.short len) (
    bind_is (carried_at (is_some c.structure) (after_flags s.target_count l c)) _ _ _ (carried_again c.structure rest laid.structure) (
    bind_is (held_parts_at c.template (flags_of l.has_mask c) c.structure force rest) _ _ _ (held_parts_again c.structure force s l c holds laid.ranges laid.mask laid.sizes) (
    rw (head, taken_front (carried_bits c.structure) rest) refl))))

-- the parts make the new descriptor
pub with_mask-laid : (s : TemplateStructure) (l : Layout) (c : Content) (mask : ℕ) → with_mask (laid_parts s l c) mask ≡ remasked_bits s l c mask
unfolding remasked_bits laid_flags
with_mask-laid s l c mask = refl

-- ---- what is read

pub remasked_laid : (s : TemplateStructure) (l : Layout) (c : Content) (mask : ℕ) (bytes out : List ℕ) → IsLaid s l c bytes → mask < 2 ^ s.target_count → (padded : IsPadded (remasked_bits s l c mask) out)
    → IsLaid s (record { is_long = true; has_mask = true; sizes = l.sizes; behind = replicate padded.zeros false }) (with_new_mask c mask) out
unfolding remasked_bits laid_bits laid_more laid_flags
remasked_laid s l c mask bytes out laid small padded = record {
  ranges = record { template = laid.ranges.template; number = laid.ranges.number; index = laid.ranges.index; mask = small; frame = laid.ranges.frame };
  structure = laid.structure;
  mask = refl;
  sizes = laid.sizes;
  short = λ less. absurd cc;
  bits = padded.holds ∙ regrouped (head_bits c) (laid_flags true c) (carried_bits c.structure) (bits_of s.target_count mask) (laid_frame l.sizes c.custom c.frame) (replicate padded.zeros false);
}
  where
    regrouped : (a b d e f rest : List Bool) → (a ++ (b ++ (d ++ (e ++ f)))) ++ rest ≡ a ++ (b ++ (d ++ (e ++ (f ++ rest))))
    regrouped a b d e f rest = simp append_assoc

pub remasked_is : (bytes out : List ℕ) (force : Option TemplateStructure) (c : Content) (mask : ℕ) → (d : IsDescriptor bytes force c) → mask < 2 ^ d.by.target_count → IsPadded (remasked d mask) out → IsDescriptor out force (with_new_mask c mask)
remasked_is bytes out force c mask d small padded = record {
  by = d.by;
  layout = record { is_long = true; has_mask = true; sizes = d.layout.sizes; behind = replicate padded.zeros false };
  holds = d.holds;
  laid = remasked_laid d.by d.layout c mask bytes out d.laid small padded;
}

-- ---- what the code fills in

-- the parts of a descriptor, as they were found
at_parts : (P : Result PartBits DdFault → Type 0) (bytes : List ℕ) (force : Option TemplateStructure) (c : Content) (d : IsDescriptor bytes force c) → P (parts_at bytes force) → P (Ok (laid_parts d.by d.layout c))
at_parts P bytes force c d p = subst P (parts_laid d.by force d.layout c bytes d.holds d.laid) p

pub made_is : (bytes out : List ℕ) (force : Option TemplateStructure) (mask : ℕ) (c : Content) → (d : IsDescriptor bytes force c) → MakesBytes (parts_at bytes force) mask out → IsPadded (remasked d mask) out
made_is bytes out force mask c d made =
    let here = at_parts (λ r. MakesBytes r mask out) bytes force c d made in
    subst (λ (bits : List Bool). IsPadded bits out) (with_mask-laid d.by d.layout c mask) here.0

pub made_fits : (bytes out : List ℕ) (force : Option TemplateStructure) (mask : ℕ) (c : Content) → (d : IsDescriptor bytes force c) → MakesBytes (parts_at bytes force) mask out → length (remasked d mask) ≤ 8 * 255
made_fits bytes out force mask c d made =
    let here = at_parts (λ r. MakesBytes r mask out) bytes force c d made in
    not_too_long (remasked d mask) out (made_is bytes out force mask c d made) here.1

pub none_is_long : (bytes : List ℕ) (force : Option TemplateStructure) (mask : ℕ) (c : Content) → (d : IsDescriptor bytes force c) → MakesNone (parts_at bytes force) mask → 8 * 255 < length (remasked d mask)
none_is_long bytes force mask c d none =
    let here = at_parts (λ r. MakesNone r mask) bytes force c d none in
    subst (λ (bits : List Bool). 8 * 255 < length bits) (with_mask-laid d.by d.layout c mask) here

-- remasking fails exactly if the bits would be too many
pub fails_where_long : {E : Type 0} (bytes out : List ℕ) (force : Option TemplateStructure) (mask : ℕ) (c : Content) (r : Result (Unit {0}) E) → OnOk r (MakesBytes (parts_at bytes force) mask out) → OnErr r (MakesNone (parts_at bytes force) mask)
    → (d : IsDescriptor bytes force c) → IsErr r ↔ (8 * 255 < length (remasked d mask))
fails_where_long bytes out force mask c (Ok x) made none d = (λ yes. absurd cc, λ long. absurd (omega (arith, made_fits bytes out force mask c d made, long)))
fails_where_long bytes out force mask c (Err e) made none d = (λ yes. none_is_long bytes force mask c d none, λ long. refl)

pub all_made : {E : Type 0} (bytes out : List ℕ) (force : Option TemplateStructure) (mask : ℕ) (c : Content) (r : Result (Unit {0}) E) → OnOk r (MakesBytes (parts_at bytes force) mask out)
    → (d : IsDescriptor bytes force c) → OnOk r (IsPadded (remasked d mask) out)
all_made bytes out force mask c (Ok x) made d = made_is bytes out force mask c d made
all_made bytes out force mask c (Err e) made d = tt

-- the written bytes are read as the same content, except for its mask
pub made_reads : {E : Type 0} (bytes out : List ℕ) (force : Option TemplateStructure) (mask : ℕ) (c : Content) (r : Result (Unit {0}) E) → IfSome force IsWellFormed → TakesMask bytes force mask
    → OnOk r (MakesBytes (parts_at bytes force) mask out) → descriptor_at bytes force ≡ Ok c → OnOk r (descriptor_at out force ≡ Ok (with_new_mask c mask))
made_reads bytes out force mask c (Err e) well takes made reads = tt
made_reads bytes out force mask c (Ok x) well takes made reads =
    let d = descriptor_laid bytes force c well reads in
    let same : takes.content ≡ c = ok_is {E = DdFault} takes.content c (sym takes.reads ∙ reads) in
    let holds : holding c.structure force ≡ Some takes.by = subst (λ (x : Content). holding x.structure force ≡ Some takes.by) same takes.holds in
    let by : takes.by ≡ d.by = some_is takes.by d.by (sym holds ∙ d.holds) in
    let small : mask < 2 ^ d.by.target_count = subst (λ (s : TemplateStructure). mask < 2 ^ s.target_count) by takes.small in
    let new = remasked_is bytes out force c mask d small (made_is bytes out force mask c d made) in
    laid_again new.by force new.layout (with_new_mask c mask) out new.holds new.laid
