-- The written bytes are laid out as a descriptor, with the least sizes and followed by zeros.
use Rattle.std.proofs.Common.{◌≡◌, ℕ, ◌-◌, ◌<◌, ◌^◌, Bool, false, cond, List, [], ◌∷◌, ◌++◌, length, map, replicate, Option, Some, None, Ok, refl, sym, ap, subst, ◌∙◌, append_assoc, inl, inr, arith}
use Rattle.std.specs.Prelude.{is_some, IfSome, ◌||◌}
use Rattle.std.specs.List.{flat_map, AllByRecursion}
use Rattle.std.proofs.lemmas.List.{length-append}
use Rattle.std.proofs.lemmas.Bool.{cases_lt, cases_eq, cases_Bool, le-leb, lt-leb, eq-eqb, ne_eqb, or_parts, cond-true, cond-false}
use Rattle.std.proofs.lemmas.Nat.{pow_pos}
use Rattle.dd_bits.specs.Bits.{bits_of, bits_of_bytes}
use Rattle.dd_bits.specs.Writer.{IsPadded}
use Rattle.dd_structure.specs.Spelling.{indication_bits, IsWellFormed}
use Rattle.dd_structure.specs.TemplateStructure.{TemplateStructure}
use Rattle.dd_descriptor.specs.declared.descriptor.Custom.{Custom}
use Rattle.dd_descriptor.specs.Content.{FrameContent, Content, holding}
use Rattle.dd_descriptor.specs.Reading.{descriptor_at}
use Rattle.dd_descriptor.specs.Laid.{Layout, laid_flags, laid_mask, laid_distances, laid_frame, laid_more, laid_bits, IsMask, HoldsDistance, AreSizes, IsLaid}
use Rattle.dd_descriptor.specs.Spelling.{all_active, written_mask, head_bits, has_more, flags_bits, carried_bits, mask_bits, size_of, distance_bits, distances_bits, where_custom, frame_bits, more_bits, descriptor_bits, IsReference, IsWritable, settled_mask, settled}
use Rattle.dd_descriptor.proofs.Again.{length-head_bits, laid_again}
use Rattle.dd_descriptor.proofs.Padding.{length-padded}

-- ---- the least sizes

sized : (d size : ℕ) → size_of d ≡ size → HoldsDistance size d → HoldsDistance (size_of d) d
sized d size is holds = subst (λ (n : ℕ). HoldsDistance n d) (sym is) holds

has_size : (d : ℕ) → IsReference d → HoldsDistance (size_of d) d
has_size d h =
    elim (cases_lt 16 d) [
      | inl big ↦
          elim (cases_lt 256 d) [
            | inl greater ↦ sized d 3 (rw (lt-leb d 16 big, lt-leb d 256 greater) refl) (omega arith, omega arith, h.0, omega (arith, h.1))
            | inr le ↦ sized d 2 (rw (lt-leb d 16 big, le-leb d 256 le) refl) (omega arith, omega arith, h.0, omega arith)
          ]
      | inr le ↦ sized d 1 (rw (le-leb d 16 le) refl) (omega arith, omega arith, h.0, omega arith)
    ]

least_sizes : (ds : List ℕ) → AllByRecursion IsReference ds → AreSizes (map size_of ds) ds
least_sizes [] all = tt
least_sizes (d ∷ ds) all = (has_size d all.0, least_sizes ds all.1)

distances_laid : (ds : List ℕ) → laid_distances (map size_of ds) ds ≡ distances_bits ds
distances_laid [] = refl
distances_laid (d ∷ ds) = ap (λ (t : List Bool). distance_bits d ++ t) (distances_laid ds) ∙ sym (append_assoc (distance_bits d) (flat_map distance_bits ds) (bits_of 2 0))

frame_laid : (custom : Custom) (f : FrameContent) → laid_frame (map size_of f.distances) custom f ≡ frame_bits custom f
unfolding laid_frame frame_bits
frame_laid custom f =
    ap (λ (t : List Bool). where_custom custom.dtis (flat_map indication_bits f.indications) ++ (where_custom custom.fdiffs t ++ where_custom custom.chains (flat_map (bits_of 8) f.links))) (distances_laid f.distances)

-- ---- the mask

mask_settled : (o : Option TemplateStructure) (mask : Option ℕ) → IsMask (is_some (written_mask o mask)) o (settled_mask o mask)
mask_settled None None = refl
mask_settled None (Some mask) = refl
mask_settled (Some t) None = refl
mask_settled (Some t) (Some mask) =
    elim (cases_eq mask (all_active t)) [
      | inl same ↦ rw (eq-eqb mask (all_active t) same, same) refl
      | inr other ↦ rw (ne_eqb mask (all_active t) other) refl
    ]

mask_laid : (targets : ℕ) (o : Option TemplateStructure) (mask : Option ℕ) → laid_mask targets (is_some (written_mask o mask)) (settled_mask o mask) ≡ mask_bits targets (written_mask o mask)
mask_laid targets None None = refl
mask_laid targets None (Some mask) = refl
mask_laid targets (Some t) None = refl
mask_laid targets (Some t) (Some mask) =
    elim (cases_eq mask (all_active t)) [
      | inl same ↦ rw (eq-eqb mask (all_active t) same) refl
      | inr other ↦ rw (ne_eqb mask (all_active t) other) refl
    ]

mask_small : (o force : Option TemplateStructure) (s : TemplateStructure) (mask : Option ℕ) → holding o force ≡ Some s → IfSome mask (λ mask. mask < 2 ^ s.target_count) → IfSome (settled_mask o mask) (λ mask. mask < 2 ^ s.target_count)
mask_small None force s None holds small = tt
mask_small None force s (Some mask) holds small = small
mask_small (Some t) force s (Some mask) holds small = small
mask_small (Some t) force s None holds small =
    let same : s ≡ t = cc in
    subst (λ (x : TemplateStructure). 2 ^ x.target_count - 1 < 2 ^ s.target_count) same (omega (arith, pow_pos s.target_count))

-- ---- if nothing more follows

none_is : {A : Type 0} (o : Option A) → is_some o ≡ false → o ≡ None
none_is None e = refl
none_is (Some x) e = absurd cc

record HasNoMore (c : Content) : Type 0 where
  structure : c.structure ≡ None
  mask : c.mask ≡ None
  dtis : c.custom.dtis ≡ false
  fdiffs : c.custom.fdiffs ≡ false
  chains : c.custom.chains ≡ false

no_more : (c : Content) → has_more c ≡ false → HasNoMore c
no_more c e =
    let a = or_parts (is_some c.structure || is_some c.mask || c.custom.dtis || c.custom.fdiffs) c.custom.chains e in
    let b = or_parts (is_some c.structure || is_some c.mask || c.custom.dtis) c.custom.fdiffs a.0 in
    let d = or_parts (is_some c.structure || is_some c.mask) c.custom.dtis b.0 in
    let f = or_parts (is_some c.structure) (is_some c.mask) d.0 in
    record { structure = none_is c.structure f.0; mask = none_is c.mask f.1; dtis = d.1; fdiffs = b.1; chains = a.1 }

-- ---- the whole

abbrev layout_of : Content → ℕ → Layout
layout_of c zeros = record { is_long = has_more c; has_mask = is_some (written_mask c.structure c.mask); sizes = map size_of c.frame.distances; behind = replicate zeros false }

more_laid : (targets : ℕ) (c : Content) (zeros : ℕ) → laid_more targets (layout_of c zeros) (settled c) ≡ more_bits targets c ++ replicate zeros false
unfolding laid_more more_bits laid_flags flags_bits
more_laid targets c zeros =
    rw (mask_laid targets c.structure c.mask, frame_laid c.custom c.frame) (sym (regrouped (laid_flags (is_some (written_mask c.structure c.mask)) (settled c)) (carried_bits c.structure) (mask_bits targets (written_mask c.structure c.mask)) (frame_bits c.custom c.frame) (replicate zeros false)))
  where
    regrouped : (a b d e rest : List Bool) → (a ++ (b ++ (d ++ e))) ++ rest ≡ a ++ (b ++ (d ++ (e ++ rest)))
    regrouped a b d e rest = simp append_assoc

zeros_none : (s : TemplateStructure) (c : Content) (bytes : List ℕ) → (padded : IsPadded (descriptor_bits s c) bytes) → has_more c ≡ false → padded.zeros ≡ 0
unfolding descriptor_bits
zeros_none s c bytes padded less =
    omega (arith, length-padded (descriptor_bits s c) bytes padded, length-append (head_bits c) (cond (has_more c) (more_bits s.target_count c) []), ap length (cond-false (has_more c) (more_bits s.target_count c) [] less), length-head_bits c, padded.few)

no_zeros : (s : TemplateStructure) (c : Content) (bytes : List ℕ) → (padded : IsPadded (descriptor_bits s c) bytes) → has_more c ≡ false → replicate padded.zeros false ≡ []
no_zeros s c bytes padded less = rw (zeros_none s c bytes padded less) refl

all_laid : (s : TemplateStructure) (c : Content) (bytes : List ℕ) → (padded : IsPadded (descriptor_bits s c) bytes) → bits_of_bytes bytes ≡ laid_bits s.target_count (layout_of c padded.zeros) (settled c)
unfolding descriptor_bits laid_bits
all_laid s c bytes padded =
    elim (cases_Bool (has_more c)) [
      | inl more ↦
          let tail = cond-true (has_more c) (more_bits s.target_count c) [] more in
          let laid = cond-true (has_more c) (laid_more s.target_count (layout_of c padded.zeros) (settled c)) [] more in
          padded.holds ∙ append_assoc (head_bits c) (cond (has_more c) (more_bits s.target_count c) []) (replicate padded.zeros false)
          ∙ ap (λ (t : List Bool). head_bits c ++ t) (ap (λ (t : List Bool). t ++ replicate padded.zeros false) tail ∙ sym (more_laid s.target_count c padded.zeros) ∙ sym laid)
      | inr less ↦
          let tail = cond-false (has_more c) (more_bits s.target_count c) [] less in
          let laid = cond-false (has_more c) (laid_more s.target_count (layout_of c padded.zeros) (settled c)) [] less in
          padded.holds ∙ append_assoc (head_bits c) (cond (has_more c) (more_bits s.target_count c) []) (replicate padded.zeros false)
          ∙ ap (λ (t : List Bool). head_bits c ++ t) (ap (λ (t : List Bool). t ++ replicate padded.zeros false) tail ∙ no_zeros s c bytes padded less ∙ sym laid)
    ]

pub written_laid : (s : TemplateStructure) (force : Option TemplateStructure) (c : Content) (bytes : List ℕ) → holding c.structure force ≡ Some s → IsWellFormed s → IsWritable s c → (padded : IsPadded (descriptor_bits s c) bytes)
    → IsLaid s (layout_of c padded.zeros) (settled c) bytes
written_laid s force c bytes holds well w padded = record {
  ranges = record { template = w.template; number = w.number; index = w.index; mask = mask_small c.structure force s c.mask holds w.mask; frame = w.frame };
  structure = own_well c.structure force s holds well;
  mask = mask_settled c.structure c.mask;
  sizes = λ own. least_sizes c.frame.distances w.frame.distances;
  short = λ less.
      let none = no_more c less in
      record {
        structure = none.structure;
        mask = rw (none.structure, none.mask) refl;
        dtis = none.dtis;
        fdiffs = none.fdiffs;
        chains = none.chains;
        behind = no_zeros s c bytes padded less;
      };
  bits = all_laid s c bytes padded;
}
  where
    own_well : (o force : Option TemplateStructure) (s : TemplateStructure) → holding o force ≡ Some s → IsWellFormed s → IfSome o IsWellFormed
    own_well None force s holds well = tt
    own_well (Some t) force s holds well = let same : s ≡ t = cc in subst IsWellFormed same well

pub descriptor_again : (s : TemplateStructure) (force : Option TemplateStructure) (c : Content) (bytes : List ℕ) → holding c.structure force ≡ Some s → IsWellFormed s → IsWritable s c → IsPadded (descriptor_bits s c) bytes
    → descriptor_at bytes force ≡ Ok (settled c)
descriptor_again s force c bytes holds well w padded = laid_again s force (layout_of c padded.zeros) (settled c) bytes holds (written_laid s force c bytes holds well w padded)
