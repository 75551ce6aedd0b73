-- A descriptor that says which decode targets are active has a mask; and a new value is a descriptor with another mask.
use Rattle.std.proofs.Common.{◌≡◌, ◌<◌, ◌≤◌, ℕ, suc, ◌+◌, ◌-◌, ◌*◌, ◌/◌, ◌%◌, ◌^◌, Bool, true, false, if◌then◌else◌, eqb, List, [], ◌∷◌, ◌++◌, length, drop, Option, None, Some, Result, Ok, Err, refl, sym, ap, subst, ◌∙◌, inl, inr, ◌⊎◌, arith}
use Rattle.std.specs.Prelude.{◌||◌, is_some, nat_le, nat_lt, slice_index}
use Rattle.std.proofs.lemmas.Bool.{cases_Bool, cases_lt, eq-eqb, eqb-false, le-leb, lt-leb, lt-ltb, ne_eqb}
use Rattle.std.proofs.lemmas.List.{drop_at, length-append}
use Rattle.std.proofs.Common.{append_assoc}
use Rattle.sfu_base.specs.Bytes.{AreBytes}
use Rattle.dd_bits.specs.Bits.{bits_of, bits_of_bytes}
use Rattle.dd_bits.proofs.Values.{length-bits_of}
use Rattle.dd_bits.proofs.SequenceLaws.{bind_is, bind_then, ok_is}
use Rattle.dd_structure.specs.Reading.{structure_at}
use Rattle.dd_structure.specs.TemplateStructure.{TemplateStructure}
use Rattle.dd_descriptor.specs.declared.fault.DdFault.{DdFault}
use Rattle.dd_descriptor.specs.declared.parts.Flags.{Flags}
use Rattle.dd_descriptor.specs.declared.parts.Head.{Head}
use Rattle.dd_descriptor.specs.Content.{Content, FrameContent}
use Rattle.dd_descriptor.specs.Laid.{IsDescriptor}
use Rattle.dd_descriptor.specs.Parts.{parts_at, with_mask}
use Rattle.dd_descriptor.specs.Reading.{body_at, carried_at, custom_of, descriptor_at, flag_at, flags_at, flags_in, frame_at, head_at, held, held_body_at, index_at, inside, mask_at, no_flags, number_at}
use Rattle.dd_descriptor.specs.Remasking.{remasked}
use Rattle.dd_descriptor.specs.Spelling.{flag_bits}
use Rattle.dd_descriptor.proofs.Again.{flag_again}
use Rattle.dd_descriptor.proofs.LaidFound.{content_from, head_laid, length-flag_bits}
use Rattle.dd_descriptor.proofs.Remasked.{laid_parts, parts_laid, with_mask-laid}
use Rattle.packet_format.specs.Remasked.{new_value, value_with}
use Rattle.packet_format.specs.CarriedMask.{carries_mask_in}
use Rattle.packet_format.specs.WholeBytes.{whole_bytes}

pub new_value_laid : (bytes : List ℕ) (force : Option TemplateStructure) (c : Content) (mask : ℕ) → (d : IsDescriptor bytes force c) → new_value force mask (Some bytes) ≡ Some (whole_bytes (remasked d mask))
new_value_laid bytes force c mask d =
    ap (value_with mask) (parts_laid d.by force d.layout c bytes d.holds d.laid) ∙ ap (λ (bits : List Bool). Some (whole_bytes bits)) (with_mask-laid d.by d.layout c mask)

-- ---- the flags

carried_some : (p : Bool) (bits : List Bool) (x : Option TemplateStructure × List Bool) → carried_at p bits ≡ Ok x → is_some x.0 ≡ p
unfolding carried_at
carried_some false bits x e = ap (λ (y : Option TemplateStructure × List Bool). is_some y.0) (sym (ok_is {E = DdFault} (None, bits) x e))
carried_some true bits x e =
    bind_then (inside (structure_at bits)) _ x e (λ s es e1. ap (λ (y : Option TemplateStructure × List Bool). is_some y.0) (sym (ok_is {E = DdFault} (Some s.0, s.1) x e1)))

mask_some : (m carries : Bool) (targets : ℕ) (bits : List Bool) (x : Option ℕ × List Bool) → mask_at m carries targets bits ≡ Ok x → is_some x.0 ≡ (m || carries)
unfolding mask_at
mask_some true carries targets bits x e =
    bind_then (number_at targets bits) _ x e (λ mask em e1. ap (λ (y : Option ℕ × List Bool). is_some y.0) (sym (ok_is {E = DdFault} (Some mask.0, mask.1) x e1)))
mask_some false true targets bits x e = ap (λ (y : Option ℕ × List Bool). is_some y.0) (sym (ok_is {E = DdFault} (Some (2 ^ targets - 1), bits) x e))
mask_some false false targets bits x e = ap (λ (y : Option ℕ × List Bool). is_some y.0) (sym (ok_is {E = DdFault} (None, bits) x e))

one_flag : (x : Bool) (rest : List Bool) → flag_at (x ∷ rest) ≡ Ok (x, rest)
unfolding bits_of
one_flag true rest = flag_again true rest
one_flag false rest = flag_again false rest

first_flags : (x y : Bool) (rest : List Bool) (f : Flags × List Bool) → flags_at (x ∷ y ∷ rest) ≡ Ok f → (f.0.structure ≡ x) × (f.0.mask ≡ y)
unfolding flags_at
first_flags x y rest f e0 =
    bind_then (flag_at (x ∷ y ∷ rest)) _ f e0 (λ a ea e1.
    bind_then (flag_at a.1) _ f e1 (λ b eb e2.
    bind_then (flag_at b.1) _ f e2 (λ c ec e3.
    bind_then (flag_at c.1) _ f e3 (λ d ed e4.
    bind_then (flag_at d.1) _ f e4 (λ g eg e5.
    let is = ok_is {E = DdFault} (record { structure = a.0; mask = b.0; dtis = c.0; fdiffs = d.0; chains = g.0 }, g.1) f e5 in
    let first = ok_is {E = DdFault} a (x, y ∷ rest) (sym ea ∙ one_flag x (y ∷ rest)) in
    let second = ok_is {E = DdFault} b (y, rest) (sym eb ∙ ap (λ (p : Bool × List Bool). flag_at p.1) first ∙ one_flag y rest) in (
      ap (λ (p : Flags × List Bool). p.0.structure) (sym is) ∙ ap (λ (p : Bool × List Bool). p.0) first,
      ap (λ (p : Flags × List Bool). p.0.mask) (sym is) ∙ ap (λ (p : Bool × List Bool). p.0) second,
    ))))))

-- the two highest bits of a byte say whether it is at least 64
two_bits : (d : ℕ) → d < 256 → nat_le 64 d ≡ (eqb (d / 64 % 2) 1 || eqb (d / 128 % 2) 1)
two_bits d small = go (cases_lt d 64) (cases_Bool (eqb (d / 64 % 2) 1))
  where
    go : (d < 64) ⊎ (64 ≤ d) → (eqb (d / 64 % 2) 1 ≡ true) ⊎ (eqb (d / 64 % 2) 1 ≡ false) → nat_le 64 d ≡ (eqb (d / 64 % 2) 1 || eqb (d / 128 % 2) 1)
    go (inl less) some =
        rw (lt-leb 64 d less, ne_eqb (d / 64 % 2) 1 (λ h. absurd (omega (arith, h, less))), ne_eqb (d / 128 % 2) 1 (λ h. absurd (omega (arith, h, less)))) refl
    go (inr more) (inl one) = rw (le-leb 64 d more, one) refl
    go (inr more) (inr none) =
        rw (le-leb 64 d more, none, eq-eqb (d / 128 % 2) 1 (omega (arith, small, more, eqb-false (d / 64 % 2) 1 none))) refl

-- ---- the fourth byte

three_bytes : (a b c : ℕ) (rest : List ℕ) → drop 24 (bits_of_bytes (a ∷ b ∷ c ∷ rest)) ≡ bits_of_bytes rest
unfolding bits_of_bytes
three_bytes a b c rest =
    let front : List Bool = bits_of 8 a ++ (bits_of 8 b ++ bits_of 8 c) in
    let same : bits_of 8 a ++ (bits_of 8 b ++ (bits_of 8 c ++ bits_of_bytes rest)) ≡ front ++ bits_of_bytes rest = simp append_assoc in
    let len : length front ≡ 24 = omega (arith, length-append (bits_of 8 a) (bits_of 8 b ++ bits_of 8 c), length-append (bits_of 8 b) (bits_of 8 c), length-bits_of 8 a, length-bits_of 8 b, length-bits_of 8 c) in
    ap (drop 24) same ∙ drop_at front (bits_of_bytes rest) 24 len

behind_head : (bits : List Bool) (x : Head × List Bool) → head_at bits ≡ Ok x → x.1 ≡ drop 24 bits
behind_head bits x e =
    let front : List Bool = flag_bits x.0.start ++ (flag_bits x.0.end ++ (bits_of 6 x.0.template ++ bits_of 16 x.0.number)) in
    let same : flag_bits x.0.start ++ (flag_bits x.0.end ++ (bits_of 6 x.0.template ++ (bits_of 16 x.0.number ++ x.1))) ≡ front ++ x.1 = simp append_assoc in
    let len : length front ≡ 24 = omega (
      arith,
      length-append (flag_bits x.0.start) (flag_bits x.0.end ++ (bits_of 6 x.0.template ++ bits_of 16 x.0.number)),
      length-append (flag_bits x.0.end) (bits_of 6 x.0.template ++ bits_of 16 x.0.number),
      length-append (bits_of 6 x.0.template) (bits_of 16 x.0.number),
      length-flag_bits x.0.start,
      length-flag_bits x.0.end,
      length-bits_of 6 x.0.template,
      length-bits_of 16 x.0.number,
    ) in
    sym (ap (drop 24) (head_laid bits x e ∙ same) ∙ drop_at front x.1 24 len)

-- a structure or a mask is carried exactly if one of the first two flags is set
flags_carry_mask : (bytes : List ℕ) (x : Head × List Bool) (f : Flags × List Bool) → AreBytes bytes → head_at (bits_of_bytes bytes) ≡ Ok x → flags_in (length bytes) x.1 ≡ Ok f
    → carries_mask_in (Some bytes) ≡ (f.0.mask || f.0.structure)
unfolding flags_in bits_of bits_of_bytes
flags_carry_mask [] x f are eh ef = ap (λ (p : Flags × List Bool). p.0.mask || p.0.structure) (ok_is {E = DdFault} (no_flags, x.1) f ef)
flags_carry_mask (a ∷ []) x f are eh ef = ap (λ (p : Flags × List Bool). p.0.mask || p.0.structure) (ok_is {E = DdFault} (no_flags, x.1) f ef)
flags_carry_mask (a ∷ b ∷ []) x f are eh ef = ap (λ (p : Flags × List Bool). p.0.mask || p.0.structure) (ok_is {E = DdFault} (no_flags, x.1) f ef)
flags_carry_mask (a ∷ b ∷ c ∷ []) x f are eh ef = ap (λ (p : Flags × List Bool). p.0.mask || p.0.structure) (ok_is {E = DdFault} (no_flags, x.1) f ef)
flags_carry_mask (a ∷ b ∷ c ∷ d ∷ rest) x f are eh ef =
    let long = lt-ltb 3 (length (a ∷ b ∷ c ∷ d ∷ rest)) (omega arith) in
    let bits : x.1 ≡ bits_of_bytes (d ∷ rest) = behind_head (bits_of_bytes (a ∷ b ∷ c ∷ d ∷ rest)) x eh ∙ three_bytes a b c (d ∷ rest) in
    let read : flags_at x.1 ≡ Ok f = ap (λ (p : Bool). if p then flags_at x.1 else Ok (no_flags, x.1)) (sym long) ∙ ef in
    let here : flags_at (bits_of 8 d ++ bits_of_bytes rest) ≡ Ok f = ap flags_at (sym bits) ∙ read in
    let found = first_flags (eqb (d / 128 % 2) 1) (eqb (d / 64 % 2) 1) (bits_of 6 d ++ bits_of_bytes rest) f here in
    rw (long, found.0, found.1) (two_bits d (are 3))

pub descriptors_carry_mask : (bytes : List ℕ) (force : Option TemplateStructure) (c : Content) → AreBytes bytes → descriptor_at bytes force ≡ Ok c → carries_mask_in (Some bytes) ≡ is_some c.mask
unfolding descriptor_at held_body_at body_at
descriptors_carry_mask bytes force c are e0 =
    bind_then (head_at (bits_of_bytes bytes)) _ c e0 (λ head eh e1.
    bind_then (flags_in (length bytes) head.1) _ c e1 (λ flags ef e2.
    bind_then (carried_at flags.0.structure flags.1) _ c e2 (λ carried ec e3.
    bind_then (held_body_at head.0.template flags.0 carried.0 force carried.1) _ c e3 (λ body eb e4.
    bind_then (held carried.0 force) _ body eb (λ s es e5.
    bind_then (mask_at flags.0.mask (is_some carried.0) s.target_count carried.1) _ body e5 (λ mask em e6.
    bind_then (index_at head.0.template s) _ body e6 (λ index ei e7.
    bind_then (frame_at flags.0 s index mask.1) _ body e7 (λ frame ek e8.
    flags_carry_mask bytes head flags are eh ef
    ∙ ap (λ (b : Bool). flags.0.mask || b) (sym (carried_some flags.0.structure flags.1 carried ec))
    ∙ sym (mask_some flags.0.mask (is_some carried.0) s.target_count carried.1 mask em)
    ∙ ap (λ (y : (Option ℕ × FrameContent) × List Bool). is_some y.0.0) (ok_is {E = DdFault} ((mask.0, frame.0), frame.1) body e8)
    ∙ ap (λ (y : Content). is_some y.mask) (ok_is {E = DdFault} (content_from head.0 flags.0 carried.0 body.0) c e4)))))))))
