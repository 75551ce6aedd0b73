-- A descriptor that was read is laid out as one.
use Rattle.std.proofs.Common.{◌≡◌, ℕ, zero, suc, ◌+◌, ◌-◌, ◌*◌, ◌≤◌, ◌<◌, ◌^◌, Bool, true, false, cond, ltb, eqb, List, [], ◌∷◌, ◌++◌, length, Option, Some, None, Result, Ok, Err, refl, sym, ap, subst, ◌∙◌, append_assoc, inl, inr, arith}
use Rattle.std.specs.Prelude.{is_some, IfSome}
use Rattle.std.specs.List.{flat_map}
use Rattle.std.proofs.lemmas.List.{length-append}
use Rattle.std.proofs.lemmas.Bool.{cases_lt, cases_Bool, eqb-true, ltb-false, cond-true, cond-false}
use Rattle.sfu_base.specs.declared.frame.Dti.{Dti}
use Rattle.sfu_base.specs.Frame.{dti_of}
use Rattle.dd_bits.specs.Bits.{bits_of, bits_of_bytes}
use Rattle.dd_bits.specs.Numbers.{fixed}
use Rattle.dd_bits.specs.Sequences.{◌>>=◌, until_at, repeat_at, going_on}
use Rattle.dd_bits.proofs.Bytes.{length-bits_of_bytes}
use Rattle.dd_bits.proofs.Values.{length-bits_of}
use Rattle.dd_bits.proofs.ReadBack.{fixed_found}
use Rattle.dd_bits.proofs.SequenceLaws.{bind_ok, bind_then, chosen, done, ok_is, or_fault_ok, Takes, repeat_found}
use Rattle.dd_structure.specs.TemplateStructure.{TemplateStructure, template_at}
use Rattle.dd_structure.specs.Reading.{structure_at}
use Rattle.dd_structure.specs.Spelling.{indication_bits, IsWellFormed}
use Rattle.dd_structure.proofs.Found.{structure_found, dti_code-of}
use Rattle.dd_descriptor.specs.declared.descriptor.Custom.{Custom}
use Rattle.dd_descriptor.specs.declared.fault.DdFault.{DdFault}
use Rattle.dd_descriptor.specs.declared.fault.DdFault.TheVariants as faults
use Rattle.dd_descriptor.specs.declared.parts.Head.{Head}
use Rattle.dd_descriptor.specs.declared.parts.Flags.{Flags}
use Rattle.dd_descriptor.specs.Content.{FrameContent, Content, holding}
use Rattle.dd_structure.specs.Reading.{indication_or}
use Rattle.dd_descriptor.specs.Reading.{number_at, flag_at, head_at, flags_at, flags_in, no_flags, inside, carried_at, held, mask_at, index_at, indication_at, next_distance_at, distances_at, custom_or, frame_at, body_at, held_body_at, custom_of, descriptor_at}
use Rattle.dd_descriptor.specs.Spelling.{flag_bits, head_bits, carried_bits, where_custom, IsWritable, IsWritableBy}
use Rattle.dd_descriptor.specs.Laid.{Layout, laid_flags, laid_mask, laid_distance, laid_distances, laid_frame, laid_more, laid_bits, IsMask, HoldsDistance, AreSizes, IsLaid, IsDescriptor}
use Rattle.dd_descriptor.proofs.Found.{inside_ok, carried_found, descriptor_found}

-- ---- numbers and flags

pub number_laid : (n : ℕ) (bits : List Bool) (x : ℕ × List Bool) → number_at n bits ≡ Ok x → Takes (λ v. v < 2 ^ n) (bits_of n) bits x
number_laid n bits x e = let f = fixed_found n x.0 bits x.1 (or_fault_ok faults.Short (fixed n bits) x e) in (f.small, f.spelled)

pub one_bit : (v : ℕ) → v < 2 ^ 1 → bits_of 1 v ≡ flag_bits (eqb v 1)
one_bit v small =
    elim (cases_lt v 1) [
      | inl lt ↦ let is : v ≡ 0 = omega arith in rw is refl
      | inr le ↦ let is : v ≡ 1 = omega arith in rw is refl
    ]

flag_laid : (bits : List Bool) (x : Bool × List Bool) → flag_at bits ≡ Ok x → bits ≡ flag_bits x.0 ++ x.1
unfolding flag_at
flag_laid bits x e =
    let a = bind_ok (number_at 1 bits) (λ n. Ok (eqb n.0 1, n.1)) x e in
    let number = number_laid 1 bits a.0 a.1 in
    subst (λ (y : Bool × List Bool). bits ≡ flag_bits y.0 ++ y.1) (ok_is {E = DdFault} (eqb a.0.0 1, a.0.1) x a.2) (number.1 ∙ ap (λ (t : List Bool). t ++ a.0.1) (one_bit a.0.0 number.0))

-- one part after another
then_laid : (part : List Bool) (bits rest others : List Bool) → bits ≡ part ++ rest → rest ≡ others → bits ≡ part ++ others
then_laid part bits rest others e h = e ∙ ap (λ (t : List Bool). part ++ t) h

pub head_laid : (bits : List Bool) (x : Head × List Bool) → head_at bits ≡ Ok x → bits ≡ flag_bits x.0.start ++ (flag_bits x.0.end ++ (bits_of 6 x.0.template ++ (bits_of 16 x.0.number ++ x.1)))
unfolding head_at
head_laid bits x e0 =
    bind_then (flag_at bits) _ x e0 (λ start es e1.
    bind_then (flag_at start.1) _ x e1 (λ last el e2.
    bind_then (number_at 6 last.1) _ x e2 (λ template et e3.
    bind_then (number_at 16 template.1) _ x e3 (λ number en e4.
    subst (λ (y : Head × List Bool). bits ≡ flag_bits y.0.start ++ (flag_bits y.0.end ++ (bits_of 6 y.0.template ++ (bits_of 16 y.0.number ++ y.1))))
    (ok_is {E = DdFault} (record { start = start.0; end = last.0; template = template.0; number = number.0 }, number.1) x e4)
    (then_laid (flag_bits start.0) _ _ _ (flag_laid bits start es) (
    then_laid (flag_bits last.0) _ _ _ (flag_laid start.1 last el) (
    then_laid (bits_of 6 template.0) _ _ _ (number_laid 6 last.1 template et).1 (number_laid 16 template.1 number en).1)))))))

abbrev flag_parts : Flags → List Bool → List Bool
flag_parts f rest = flag_bits f.structure ++ (flag_bits f.mask ++ (flag_bits f.dtis ++ (flag_bits f.fdiffs ++ (flag_bits f.chains ++ rest))))

flags_laid : (bits : List Bool) (x : Flags × List Bool) → flags_at bits ≡ Ok x → bits ≡ flag_parts x.0 x.1
unfolding flags_at
flags_laid bits x e0 =
    bind_then (flag_at bits) _ x e0 (λ a ea e1.
    bind_then (flag_at a.1) _ x e1 (λ b eb e2.
    bind_then (flag_at b.1) _ x e2 (λ c ec e3.
    bind_then (flag_at c.1) _ x e3 (λ d ed e4.
    bind_then (flag_at d.1) _ x e4 (λ f ef e5.
    subst (λ (y : Flags × List Bool). bits ≡ flag_parts y.0 y.1)
    (ok_is {E = DdFault} (record { structure = a.0; mask = b.0; dtis = c.0; fdiffs = d.0; chains = f.0 }, f.1) x e5)
    (then_laid (flag_bits a.0) _ _ _ (flag_laid bits a ea) (
    then_laid (flag_bits b.0) _ _ _ (flag_laid a.1 b eb) (
    then_laid (flag_bits c.0) _ _ _ (flag_laid b.1 c ec) (
    then_laid (flag_bits d.0) _ _ _ (flag_laid c.1 d ed) (flag_laid d.1 f ef))))))))))

-- ---- the structure and the mask

record IsCarried (is_present : Bool) (bits : List Bool) (x : Option TemplateStructure × List Bool) : Type 0 where
  present : is_some x.0 ≡ is_present
  spelled : bits ≡ carried_bits x.0 ++ x.1

carried_laid : (is_present : Bool) (bits : List Bool) (x : Option TemplateStructure × List Bool) → carried_at is_present bits ≡ Ok x → IsCarried is_present bits x
unfolding carried_at
carried_laid false bits x e = subst (λ (y : Option TemplateStructure × List Bool). IsCarried false bits y) (ok_is {E = DdFault} (None, bits) x e) (record { present = refl; spelled = refl })
carried_laid true bits x e =
    let a = bind_ok (inside (structure_at bits)) (λ s. Ok (Some s.0, s.1)) x e in
    subst (λ (y : Option TemplateStructure × List Bool). IsCarried true bits y) (ok_is {E = DdFault} (Some a.0.0, a.0.1) x a.2) (record { present = refl; spelled = (structure_found bits a.0 (inside_ok (structure_at bits) a.0 a.1)).spelled })

record IsLaidMask (has_mask : Bool) (carried : Option TemplateStructure) (targets : ℕ) (bits : List Bool) (x : Option ℕ × List Bool) : Type 0 where
  is : IsMask has_mask carried x.0
  spelled : bits ≡ laid_mask targets has_mask x.0 ++ x.1

mask_laid : (has_mask : Bool) (carried : Option TemplateStructure) (targets : ℕ) (bits : List Bool) (x : Option ℕ × List Bool) → ((t : TemplateStructure) → carried ≡ Some t → targets ≡ t.target_count)
    → mask_at has_mask (is_some carried) targets bits ≡ Ok x → IsLaidMask has_mask carried targets bits x
unfolding mask_at
mask_laid true carried targets bits x same e =
    let a = bind_ok (number_at targets bits) (λ mask. Ok (Some mask.0, mask.1)) x e in
    subst (λ (y : Option ℕ × List Bool). IsLaidMask true carried targets bits y) (ok_is {E = DdFault} (Some a.0.0, a.0.1) x a.2) (record { is = refl; spelled = (number_laid targets bits a.0 a.1).1 })
mask_laid false None targets bits x same e = subst (λ (y : Option ℕ × List Bool). IsLaidMask false None targets bits y) (ok_is {E = DdFault} (None, bits) x e) (record { is = refl; spelled = refl })
mask_laid false (Some t) targets bits x same e =
    subst (λ (y : Option ℕ × List Bool). IsLaidMask false (Some t) targets bits y) (ok_is {E = DdFault} (Some (2 ^ targets - 1), bits) x e) (record { is = rw (same t refl) refl; spelled = refl })

-- ---- the frame's definition

indication_laid : (bits : List Bool) (x : Dti × List Bool) → indication_at bits ≡ Ok x → Takes (λ d. Unit {0}) indication_bits bits x
unfolding indication_or
indication_laid bits x e =
    let a = bind_ok (number_at 2 bits) (λ code. Ok (dti_of code.0, code.1)) x e in
    let number = number_laid 2 bits a.0 a.1 in
    subst (λ (y : Dti × List Bool). Takes (λ d. Unit {0}) indication_bits bits y) (ok_is {E = DdFault} (dti_of a.0.0, a.0.1) x a.2)
    (tt, number.1 ∙ ap (λ (code : ℕ). bits_of 2 code ++ a.0.1) (sym (dti_code-of a.0.0 (omega (arith, number.0)))))

-- the bits from which the next distance, or the end of the distances, was read
record IsNext (bits : List Bool) (d : ℕ) (rest : List Bool) : Type 0 where
  size : ℕ
  holds : HoldsDistance size d
  spelled : bits ≡ laid_distance size d ++ rest

abbrev IsNextOf : List Bool → Option ℕ × List Bool → Type 0
IsNextOf bits (None, rest) = bits ≡ bits_of 2 0 ++ rest
IsNextOf bits (Some d, rest) = IsNext bits d rest

some_size : (n : ℕ) → eqb n 0 ≡ false → 1 ≤ n
some_size zero e = absurd cc
some_size (suc n) e = omega arith

next_laid : (bits : List Bool) (o : Option ℕ × List Bool) → next_distance_at bits ≡ Ok o → IsNextOf bits o
unfolding next_distance_at
next_laid bits o e =
    let a = bind_ok (number_at 2 bits) (λ size. cond (eqb size.0 0) (Ok (None, size.1)) (number_at (4 * size.0) size.1 >>= λ less. Ok (Some (less.0 + 1), less.1))) o e in
    let size = number_laid 2 bits a.0 a.1 in
    elim (chosen (eqb a.0.0 0) (ended a.0.1) (number_at (4 * a.0.0) a.0.1 >>= λ less. Ok (Some (less.0 + 1), less.1)) (done o) a.2) [
      | inl w ↦ subst (IsNextOf bits) (ok_is {E = DdFault} (None, a.0.1) o w.1) (subst (λ (n : ℕ). bits ≡ bits_of 2 n ++ a.0.1) (eqb-true a.0.0 0 w.0) size.1)
      | inr w ↦
          let b = bind_ok (number_at (4 * a.0.0) a.0.1) (λ less. Ok (Some (less.0 + 1), less.1)) o w.1 in
          let less = number_laid (4 * a.0.0) a.0.1 b.0 b.1 in
          let some = some_size a.0.0 w.0 in
          let back : b.0.0 + 1 - 1 ≡ b.0.0 = omega arith in
          subst (IsNextOf bits) (ok_is {E = DdFault} (Some (b.0.0 + 1), b.0.1) o b.2) (record {
            size = a.0.0;
            holds = (omega (arith, some), omega (arith, size.0), omega arith, omega (arith, less.0));
            spelled = rw back (then_laid (bits_of 2 a.0.0) _ _ _ size.1 less.1 ∙ sym (append_assoc (bits_of 2 a.0.0) (bits_of (4 * a.0.0) b.0.0) b.0.1));
          })
    ]
  where
    ended : List Bool → Result (Option ℕ × List Bool) DdFault
    ended rest = Ok (None, rest)

record AreDistances (bits : List Bool) (x : List ℕ × List Bool) : Type 0 where
  sizes : List ℕ
  are : AreSizes sizes x.0
  spelled : bits ≡ laid_distances sizes x.0 ++ x.1

ended_laid : (bits : List Bool) (o : Option ℕ × List Bool) (x : List ℕ × List Bool) → IsNextOf bits o → going_on (λ d rest. Err faults.References) o ≡ Ok x → AreDistances bits x
ended_laid bits (None, rest) x next e = subst (AreDistances bits) (ok_is {E = DdFault} ([], rest) x e) (record { sizes = []; are = tt; spelled = next })
ended_laid bits (Some d, rest) x next e = absurd cc

went_laid : (more : ℕ → List Bool → Result (List ℕ × List Bool) DdFault) → ((d : ℕ) (rest : List Bool) (y : List ℕ × List Bool) → more d rest ≡ Ok y → AreDistances rest y)
    → (bits : List Bool) (o : Option ℕ × List Bool) (x : List ℕ × List Bool) → IsNextOf bits o → going_on more o ≡ Ok x → AreDistances bits x
went_laid more each bits (None, rest) x next e = subst (AreDistances bits) (ok_is {E = DdFault} ([], rest) x e) (record { sizes = []; are = tt; spelled = next })
went_laid more each bits (Some d, rest) x next e =
    let b = bind_ok (more d rest) (λ others. Ok (d ∷ others.0, others.1)) x e in
    let all = each d rest b.0 b.1 in
    subst (AreDistances bits) (ok_is {E = DdFault} (d ∷ b.0.0, b.0.1) x b.2) (record {
      sizes = next.size ∷ all.sizes;
      are = (next.holds, all.are);
      spelled = then_laid (laid_distance next.size d) _ _ _ next.spelled all.spelled ∙ sym (append_assoc (laid_distance next.size d) (laid_distances all.sizes b.0.0) b.0.1);
    })

until_laid : (capacity before : ℕ) (bits : List Bool) (x : List ℕ × List Bool) → until_at (λ (before : ℕ). next_distance_at) faults.References capacity before bits ≡ Ok x → AreDistances bits x
unfolding until_at
until_laid zero before bits x e =
    let a = bind_ok (next_distance_at bits) (going_on (λ d rest. Err faults.References)) x e in
    ended_laid bits a.0 x (next_laid bits a.0 a.1) a.2
until_laid (suc capacity) before bits x e =
    let a = bind_ok (next_distance_at bits) (going_on (until_at (λ (before : ℕ). next_distance_at) faults.References capacity)) x e in
    went_laid (until_at (λ (before : ℕ). next_distance_at) faults.References capacity) (λ d rest y h. until_laid capacity d rest y h) bits a.0 x (next_laid bits a.0 a.1) a.2

distances_laid : (bits : List Bool) (x : List ℕ × List Bool) → distances_at bits ≡ Ok x → AreDistances bits x
unfolding distances_at
distances_laid bits x e = until_laid 16 0 bits x e

-- a part of the frame's own
custom_laid : {A : Type 0} (spell : A → List Bool) (custom : Bool) (own : List Bool → Result (A × List Bool) DdFault) (of_template : A) (bits : List Bool) (x : A × List Bool) → ((y : A × List Bool) → own bits ≡ Ok y → bits ≡ spell y.0 ++ y.1)
    → custom_or custom own of_template bits ≡ Ok x → bits ≡ where_custom custom (spell x.0) ++ x.1
custom_laid spell true own of_template bits x read e = read x e
custom_laid {A = A} spell false own of_template bits x read e = subst (λ (y : A × List Bool). bits ≡ y.1) (ok_is {E = DdFault} (of_template, bits) x e) refl

record AreCustomDistances (custom : Bool) (bits : List Bool) (x : List ℕ × List Bool) : Type 0 where
  sizes : List ℕ
  are : custom ≡ true → AreSizes sizes x.0
  spelled : bits ≡ where_custom custom (laid_distances sizes x.0) ++ x.1

custom_distances_laid : (custom : Bool) (of_template : List ℕ) (bits : List Bool) (x : List ℕ × List Bool) → custom_or custom distances_at of_template bits ≡ Ok x → AreCustomDistances custom bits x
custom_distances_laid true of_template bits x e = let all = distances_laid bits x e in record { sizes = all.sizes; are = λ own. all.are; spelled = all.spelled }
custom_distances_laid false of_template bits x e =
    subst (λ (y : List ℕ × List Bool). AreCustomDistances false bits y) (ok_is {E = DdFault} (of_template, bits) x e) (record { sizes = []; are = λ own. absurd cc; spelled = refl })

record IsLaidFrame (custom : Custom) (bits : List Bool) (x : FrameContent × List Bool) : Type 0 where
  sizes : List ℕ
  are : custom.fdiffs ≡ true → AreSizes sizes x.0.distances
  spelled : bits ≡ laid_frame sizes custom x.0 ++ x.1

frame_laid : (flags : Flags) (s : TemplateStructure) (index : ℕ) (bits : List Bool) (x : FrameContent × List Bool) → frame_at flags s index bits ≡ Ok x → IsLaidFrame (custom_of flags) bits x
unfolding frame_at laid_frame
frame_laid flags s index bits x e0 =
    bind_then (custom_or flags.dtis (repeat_at indication_at s.target_count) (template_at s index).indications bits) _ x e0 (λ is ei e1.
    bind_then (custom_or flags.fdiffs distances_at (template_at s index).distances is.1) _ x e1 (λ ds ed e2.
    bind_then (custom_or flags.chains (repeat_at (number_at 8) s.chain_count) (template_at s index).links ds.1) _ x e2 (λ ks ek e3.
    let indications = custom_laid (flat_map indication_bits) flags.dtis (repeat_at indication_at s.target_count) (template_at s index).indications bits is (λ y h. (repeat_found (λ (d : Dti). Unit {0}) indication_at indication_bits indication_laid s.target_count bits y h).2) ei in
    let distances = custom_distances_laid flags.fdiffs (template_at s index).distances is.1 ds ed in
    let links = custom_laid (flat_map (bits_of 8)) flags.chains (repeat_at (number_at 8) s.chain_count) (template_at s index).links ds.1 ks (λ y h. (repeat_found (λ (l : ℕ). l < 2 ^ 8) (number_at 8) (bits_of 8) (number_laid 8) s.chain_count ds.1 y h).2) ek in
    subst (λ (y : FrameContent × List Bool). IsLaidFrame (custom_of flags) bits y) (ok_is {E = DdFault} (record { layer = (template_at s index).layer; indications = is.0; distances = ds.0; links = ks.0 }, ks.1) x e3) (record {
      sizes = distances.sizes;
      are = distances.are;
      spelled = then_laid (where_custom flags.dtis (flat_map indication_bits is.0)) _ _ _ indications (then_laid (where_custom flags.fdiffs (laid_distances distances.sizes ds.0)) _ _ _ distances.spelled links)
          ∙ sym (three (where_custom flags.dtis (flat_map indication_bits is.0)) (where_custom flags.fdiffs (laid_distances distances.sizes ds.0)) (where_custom flags.chains (flat_map (bits_of 8) ks.0)) ks.1);
    }))))
  where
    three : (a b c rest : List Bool) → (a ++ (b ++ c)) ++ rest ≡ a ++ (b ++ (c ++ rest))
    three a b c rest = simp append_assoc

-- ---- the whole

record IsLaidBody (targets : ℕ) (flags : Flags) (carried : Option TemplateStructure) (bits : List Bool) (x : (Option ℕ × FrameContent) × List Bool) : Type 0 where
  mask : IsMask flags.mask carried x.0.0
  sizes : List ℕ
  are : flags.fdiffs ≡ true → AreSizes sizes x.0.1.distances
  spelled : bits ≡ laid_mask targets flags.mask x.0.0 ++ (laid_frame sizes (custom_of flags) x.0.1 ++ x.1)

body_laid : (template : ℕ) (flags : Flags) (carried : Option TemplateStructure) (s : TemplateStructure) (bits : List Bool) (x : (Option ℕ × FrameContent) × List Bool) → ((t : TemplateStructure) → carried ≡ Some t → s.target_count ≡ t.target_count)
    → body_at template flags (is_some carried) s bits ≡ Ok x → IsLaidBody s.target_count flags carried bits x
unfolding body_at
body_laid template flags carried s bits x same e0 =
    bind_then (mask_at flags.mask (is_some carried) s.target_count bits) _ x e0 (λ mask em e1.
    bind_then (index_at template s) _ x e1 (λ index ei e2.
    bind_then (frame_at flags s index mask.1) _ x e2 (λ frame ef e3.
    let m = mask_laid flags.mask carried s.target_count bits mask same em in
    let f = frame_laid flags s index mask.1 frame ef in
    subst (λ (y : (Option ℕ × FrameContent) × List Bool). IsLaidBody s.target_count flags carried bits y) (ok_is {E = DdFault} ((mask.0, frame.0), frame.1) x e3) (record {
      mask = m.is;
      sizes = f.sizes;
      are = f.are;
      spelled = then_laid (laid_mask s.target_count flags.mask mask.0) _ _ _ m.spelled f.spelled;
    }))))

holding_same : (carried force : Option TemplateStructure) (s : TemplateStructure) → holding carried force ≡ Some s → (t : TemplateStructure) → carried ≡ Some t → s.target_count ≡ t.target_count
holding_same None force s holds t is = absurd cc
holding_same (Some u) force s holds t is = let same : s ≡ t = cc in ap (λ (x : TemplateStructure). x.target_count) same

-- the flags of a descriptor of `len` bytes: the descriptor has flags, or ends before them
record HasFlags (len : ℕ) (bits : List Bool) (x : Flags × List Bool) : Type 0 where
  is_long : Bool
  long : is_long ≡ true → bits ≡ flag_parts x.0 x.1
  short : is_long ≡ false → (len ≤ 3) × (x.0 ≡ no_flags) × (x.1 ≡ bits)

flags_in_laid : (len : ℕ) (bits : List Bool) (x : Flags × List Bool) → flags_in len bits ≡ Ok x → HasFlags len bits x
unfolding flags_in
flags_in_laid len bits x e =
    elim (chosen (ltb 3 len) (flags_at bits) (Ok (no_flags, bits)) (Ok x) e) [
      | inl w ↦ record { is_long = true; long = λ yes. flags_laid bits x w.1; short = λ no. absurd cc }
      | inr w ↦
          let same = ok_is {E = DdFault} (no_flags, bits) x w.1 in
          record { is_long = false; long = λ yes. absurd cc; short = λ no. (ltb-false 3 len w.0, sym (ap (λ (y : Flags × List Bool). y.0) same), sym (ap (λ (y : Flags × List Bool). y.1) same)) }
    ]

more_is : (c : Content) (l : Layout) (targets : ℕ) (b : Bool) (bits after rest : List Bool) → is_some c.structure ≡ b
    → bits ≡ flag_bits b ++ (flag_bits l.has_mask ++ (flag_bits c.custom.dtis ++ (flag_bits c.custom.fdiffs ++ (flag_bits c.custom.chains ++ after)))) → after ≡ carried_bits c.structure ++ rest
    → rest ≡ laid_mask targets l.has_mask c.mask ++ (laid_frame l.sizes c.custom c.frame ++ l.behind) → bits ≡ laid_more targets l c
unfolding laid_more laid_flags
more_is c l targets b bits after rest present flags carried body =
    let tail : after ≡ carried_bits c.structure ++ (laid_mask targets l.has_mask c.mask ++ (laid_frame l.sizes c.custom c.frame ++ l.behind)) = then_laid (carried_bits c.structure) after rest _ carried body in
    flags
    ∙ ap (λ (b : Bool). flag_bits b ++ (flag_bits l.has_mask ++ (flag_bits c.custom.dtis ++ (flag_bits c.custom.fdiffs ++ (flag_bits c.custom.chains ++ after))))) (sym present)
    ∙ sym (five (flag_bits (is_some c.structure)) (flag_bits l.has_mask) (flag_bits c.custom.dtis) (flag_bits c.custom.fdiffs) (flag_bits c.custom.chains) after)
    ∙ ap (λ (t : List Bool). (flag_bits (is_some c.structure) ++ (flag_bits l.has_mask ++ (flag_bits c.custom.dtis ++ (flag_bits c.custom.fdiffs ++ flag_bits c.custom.chains)))) ++ t) tail
  where
    five : (a b c d e rest : List Bool) → (a ++ (b ++ (c ++ (d ++ e)))) ++ rest ≡ a ++ (b ++ (c ++ (d ++ (e ++ rest))))
    five a b c d e rest = simp append_assoc

empty_is : {A : Type 0} (xs : List A) → length xs ≡ 0 → xs ≡ []
empty_is [] e = refl
empty_is (x ∷ xs) e = absurd (omega arith)

none_is : {A : Type 0} (o : Option A) → is_some o ≡ false → o ≡ None
none_is None e = refl
none_is (Some x) e = absurd cc

-- no bits are left if there were none
last_empty : (a b c d : List Bool) → [] ≡ a ++ (b ++ (c ++ d)) → d ≡ []
last_empty a b c d e = empty_is d (omega (arith, ap length e, length-append a (b ++ (c ++ d)), length-append b (c ++ d), length-append c d))

pub length-flag_bits : (b : Bool) → length (flag_bits b) ≡ 1
length-flag_bits true = length-bits_of 1 1
length-flag_bits false = length-bits_of 1 0

-- no bits follow three bytes
rest_empty : (bytes : List ℕ) (a b : Bool) (template number : ℕ) (rest : List Bool) → length bytes ≤ 3 → bits_of_bytes bytes ≡ flag_bits a ++ (flag_bits b ++ (bits_of 6 template ++ (bits_of 16 number ++ rest))) → rest ≡ []
rest_empty bytes a b template number rest few is =
    empty_is rest (omega (
      arith,
      ap length is,
      length-bits_of_bytes bytes,
      length-append (flag_bits a) (flag_bits b ++ (bits_of 6 template ++ (bits_of 16 number ++ rest))),
      length-append (flag_bits b) (bits_of 6 template ++ (bits_of 16 number ++ rest)),
      length-append (bits_of 6 template) (bits_of 16 number ++ rest),
      length-append (bits_of 16 number) rest,
      length-flag_bits a,
      length-flag_bits b,
      length-bits_of 6 template,
      length-bits_of 16 number,
    ))

abbrev pub content_from : Head → Flags → Option TemplateStructure → Option ℕ × FrameContent → Content
content_from head flags carried body = record { start = head.start; end = head.end; template = head.template; number = head.number; structure = carried; mask = body.0; custom = custom_of flags; frame = body.1 }

four : (a b c d rest : List Bool) → (a ++ (b ++ (c ++ d))) ++ rest ≡ a ++ (b ++ (c ++ (d ++ rest)))
four a b c d rest = simp append_assoc

laid_as : (bytes : List ℕ) (s : TemplateStructure) (head : Head × List Bool) (flags : Flags × List Bool) (carried : Option TemplateStructure × List Bool) (body : (Option ℕ × FrameContent) × List Bool)
    → head_at (bits_of_bytes bytes) ≡ Ok head → (f : HasFlags (length bytes) head.1 flags) → IsCarried flags.0.structure flags.1 carried → (b : IsLaidBody s.target_count flags.0 carried.0 carried.1 body) → IfSome carried.0 IsWellFormed
    → IsWritable s (content_from head.0 flags.0 carried.0 body.0) → IsLaid s (record { is_long = f.is_long; has_mask = flags.0.mask; sizes = b.sizes; behind = body.1 }) (content_from head.0 flags.0 carried.0 body.0) bytes
unfolding laid_bits
laid_as bytes s head flags carried body eh f is b own writable =
    let c = content_from head.0 flags.0 carried.0 body.0 in
    let l : Layout = record { is_long = f.is_long; has_mask = flags.0.mask; sizes = b.sizes; behind = body.1 } in
    let first = head_laid (bits_of_bytes bytes) head eh in
    let front : bits_of_bytes bytes ≡ head_bits c ++ head.1 = first ∙ sym (four (flag_bits head.0.start) (flag_bits head.0.end) (bits_of 6 head.0.template) (bits_of 16 head.0.number) head.1) in
    record {
      ranges = writable;
      structure = own;
      mask = b.mask;
      sizes = b.are;
      short = λ no.
          let less = f.short no in
          let empty : head.1 ≡ [] = rest_empty bytes head.0.start head.0.end head.0.template head.0.number head.1 less.0 first in
          let nothing : [] ≡ carried_bits carried.0 ++ (laid_mask s.target_count flags.0.mask body.0.0 ++ (laid_frame b.sizes (custom_of flags.0) body.0.1 ++ body.1)) = sym empty ∙ sym less.2 ∙ then_laid (carried_bits carried.0) _ _ _ is.spelled b.spelled in
          record {
            structure = none_is carried.0 (is.present ∙ ap (λ (x : Flags). x.structure) less.1);
            mask = ap (λ (x : Flags). x.mask) less.1;
            dtis = ap (λ (x : Flags). x.dtis) less.1;
            fdiffs = ap (λ (x : Flags). x.fdiffs) less.1;
            chains = ap (λ (x : Flags). x.chains) less.1;
            behind = last_empty (carried_bits carried.0) (laid_mask s.target_count flags.0.mask body.0.0) (laid_frame b.sizes (custom_of flags.0) body.0.1) body.1 nothing;
          };
      bits = elim (cases_Bool f.is_long) [
        | inl long ↦ front ∙ ap (λ (t : List Bool). head_bits c ++ t) (more_is c l s.target_count flags.0.structure head.1 flags.1 carried.1 is.present (f.long long) is.spelled b.spelled ∙ sym (cond-true f.is_long (laid_more s.target_count l c) [] long))
        | inr less ↦
            let empty : head.1 ≡ [] = rest_empty bytes head.0.start head.0.end head.0.template head.0.number head.1 (f.short less).0 first in
            front ∙ ap (λ (t : List Bool). head_bits c ++ t) (empty ∙ sym (cond-false f.is_long (laid_more s.target_count l c) [] less))
      ];
    }

pub descriptor_laid : (bytes : List ℕ) (force : Option TemplateStructure) (c : Content) → IfSome force IsWellFormed → descriptor_at bytes force ≡ Ok c → IsDescriptor bytes force c
unfolding descriptor_at held_body_at
descriptor_laid bytes force c well e0 =
    bind_then (head_at (bits_of_bytes bytes)) _ c e0 (λ head eh e1.
    bind_then (flags_in (length bytes) head.1) _ c e1 (λ flags ef e2.
    bind_then (carried_at flags.0.structure flags.1) _ c e2 (λ carried ec e3.
    bind_then (held_body_at head.0.template flags.0 carried.0 force carried.1) _ c e3 (λ body eb e4.
    bind_then (held carried.0 force) _ body eb (λ s es e5.
    let holds = or_fault_ok faults.NoStructure (holding carried.0 force) s es in
    let same = ok_is {E = DdFault} (content_from head.0 flags.0 carried.0 body.0) c e4 in
    let writable : IsWritableBy (holding carried.0 force) (content_from head.0 flags.0 carried.0 body.0) = subst (λ (y : Content). IsWritableBy (holding y.structure force) y) (sym same) (descriptor_found bytes force c well e0) in
    let f = flags_in_laid (length bytes) head.1 flags ef in
    let b = body_laid head.0.template flags.0 carried.0 s carried.1 body (holding_same carried.0 force s holds) e5 in
    subst (λ (y : Content). IsDescriptor bytes force y) same (record {
      by = s;
      layout = record { is_long = f.is_long; has_mask = flags.0.mask; sizes = b.sizes; behind = body.1 };
      holds = holds;
      laid = laid_as bytes s head flags carried body eh f (carried_laid flags.0.structure flags.1 carried ec) b (carried_found flags.0.structure flags.1 carried ec) (rw holds at writable);
    }))))))
