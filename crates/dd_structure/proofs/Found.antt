-- A structure that was read is well formed, and its bits are those that were read.
use Rattle.std.proofs.Common.{◌≡◌, ℕ, zero, suc, ◌+◌, ◌-◌, ◌≤◌, ◌<◌, ◌^◌, Bool, true, false, cond, ltb, eqb, List, [], ◌∷◌, ◌++◌, length, Option, Some, None, Result, Ok, Err, refl, sym, ap, subst, ◌∙◌, append_assoc, inl, inr, arith}
use Rattle.std.specs.List.{flat_map, AllByRecursion}
use Rattle.std.proofs.lemmas.Bool.{ltb-true, lt-ltb, le-ltb, ne_eqb}
use Rattle.sfu_base.specs.declared.frame.Dti.{Dti}
use Rattle.sfu_base.specs.Frame.{dti_code, dti_of}
use Rattle.dd_bits.specs.Bits.{bits_of}
use Rattle.dd_bits.specs.Numbers.{fixed, non_symmetric, non_symmetric_bits}
use Rattle.dd_bits.specs.Sequences.{◌>>=◌, repeat_at, until_at, EachAfter}
use Rattle.dd_bits.proofs.ReadBack.{fixed_found, non_symmetric_found}
use Rattle.dd_bits.proofs.SequenceLaws.{bind_ok, bind_then, chosen, done, ok_is, some_is, or_fault_ok, Takes, TakesRow, repeat_found, until_found, until_spelled-flat_map, all_from_each_after}
use Rattle.dd_structure.specs.declared.layer.Layer.{Layer}
use Rattle.dd_structure.specs.declared.fault.StructureFault.{StructureFault}
use Rattle.dd_structure.specs.declared.fault.StructureFault.TheVariants as faults
use Rattle.dd_structure.specs.TemplateStructure.{TemplateStructure, first_layer, templates_of, layers_of, indications_of, distances_of, links_of}
use Rattle.dd_structure.specs.Reading.{number_at, below_at, layer_after, next_layer_at, layers_at, indication_at, indication_or, next_distance_at, distances_at, guard_count, guards_at, resolution_count, resolution_at, resolutions_at, structure_at, greatest_spatial}
use Rattle.dd_structure.specs.Spelling.{layer_code, layer_bits, layers_bits, indication_bits, distance_bits, distances_bits, resolution_bits, resolutions_bits, head_bits, template_bits, chain_bits, structure_bits, Follows, AreLayers, IsDistance, IsResolution, AreResolutions, IsWellFormed}
use Rattle.dd_structure.proofs.TemplateLemmas.{AreAligned, layers_of-templates_of, indications_of-templates_of, distances_of-templates_of, links_of-templates_of, templates_are}

-- ---- numbers

pub number_found : (n : ℕ) (bits : List Bool) (x : ℕ × List Bool) → number_at n bits ≡ Ok x → Takes (λ v. v < 2 ^ n) (bits_of n) bits x
number_found n bits x e = let f = fixed_found n x.0 bits x.1 (or_fault_ok faults.Short (fixed n bits) x e) in (f.small, f.spelled)

pub below_found : (n : ℕ) (bits : List Bool) (x : ℕ × List Bool) → 1 ≤ n → n < 2 ^ 32 → below_at n bits ≡ Ok x → Takes (λ v. v < n) (non_symmetric_bits n) bits x
below_found n bits x least most e = let f = non_symmetric_found n x.0 bits x.1 least most (or_fault_ok faults.Short (non_symmetric n bits) x e) in (f.small, f.spelled)

-- ---- layers

abbrev pub made : Layer → Result (Option Layer) StructureFault
made x = Ok (Some x)

pub same_layer : (x y : Layer) → made x ≡ made y → x ≡ y
same_layer x y e = cc

-- the code from which a layer was read is the code in which it is written
pub code_is : (a b : Layer) (code : ℕ) → layer_after a code ≡ made b → layer_code a b ≡ code
code_is a b zero e = subst (λ (x : Layer). layer_code a x ≡ 0) (same_layer a b e) (rw (le-ltb a.spatial a.spatial (omega arith), le-ltb a.temporal a.temporal (omega arith)) refl)
code_is a b (suc zero) e =
    elim (chosen (ltb a.temporal 7) (made (record { spatial = a.spatial; temporal = a.temporal + 1 })) (Err faults.Layer) (made b) e) [
      | inl w ↦ subst (λ (x : Layer). layer_code a x ≡ 1) (same_layer (record { spatial = a.spatial; temporal = a.temporal + 1 }) b w.1) (rw (le-ltb a.spatial a.spatial (omega arith), lt-ltb a.temporal (a.temporal + 1) (omega arith)) refl)
      | inr w ↦ let h = w.1 in absurd cc
    ]
code_is a b (suc (suc zero)) e =
    elim (chosen (ltb a.spatial 3) (made (record { spatial = a.spatial + 1; temporal = 0 })) (Err faults.Layer) (made b) e) [
      | inl w ↦ subst (λ (x : Layer). layer_code a x ≡ 2) (same_layer (record { spatial = a.spatial + 1; temporal = 0 }) b w.1) (rw (lt-ltb a.spatial (a.spatial + 1) (omega arith)) refl)
      | inr w ↦ let h = w.1 in absurd cc
    ]
code_is a b (suc (suc (suc n))) e = absurd cc

layer_follows : (before x : Layer) (code : ℕ) → layer_after before code ≡ Ok (Some x) → Follows before x
layer_follows before x zero e = (0, omega arith, e)
layer_follows before x (suc zero) e = (1, omega arith, e)
layer_follows before x (suc (suc zero)) e = (2, omega arith, e)
layer_follows before x (suc (suc (suc n))) e = absurd cc

abbrev ended : Result (Option Layer) StructureFault
ended = Ok None

end_code : (a : Layer) (code : ℕ) → layer_after a code ≡ ended → code < 4 → code ≡ 3
end_code a zero e small = absurd cc
end_code a (suc zero) e small =
    elim (chosen (ltb a.temporal 7) (made (record { spatial = a.spatial; temporal = a.temporal + 1 })) (Err faults.Layer) ended e) [ inl w ↦ let h = w.1 in absurd cc | inr w ↦ let h = w.1 in absurd cc ]
end_code a (suc (suc zero)) e small =
    elim (chosen (ltb a.spatial 3) (made (record { spatial = a.spatial + 1; temporal = 0 })) (Err faults.Layer) ended e) [ inl w ↦ let h = w.1 in absurd cc | inr w ↦ let h = w.1 in absurd cc ]
end_code a (suc (suc (suc n))) e small = omega arith

-- the two steps of a layer
layer_steps : (before : Layer) (o : Option Layer) (bits rest : List Bool) → next_layer_at before bits ≡ Ok (o, rest) → (code : ℕ) × (code < 2 ^ 2) × (layer_after before code ≡ Ok o) × (bits ≡ bits_of 2 code ++ rest)
unfolding next_layer_at
layer_steps before o bits rest e =
    let a = bind_ok (number_at 2 bits) (λ code. layer_after before code.0 >>= λ next. Ok (next, code.1)) (o, rest) e in
    let b = bind_ok (layer_after before a.0.0) (λ next. Ok (next, a.0.1)) (o, rest) a.2 in
    let pair = ok_is {E = StructureFault} (b.0, a.0.1) (o, rest) b.2 in
    let same = ap (λ (o : Option Layer × List Bool). o.0) pair in
    let left = ap (λ (o : Option Layer × List Bool). o.1) pair in
    let number = number_found 2 bits a.0 a.1 in
    (a.0.0, number.0, b.1 ∙ ap (λ (o : Option Layer). done {E = StructureFault} o) same, number.1 ∙ ap (λ (t : List Bool). bits_of 2 a.0.0 ++ t) left)

next_layer_found : (before x : Layer) (bits rest : List Bool) → next_layer_at before bits ≡ Ok (Some x, rest) → Follows before x × (bits ≡ layer_bits before x ++ rest)
next_layer_found before x bits rest e =
    let s = layer_steps before (Some x) bits rest e in
    (layer_follows before x s.0 s.2, s.3 ∙ ap (λ (code : ℕ). bits_of 2 code ++ rest) (sym (code_is before x s.0 s.2)))

layers_end_found : (before : Layer) (bits rest : List Bool) → next_layer_at before bits ≡ Ok (None, rest) → bits ≡ bits_of 2 3 ++ rest
layers_end_found before bits rest e =
    let s = layer_steps before None bits rest e in
    s.3 ∙ ap (λ (code : ℕ). bits_of 2 code ++ rest) (end_code before s.0 s.2 (omega (arith, s.1)))

-- a layer that follows one with a spatial id of at most 3 has such an id
step_low : (before x : Layer) (code : ℕ) → layer_after before code ≡ made x → before.spatial ≤ 3 → x.spatial ≤ 3
step_low before x zero e low = rw (← same_layer before x e) low
step_low before x (suc zero) e low =
    elim (chosen (ltb before.temporal 7) (made (record { spatial = before.spatial; temporal = before.temporal + 1 })) (Err faults.Layer) (made x) e) [
      | inl w ↦ rw (← same_layer (record { spatial = before.spatial; temporal = before.temporal + 1 }) x w.1) low
      | inr w ↦ let h = w.1 in absurd cc
    ]
step_low before x (suc (suc zero)) e low =
    elim (chosen (ltb before.spatial 3) (made (record { spatial = before.spatial + 1; temporal = 0 })) (Err faults.Layer) (made x) e) [
      | inl w ↦ rw (← same_layer (record { spatial = before.spatial + 1; temporal = 0 }) x w.1) (omega (arith, ltb-true before.spatial 3 w.0))
      | inr w ↦ let h = w.1 in absurd cc
    ]
step_low before x (suc (suc (suc n))) e low = absurd cc

greatest_low : (before : Layer) (layers : List Layer) → before.spatial ≤ 3 → EachAfter Follows before layers → greatest_spatial layers ≤ 3
greatest_low before [] low steps = omega arith
greatest_low before (l ∷ ls) low steps =
    let here = step_low before l steps.0.0 steps.0.2 low in
    omega (arith, here, greatest_low l ls here steps.1)

pub record AreFoundLayers (bits : List Bool) (x : List Layer × List Bool) : Type 0 where
  pub are : AreLayers x.0
  pub low : greatest_spatial x.0 ≤ 3
  pub spelled : bits ≡ layers_bits x.0 ++ x.1

pub layers_found : (bits : List Bool) (x : List Layer × List Bool) → layers_at bits ≡ Ok x → AreFoundLayers bits x
unfolding layers_at
layers_found bits x e =
    let a = bind_ok (until_at next_layer_at faults.Templates 63 first_layer bits) (λ others. Ok (first_layer ∷ others.0, others.1)) x e in
    let all = until_found Follows next_layer_at faults.Templates layer_bits (bits_of 2 3) next_layer_found layers_end_found 63 first_layer bits a.0 a.1 in
    subst (λ (y : List Layer × List Bool). AreFoundLayers bits y) (ok_is {E = StructureFault} (first_layer ∷ a.0.0, a.0.1) x a.2)
    (record { are = (refl, all.0, all.1); low = omega (arith, greatest_low first_layer a.0.0 (omega arith) all.0); spelled = all.2 })

-- ---- indications

pub dti_code-of : (n : ℕ) → n < 4 → dti_code (dti_of n) ≡ n
dti_code-of zero small = refl
dti_code-of (suc zero) small = refl
dti_code-of (suc (suc zero)) small = refl
dti_code-of (suc (suc (suc n))) small = omega arith

pub indication_found : (bits : List Bool) (x : Dti × List Bool) → indication_at bits ≡ Ok x → Takes (λ d. Unit {0}) indication_bits bits x
unfolding indication_or
indication_found bits x e =
    let a = bind_ok (number_at 2 bits) (λ code. Ok (dti_of code.0, code.1)) x e in
    let number = number_found 2 bits a.0 a.1 in
    subst (λ (y : Dti × List Bool). Takes (λ d. Unit {0}) indication_bits bits y) (ok_is {E = StructureFault} (dti_of a.0.0, a.0.1) x a.2)
    (tt, number.1 ∙ ap (λ (code : ℕ). bits_of 2 code ++ a.0.1) (sym (dti_code-of a.0.0 (omega (arith, number.0)))))

-- ---- distances

abbrev a_distance : ℕ → List Bool → Result (Option ℕ × List Bool) StructureFault
a_distance d rest = Ok (Some d, rest)

abbrev no_distance : List Bool → Result (Option ℕ × List Bool) StructureFault
no_distance rest = Ok (None, rest)

next_distance_found : (before d : ℕ) (bits rest : List Bool) → next_distance_at bits ≡ Ok (Some d, rest) → IsDistance d × (bits ≡ distance_bits d ++ rest)
unfolding next_distance_at
next_distance_found before d bits rest e =
    let a = bind_ok (number_at 1 bits) (λ follows. cond (eqb follows.0 0) (Ok (None, follows.1)) (number_at 4 follows.1 >>= λ less. Ok (Some (less.0 + 1), less.1))) (Some d, rest) e in
    let flag = number_found 1 bits a.0 a.1 in
    elim (chosen (eqb a.0.0 0) (no_distance a.0.1) (number_at 4 a.0.1 >>= λ less. Ok (Some (less.0 + 1), less.1)) (a_distance d rest) a.2) [
      | inl w ↦ let none = ap (λ (p : Option ℕ × List Bool). p.0) (ok_is {E = StructureFault} (None, a.0.1) (Some d, rest) w.1) in absurd cc
      | inr w ↦
          let b = bind_ok (number_at 4 a.0.1) (λ less. Ok (Some (less.0 + 1), less.1)) (Some d, rest) w.1 in
          let pair = ok_is {E = StructureFault} (Some (b.0.0 + 1), b.0.1) (Some d, rest) b.2 in
          let is = some_is (b.0.0 + 1) d (ap (λ (p : Option ℕ × List Bool). p.0) pair) in
          let left = ap (λ (p : Option ℕ × List Bool). p.1) pair in
          let less = number_found 4 a.0.1 b.0 b.1 in
          let one : a.0.0 ≡ 1 = omega (arith, flag.0, not_zero a.0.0 w.0) in
          let spelled : b.0.0 ≡ d - 1 = omega arith in (
            (omega arith, omega (arith, less.0)),
            flag.1 ∙ both (bits_of 1 a.0.0) (bits_of 1 1) a.0.1 (bits_of 4 (d - 1) ++ rest) (ap (bits_of 1) one) (less.1 ∙ both (bits_of 4 b.0.0) (bits_of 4 (d - 1)) b.0.1 rest (ap (bits_of 4) spelled) left)
                ∙ sym (append_assoc (bits_of 1 1) (bits_of 4 (d - 1)) rest),
          )
    ]
  where
    not_zero : (n : ℕ) → eqb n 0 ≡ false → 1 ≤ n
    not_zero zero h = absurd cc
    not_zero (suc n) h = omega arith

    both : (a b c d : List Bool) → a ≡ b → c ≡ d → a ++ c ≡ b ++ d
    both a b c d e h = cc

distances_end_found : (before : ℕ) (bits rest : List Bool) → next_distance_at bits ≡ Ok (None, rest) → bits ≡ bits_of 1 0 ++ rest
unfolding next_distance_at
distances_end_found before bits rest e =
    let a = bind_ok (number_at 1 bits) (λ follows. cond (eqb follows.0 0) (Ok (None, follows.1)) (number_at 4 follows.1 >>= λ less. Ok (Some (less.0 + 1), less.1))) (None, rest) e in
    let flag = number_found 1 bits a.0 a.1 in
    elim (chosen (eqb a.0.0 0) (no_distance a.0.1) (number_at 4 a.0.1 >>= λ less. Ok (Some (less.0 + 1), less.1)) (no_distance rest) a.2) [
      | inl w ↦
          let left = ap (λ (p : Option ℕ × List Bool). p.1) (ok_is {E = StructureFault} (None, a.0.1) (None, rest) w.1) in
          flag.1 ∙ both (bits_of 1 a.0.0) (bits_of 1 0) a.0.1 rest (ap (bits_of 1) (is_zero a.0.0 w.0)) left
      | inr w ↦
          let b = bind_ok (number_at 4 a.0.1) (λ less. Ok (Some (less.0 + 1), less.1)) (None, rest) w.1 in
          let none = ap (λ (p : Option ℕ × List Bool). p.0) (ok_is {E = StructureFault} (Some (b.0.0 + 1), b.0.1) (None, rest) b.2) in absurd cc
    ]
  where
    is_zero : (n : ℕ) → eqb n 0 ≡ true → n ≡ 0
    is_zero zero h = refl
    is_zero (suc n) h = let no = ne_eqb (suc n) 0 (λ e. absurd (omega arith)) in absurd cc

    both : (a b c d : List Bool) → a ≡ b → c ≡ d → a ++ c ≡ b ++ d
    both a b c d e h = cc

pub distances_found : (bits : List Bool) (x : List ℕ × List Bool) → distances_at bits ≡ Ok x → Takes (λ ds. (length ds ≤ 16) × AllByRecursion IsDistance ds) distances_bits bits x
unfolding distances_at
distances_found bits x e =
    let all = until_found (λ (before d : ℕ). IsDistance d) (λ (before : ℕ). next_distance_at) faults.References (λ (before d : ℕ). distance_bits d) (bits_of 1 0) next_distance_found distances_end_found 16 0 bits x e in
    ((all.1, all_from_each_after IsDistance 0 x.0 all.0), all.2 ∙ ap (λ (t : List Bool). t ++ x.1) (until_spelled-flat_map distance_bits (bits_of 1 0) 0 x.0))

-- ---- chains

pub suc_is_some : (n : ℕ) → eqb (suc n) 0 ≡ false
suc_is_some n = ne_eqb (suc n) 0 (λ h. absurd (omega arith))

guards_found : (chains targets : ℕ) (bits : List Bool) (x : List ℕ × List Bool) → chains ≤ 32 → guards_at chains targets bits ≡ Ok x
    → (length x.0 ≡ guard_count chains targets) × AllByRecursion (λ g. g < chains) x.0 × (bits ≡ flat_map (non_symmetric_bits chains) x.0 ++ x.1)
unfolding guards_at repeat_at
guards_found zero targets bits x few e =
    subst (λ (y : List ℕ × List Bool). (length y.0 ≡ 0) × AllByRecursion (λ g. g < 0) y.0 × (bits ≡ flat_map (non_symmetric_bits 0) y.0 ++ y.1)) (ok_is {E = StructureFault} ([], bits) x e) (refl, tt, refl)
guards_found (suc chains) targets bits x few e =
    rw (suc_is_some chains) (
    let h = rw (suc_is_some chains) at e in
    repeat_found (λ (g : ℕ). g < suc chains) (below_at (suc chains)) (non_symmetric_bits (suc chains)) (λ bits x h. below_found (suc chains) bits x (omega arith) (omega arith) h) targets bits x h)

-- ---- resolutions

abbrev a_resolution : ℕ × ℕ → List Bool → Result ((ℕ × ℕ) × List Bool) StructureFault
a_resolution r rest = Ok (r, rest)

resolution_found : (bits : List Bool) (x : (ℕ × ℕ) × List Bool) → resolution_at bits ≡ Ok x → Takes IsResolution resolution_bits bits x
unfolding resolution_at
resolution_found bits x e =
    let a = bind_ok (number_at 16 bits) (λ width. number_at 16 width.1 >>= λ height. Ok ((width.0 + 1, height.0 + 1), height.1)) x e in
    let b = bind_ok (number_at 16 a.0.1) (λ height. Ok ((a.0.0 + 1, height.0 + 1), height.1)) x a.2 in
    let width = number_found 16 bits a.0 a.1 in
    let height = number_found 16 a.0.1 b.0 b.1 in
    let w : a.0.0 + 1 - 1 ≡ a.0.0 = omega arith in
    let h : b.0.0 + 1 - 1 ≡ b.0.0 = omega arith in
    subst (λ (y : (ℕ × ℕ) × List Bool). Takes IsResolution resolution_bits bits y) (ok_is {E = StructureFault} ((a.0.0 + 1, b.0.0 + 1), b.0.1) x b.2) (
      (omega arith, omega (arith, width.0), omega arith, omega (arith, height.0)),
      rw (w, h) (width.1 ∙ ap (λ (t : List Bool). bits_of 16 a.0.0 ++ t) height.1 ∙ sym (append_assoc (bits_of 16 a.0.0) (bits_of 16 b.0.0) b.0.1)),
    )

resolutions_from : (layers : List Layer) (flag : ℕ) (bits rest : List Bool) (x : List (ℕ × ℕ) × List Bool) → flag < 2 ^ 1 → bits ≡ bits_of 1 flag ++ rest → TakesRow IsResolution resolution_bits (resolution_count flag layers) rest x
    → AreResolutions layers x.0 × (bits ≡ resolutions_bits x.0 ++ x.1)
resolutions_from layers zero bits rest ([], after) small spelled row = (tt, spelled ∙ ap (λ (t : List Bool). bits_of 1 0 ++ t) row.2)
resolutions_from layers zero bits rest (r ∷ rs, after) small spelled row = absurd (omega (arith, row.0))
resolutions_from layers (suc flag) bits rest ([], after) small spelled row = let count = rw (suc_is_some flag) at row.0 in absurd (omega (arith, count))
resolutions_from layers (suc flag) bits rest (r ∷ rs, after) small spelled row =
    let count = rw (suc_is_some flag) at row.0 in
    let one : suc flag ≡ 1 = omega arith in
    ((count, row.1), spelled ∙ ap (λ (n : ℕ). bits_of 1 n ++ rest) one ∙ ap (λ (t : List Bool). bits_of 1 1 ++ t) row.2 ∙ sym (append_assoc (bits_of 1 1) (flat_map resolution_bits (r ∷ rs)) after))

resolutions_found : (layers : List Layer) (bits : List Bool) (x : List (ℕ × ℕ) × List Bool) → resolutions_at layers bits ≡ Ok x → AreResolutions layers x.0 × (bits ≡ resolutions_bits x.0 ++ x.1)
unfolding resolutions_at
resolutions_found layers bits x e =
    let a = bind_ok (number_at 1 bits) (λ flag. repeat_at resolution_at (resolution_count flag.0 layers) flag.1) x e in
    let flag = number_found 1 bits a.0 a.1 in
    resolutions_from layers a.0.0 bits a.0.1 x flag.0 flag.1 (repeat_found IsResolution resolution_at resolution_bits resolution_found (resolution_count a.0.0 layers) a.0.1 x a.2)

-- ---- the whole

pub table_found : {A : Type 0} (P : A → Type 0) (item : List Bool → Result (A × List Bool) StructureFault) (spell : A → List Bool) → ((bits : List Bool) (x : A × List Bool) → item bits ≡ Ok x → Takes P spell bits x)
    → (n m : ℕ) (bits : List Bool) (x : List (List A) × List Bool) → repeat_at (repeat_at item m) n bits ≡ Ok x → TakesRow (λ row. (length row ≡ m) × AllByRecursion P row) (flat_map spell) n bits x
table_found {A = A} P item spell each n m bits x e =
    repeat_found (λ (row : List A). (length row ≡ m) × AllByRecursion P row) (repeat_at item m) (flat_map spell) (λ bits x h. let row = repeat_found P item spell each m bits x h in ((row.0, row.1), row.2)) n bits x e

target_range : (n : ℕ) → n < 2 ^ 5 → (1 ≤ n + 1) × (n + 1 ≤ 32) × (1 ≤ n + 2) × (n + 2 < 2 ^ 32)
target_range n small = (omega arith, omega arith, omega arith, omega arith)

chain_range : (n chains : ℕ) → n < 2 ^ 5 → chains < n + 2 → (chains ≤ n + 1) × (chains ≤ 32)
chain_range n chains small below = (omega arith, omega arith)

-- the bits of a structure, field by field
abbrev pub laid : ℕ → ℕ → List Layer → List (List Dti) → List (List ℕ) → ℕ → List ℕ → List (List ℕ) → List (ℕ × ℕ) → List Bool → List Bool
laid offset targets layers indications distances chains guards links resolutions rest =
    bits_of 6 offset ++ (bits_of 5 (targets - 1) ++ (layers_bits layers ++ (flat_map (flat_map indication_bits) indications ++ (flat_map distances_bits distances
    ++ (non_symmetric_bits (targets + 1) chains ++ (flat_map (non_symmetric_bits chains) guards ++ (flat_map (flat_map (bits_of 4)) links ++ (resolutions_bits resolutions ++ rest))))))))

pub structure_bits-laid : (s : TemplateStructure) (rest : List Bool)
    → structure_bits s ++ rest ≡ laid s.offset s.target_count (layers_of s.templates) (indications_of s.templates) (distances_of s.templates) s.chain_count s.guards (links_of s.templates) s.resolutions rest
unfolding structure_bits head_bits template_bits chain_bits
structure_bits-laid s rest = simp append_assoc

laid_from : (offset less : ℕ) (layers : List Layer) (indications : List (List Dti)) (distances : List (List ℕ)) (chains : ℕ) (guards : List ℕ) (links : List (List ℕ)) (resolutions : List (ℕ × ℕ)) (bits b0 b1 b2 b3 b4 b5 b6 b7 rest : List Bool)
    → bits ≡ bits_of 6 offset ++ b0 → b0 ≡ bits_of 5 less ++ b1 → b1 ≡ layers_bits layers ++ b2 → b2 ≡ flat_map (flat_map indication_bits) indications ++ b3 → b3 ≡ flat_map distances_bits distances ++ b4
    → b4 ≡ non_symmetric_bits (less + 2) chains ++ b5 → b5 ≡ flat_map (non_symmetric_bits chains) guards ++ b6 → b6 ≡ flat_map (flat_map (bits_of 4)) links ++ b7 → b7 ≡ resolutions_bits resolutions ++ rest
    → bits ≡ laid offset (less + 1) layers indications distances chains guards links resolutions rest
laid_from offset less layers indications distances chains guards links resolutions bits b0 b1 b2 b3 b4 b5 b6 b7 rest h0 h1 h2 h3 h4 h5 h6 h7 h8 =
    let back : less + 1 - 1 ≡ less = omega arith in
    let next : less + 1 + 1 ≡ less + 2 = omega arith in
    rw (back, next) (h0 ∙ ap (λ (t : List Bool). bits_of 6 offset ++ t) (h1 ∙ ap (λ (t : List Bool). bits_of 5 less ++ t) (h2 ∙ ap (λ (t : List Bool). layers_bits layers ++ t) (
    h3 ∙ ap (λ (t : List Bool). flat_map (flat_map indication_bits) indications ++ t) (h4 ∙ ap (λ (t : List Bool). flat_map distances_bits distances ++ t) (
    h5 ∙ ap (λ (t : List Bool). non_symmetric_bits (less + 2) chains ++ t) (h6 ∙ ap (λ (t : List Bool). flat_map (non_symmetric_bits chains) guards ++ t) (
    h7 ∙ ap (λ (t : List Bool). flat_map (flat_map (bits_of 4)) links ++ t) h8))))))))

pub record IsFound (bits : List Bool) (x : TemplateStructure × List Bool) : Type 0 where
  pub well_formed : IsWellFormed x.0
  pub spelled : bits ≡ structure_bits x.0 ++ x.1

assembled : (offset less : ℕ) (layers : List Layer) (indications : List (List Dti)) (distances : List (List ℕ)) (chains : ℕ) (guards : List ℕ) (links : List (List ℕ)) (resolutions : List (ℕ × ℕ)) (bits rest : List Bool)
    → offset < 2 ^ 6 → less < 2 ^ 5 → AreLayers layers → (length indications ≡ length layers) × AllByRecursion (λ row. (length row ≡ less + 1) × AllByRecursion (λ d. Unit {0}) row) indications
    → (length distances ≡ length layers) × AllByRecursion (λ row. (length row ≤ 16) × AllByRecursion IsDistance row) distances → chains < less + 2
    → (length guards ≡ guard_count chains (less + 1)) × AllByRecursion (λ g. g < chains) guards → (length links ≡ length layers) × AllByRecursion (λ row. (length row ≡ chains) × AllByRecursion (λ l. l < 2 ^ 4) row) links
    → AreResolutions layers resolutions → bits ≡ laid offset (less + 1) layers indications distances chains guards links resolutions rest
    → IsFound bits (record { offset = offset; target_count = less + 1; chain_count = chains; templates = templates_of layers indications distances links; guards = guards; resolutions = resolutions }, rest)
assembled offset less layers indications distances chains guards links resolutions bits rest small few are is ds below gs ks rs spelled =
    let aligned : AreAligned layers indications distances links = record { indications = is.0; distances = ds.0; links = ks.0 } in
    let range = target_range less few in
    record {
      well_formed = record {
        offset = small;
        some_target = range.0;
        few_targets = range.1;
        chains = (chain_range less chains few below).0;
        layers = rw (layers_of-templates_of layers indications distances links aligned) are;
        templates = templates_are (less + 1) chains layers indications distances links is.1 ds.1 ks.1;
        guards = gs.0;
        small_guards = gs.1;
        resolutions = rw (layers_of-templates_of layers indications distances links aligned) rs;
      };
      spelled =
          spelled ∙ sym (structure_bits-laid (record { offset = offset; target_count = less + 1; chain_count = chains; templates = templates_of layers indications distances links; guards = guards; resolutions = resolutions }) rest
          ∙ rw (layers_of-templates_of layers indications distances links aligned, indications_of-templates_of layers indications distances links aligned, distances_of-templates_of layers indications distances links aligned, links_of-templates_of layers indications distances links aligned)
          refl);
    }

pub structure_found : (bits : List Bool) (x : TemplateStructure × List Bool) → structure_at bits ≡ Ok x → IsFound bits x
unfolding structure_at
structure_found bits x e0 =
    bind_then (number_at 6 bits) _ x e0 (λ a ea e1.
    bind_then (number_at 5 a.1) _ x e1 (λ b eb e2.
    bind_then (layers_at b.1) _ x e2 (λ c ec e3.
    bind_then (repeat_at (repeat_at indication_at (b.0 + 1)) (length c.0) c.1) _ x e3 (λ d ed e4.
    bind_then (repeat_at distances_at (length c.0) d.1) _ x e4 (λ f ef e5.
    bind_then (below_at (b.0 + 2) f.1) _ x e5 (λ g eg e6.
    bind_then (guards_at g.0 (b.0 + 1) g.1) _ x e6 (λ h eh e7.
    bind_then (repeat_at (repeat_at (number_at 4) g.0) (length c.0) h.1) _ x e7 (λ i ei e8.
    bind_then (resolutions_at c.0 i.1) _ x e8 (λ j ej e9.
    let offset = number_found 6 bits a ea in
    let less = number_found 5 a.1 b eb in
    let layers = layers_found b.1 c ec in
    let indications = table_found (λ (d : Dti). Unit {0}) indication_at indication_bits indication_found (length c.0) (b.0 + 1) c.1 d ed in
    let distances = repeat_found (λ (ds : List ℕ). (length ds ≤ 16) × AllByRecursion IsDistance ds) distances_at distances_bits distances_found (length c.0) d.1 f ef in
    let range = target_range b.0 less.0 in
    let chains = below_found (b.0 + 2) f.1 g range.2 range.3 eg in
    let guards = guards_found g.0 (b.0 + 1) g.1 h (chain_range b.0 g.0 less.0 chains.0).1 eh in
    let links = table_found (λ (l : ℕ). l < 2 ^ 4) (number_at 4) (bits_of 4) (number_found 4) (length c.0) g.0 h.1 i ei in
    let resolutions = resolutions_found c.0 i.1 j ej in
    subst (λ (y : TemplateStructure × List Bool). IsFound bits y) (ok_is {E = StructureFault} (record { offset = a.0; target_count = b.0 + 1; chain_count = g.0; templates = templates_of c.0 d.0 f.0 i.0; guards = h.0; resolutions = j.0 }, j.1) x e9)
    (assembled a.0 b.0 c.0 d.0 f.0 g.0 h.0 i.0 j.0 bits j.1 offset.0 less.0 layers.are (indications.0, indications.1) (distances.0, distances.1) chains.0 (guards.0, guards.1) (links.0, links.1) resolutions.0
    (laid_from a.0 b.0 c.0 d.0 f.0 g.0 h.0 i.0 j.0 bits a.1 b.1 c.1 d.1 f.1 g.1 h.1 i.1 j.1 offset.1 less.1 layers.spelled indications.2 distances.2 chains.1 guards.2 links.2 resolutions.1)))))))))))
