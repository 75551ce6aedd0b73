-- The format with templates fulfils all assumptions of the laws.
use Rattle.std.proofs.Common.{◌≡◌, ◌-◌, ◌^◌, ◌<◌, ◌≤◌, ℕ, zero, suc, arith, Bool, true, false, List, [], ◌∷◌, refl, sym, subst, ap, ◌∙◌, cond, true≢false, length}
use Rattle.std.specs.Prelude.{◌==◌, nat_lt, nat_le, slice_get, slice_index}
use Rattle.std.specs.List.{list_all}
use Rattle.std.proofs.lemmas.Bool.{and_parts, eqb-true, eq-eqb, ltb-true, leb-true}
use Rattle.std.specs.declared.option.Option.{Option}
use Rattle.std.specs.declared.option.Option.TheVariants.{None, Some}
use Rattle.forwarding_model.specs.frames.Reading.{Descriptor, IsDescriptor, IsFormat, IsLayout, has_structure, read_by}
use Rattle.forwarding_model.specs.frames.Reading.DescriptorReading.{Faulty, Reads}
use Rattle.forwarding_examples.specs.WorkedFormat.{WorkedFields, carried_structure, is_distance, worked_fields, written_mask}
use Rattle.forwarding_examples.specs.LayeredFormat.{Template, are_distances, by_structure, fit, layered_descriptor, layered_format, layered_layout, layered_reading, of_structure, one_layer, own_or, templates, two_layers, with_template}
use Rattle.forwarding_examples.proofs.WorkedFormats.{distance_at}

-- a descriptor that can be read was made from these fields, with this structure and a template of it
record IsRead (force : Option ℕ) (rest : List ℕ) (d : Descriptor ℕ) : Type 0 where
  fields : WorkedFields
  found : worked_fields rest ≡ Some fields
  s : ℕ
  by : read_by force (carried_structure fields.carried) ≡ Some s
  fits : fit fields s ≡ true
  template : Template
  distances : List ℕ
  good : are_distances distances ≡ true
  is : layered_descriptor fields template distances ≡ d

is_read : (force : Option ℕ) (rest : List ℕ) (d : Descriptor ℕ) → layered_format.descriptor force rest ≡ Reads d → IsRead force rest d
is_read force rest d h = go (worked_fields rest) refl h
  where
    distanced : (fields : WorkedFields) (s : ℕ) → worked_fields rest ≡ Some fields → read_by force (carried_structure fields.carried) ≡ Some s → fit fields s ≡ true
        → (template : Template) (distances : List ℕ) (b : Bool) → are_distances distances ≡ b
        → cond b (Reads (layered_descriptor fields template distances)) Faulty ≡ Reads d → IsRead force rest d
    distanced fields s f e t template distances true g k =
        record { fields = fields; found = f; s = s; by = e; fits = t; template = template; distances = distances; good = g; is = cc }
    distanced fields s f e t template distances false g k = absurd (cc)

    templated : (fields : WorkedFields) (s : ℕ) → worked_fields rest ≡ Some fields → read_by force (carried_structure fields.carried) ≡ Some s → fit fields s ≡ true
        → (own : List ℕ) (o : Option Template) → with_template fields own o ≡ Reads d → IsRead force rest d
    templated fields s f e t own None k = absurd (cc)
    templated fields s f e t own (Some template) k =
        distanced fields s f e t template (own_or own template.distances) (are_distances (own_or own template.distances)) refl k

    listed : (fields : WorkedFields) (s : ℕ) → worked_fields rest ≡ Some fields → read_by force (carried_structure fields.carried) ≡ Some s → fit fields s ≡ true
        → (numbers : List ℕ) → of_structure fields s numbers ≡ Reads d → IsRead force rest d
    listed fields s f e t [] k = absurd (cc)
    listed fields s f e t (n ∷ own) k = templated fields s f e t own (slice_get (templates s) n) k

    fitting : (fields : WorkedFields) (s : ℕ) → worked_fields rest ≡ Some fields → read_by force (carried_structure fields.carried) ≡ Some s → (b : Bool) → fit fields s ≡ b
        → cond b (of_structure fields s fields.distances) Faulty ≡ Reads d → IsRead force rest d
    fitting fields s f e true t k = listed fields s f e t fields.distances k
    fitting fields s f e false t k = absurd (cc)

    structured : (fields : WorkedFields) → worked_fields rest ≡ Some fields → (o : Option ℕ) → read_by force (carried_structure fields.carried) ≡ o
        → by_structure fields o ≡ Reads d → IsRead force rest d
    structured fields f None e k = absurd (cc)
    structured fields f (Some s) e k = fitting fields s f e (fit fields s) refl k

    go : (o : Option WorkedFields) → worked_fields rest ≡ o → layered_reading force o ≡ Reads d → IsRead force rest d
    go None f k = absurd (cc)
    go (Some fields) f k = structured fields f (read_by force (carried_structure fields.carried)) refl k

-- ---- layouts

two_guarded : (t : ℕ) → t < 2 → slice_index (1 ∷ 0 ∷ []) t < 2
two_guarded zero lt = omega arith
two_guarded (suc zero) lt = omega arith
two_guarded (suc (suc t)) lt = absurd (omega arith)

one_guarded : (t : ℕ) → t < 1 → slice_index (0 ∷ []) t < 1
one_guarded zero lt = omega arith
one_guarded (suc t) lt = absurd (omega arith)

is_layout : (s : ℕ) → IsLayout (layered_layout s)
is_layout s = go (s == 1)
  where
    go : (b : Bool) → IsLayout (cond b two_layers one_layer)
    go true = record { targets = omega arith; chains = omega arith; guards = λ some. two_guarded }
    go false = record { targets = omega arith; chains = omega arith; guards = λ some. one_guarded }

below_written : (mask m bound : ℕ) → mask ≤ bound → written_mask mask ≡ Some m → m < bound
below_written mask m bound le e = go (mask == 0) refl e
  where
    go : (b : Bool) → (mask == 0) ≡ b → cond b None (Some (mask - 1)) ≡ Some m → m < bound
    go true z h = absurd (grind arith)
    go false z h = let same : mask - 1 ≡ m = grind arith in let some : (mask == 0) ≡ false = z in grind arith

-- ---- the facts

is_valid : (force : Option ℕ) (rest : List ℕ) (d : Descriptor ℕ) → IsRead force rest d → IsDescriptor layered_format force d
is_valid force rest d r =
    let a = and_parts (nat_lt r.fields.number 65536) (nat_le r.fields.mask (2 ^ (layered_layout r.s).target_count)) r.fits in
    let b = and_parts (nat_le (length r.distances) 16) (list_all is_distance r.distances) r.good in
    subst (IsDescriptor layered_format force) r.is
    (record {
      number = ltb-true r.fields.number 65536 a.0;
      references = leb-true (length r.distances) 16 b.0;
      distances = λ i lt. distance_at r.distances i b.1 lt;
      layout = λ s has. is_layout s;
      mask = λ s m by has.
          let same : r.s ≡ s = (let k : Some r.s ≡ Some s = sym r.by ∙ by in cc) in
          subst (λ n. m < 2 ^ (layered_layout n).target_count) same
          (below_written r.fields.mask m (2 ^ (layered_layout r.s).target_count) (leb-true _ _ a.1) has);
    })

carried_is : (force : Option ℕ) (rest : List ℕ) (d : Descriptor ℕ) → (r : IsRead force rest d) → carried_structure r.fields.carried ≡ d.structure
carried_is force rest d r = ap (λ (x : Descriptor ℕ). x.structure) r.is

carries : (rest : List ℕ) (d : Descriptor ℕ) → IsRead None rest d → has_structure d.structure ≡ true
carries rest d r = subst (λ o. has_structure o ≡ true) (carried_is None rest d r) (go (carried_structure r.fields.carried) r.by)
  where
    go : (o : Option ℕ) → read_by None o ≡ Some r.s → has_structure o ≡ true
    go None e = absurd (cc)
    go (Some s) e = refl

independent : (force other : Option ℕ) (rest : List ℕ) (d : Descriptor ℕ) → layered_format.descriptor force rest ≡ Reads d → has_structure d.structure ≡ true
    → layered_format.descriptor other rest ≡ Reads d
independent force other rest d h has =
    ap (layered_reading other) r.found
    ∙ ap (by_structure r.fields) (same (carried_structure r.fields.carried) (subst (λ o. has_structure o ≡ true) (sym (carried_is force rest d r)) has))
    ∙ sym (ap (layered_reading force) r.found)
    ∙ h
  where
    r : IsRead force rest d
    r = is_read force rest d h

    same : (o : Option ℕ) → has_structure o ≡ true → read_by other o ≡ read_by force o
    same None k = absurd (true≢false (sym k))
    same (Some s) k = refl

pub layered_is_format : IsFormat layered_format
layered_is_format =
    record {
      valid = λ force rest d may h. is_valid force rest d (is_read force rest d h);
      carries = λ rest d h. carries rest d (is_read None rest d h);
      independent = independent;
      same = λ s t cs ct e. eqb-true s t e;
      itself = λ s cs. eq-eqb s s refl;
    }
