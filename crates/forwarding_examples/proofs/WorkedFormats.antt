-- The format of the examples fulfils all assumptions of the laws.
use Rattle.std.proofs.Common.{◌≡◌, ◌-◌, ◌<◌, ◌≤◌, ◌^◌, ℕ, arith, Bool, true, false, List, refl, sym, subst, ap, ◌∙◌, cond, true≢false, length, get_or}
use Rattle.std.specs.Prelude.{◌==◌, nat_lt, nat_le, slice_index}
use Rattle.std.specs.List.{list_all}
use Rattle.std.proofs.lemmas.Bool.{and_parts, eqb-true, eq-eqb, ltb-true, leb-true}
use Rattle.std.proofs.lemmas.List.Folds.{list_all_at}
use Rattle.std.specs.declared.option.Option.{Option}
use Rattle.std.specs.declared.option.Option.TheVariants.{None, Some}
use Rattle.sfu_base.specs.Frame.{IsDistance}
use Rattle.forwarding_model.specs.frames.Reading.{Descriptor, IsDescriptor, IsFormat, has_structure}
use Rattle.forwarding_model.specs.frames.Reading.DescriptorReading.{NeedsStructure, Faulty, Reads}
use Rattle.forwarding_examples.specs.WorkedFormat.{WorkedFields, is_distance, are_in_bounds, carried_structure, written_mask, worked_reading, reads_as, described_in_bounds, described, worked_fields, worked_format, worked_layout}

pub distance_at : (distances : List ℕ) (i : ℕ) → list_all is_distance distances ≡ true → i < length distances → IsDistance (slice_index distances i)
distance_at distances i all lt = go (is_distance (get_or distances i 0)) refl
  where
    go : (b : Bool) → is_distance (get_or distances i 0) ≡ b → IsDistance (slice_index distances i)
    go true e =
        let a = and_parts (nat_lt 0 (get_or distances i 0)) _ e in
        record { back = ltb-true 0 (get_or distances i 0) a.0; near = leb-true (get_or distances i 0) 4096 a.1 }
    go false e = absurd (true≢false (sym all ∙ list_all_at is_distance distances i 0 lt e))

mask_fits : (mask m : ℕ) → mask < 5 → written_mask mask ≡ Some m → m < 4
mask_fits mask m lt e = go (mask == 0) refl e
  where
    go : (b : Bool) → (mask == 0) ≡ b → cond b None (Some (mask - 1)) ≡ Some m → m < 4
    go true z h = absurd (grind arith)
    go false z h = let same : mask - 1 ≡ m = grind arith in omega arith

-- two targets, or three
few_targets : (s : ℕ) → (worked_layout s).target_count ≤ 32
few_targets s = go (s == 9)
  where
    go : (b : Bool) → cond b 3 2 ≤ 32
    go true = omega arith
    go false = omega arith

below_all : (s m : ℕ) → m < 4 → m < 2 ^ (worked_layout s).target_count
below_all s m lt = go (s == 9)
  where
    go : (b : Bool) → m < 2 ^ cond b 3 2
    go true = omega (arith, lt)
    go false = lt

in_bounds : (force : Option ℕ) (fields : WorkedFields) (d : Descriptor ℕ) → are_in_bounds fields ≡ true → reads_as fields ≡ Reads d → IsDescriptor worked_format force d
in_bounds force fields d bounds e =
    let a = and_parts (nat_lt fields.number 65536) _ bounds in
    let b = and_parts (nat_lt fields.mask 5) _ a.1 in
    let c = and_parts (nat_le (length fields.distances) 16) _ b.1 in
    let same : worked_reading fields ≡ d = cc in
    subst (IsDescriptor worked_format force) same
    (record {
      number = ltb-true fields.number 65536 a.0;
      references = leb-true (length fields.distances) 16 c.0;
      distances = λ i lt. distance_at fields.distances i c.1 lt;
      layout = λ s has. record { targets = few_targets s; chains = omega arith; guards = λ some. absurd (some refl) };
      mask = λ s m by has. below_all s m (mask_fits fields.mask m (ltb-true fields.mask 5 b.0) has);
    })

-- a descriptor that can be read has its fields in range, and they are the fields from which it was read
record IsWorked (force : Option ℕ) (rest : List ℕ) (d : Descriptor ℕ) : Type 0 where
  fields : WorkedFields
  found : worked_fields rest ≡ Some fields
  bounds : are_in_bounds fields ≡ true
  reads : reads_as fields ≡ Reads d
  carries : force ≡ None → (fields.carried == 0) ≡ false

worked : (force : Option ℕ) (rest : List ℕ) (d : Descriptor ℕ) → worked_format.descriptor force rest ≡ Reads d → IsWorked force rest d
worked force rest d h = go (worked_fields rest) refl h
  where
    by_force : (force : Option ℕ) (fields : WorkedFields) → worked_fields rest ≡ Some fields → are_in_bounds fields ≡ true
        → described_in_bounds force fields ≡ Reads d → IsWorked force rest d
    by_force (Some s) fields e b h = record { fields = fields; found = e; bounds = b; reads = h; carries = λ none. absurd (grind arith) }
    by_force None fields e b h = carried (fields.carried == 0) refl h
      where
        carried : (z : Bool) → (fields.carried == 0) ≡ z → cond z NeedsStructure (reads_as fields) ≡ Reads d → IsWorked None rest d
        carried true z k = absurd (cc)
        carried false z k = record { fields = fields; found = e; bounds = b; reads = k; carries = λ none. z }

    go : (o : Option WorkedFields) → worked_fields rest ≡ o → described force o ≡ Reads d → IsWorked force rest d
    go None e h = absurd (cc)
    go (Some fields) e h = bounded (are_in_bounds fields) refl h
      where
        bounded : (b : Bool) → are_in_bounds fields ≡ b → cond b (described_in_bounds force fields) Faulty ≡ Reads d → IsWorked force rest d
        bounded true b k = by_force force fields e b k
        bounded false b k = absurd (cc)

structure_of_fields : (fields : WorkedFields) (d : Descriptor ℕ) → reads_as fields ≡ Reads d → carried_structure fields.carried ≡ d.structure
structure_of_fields fields d e = let same : worked_reading fields ≡ d = cc in ap (λ (x : Descriptor ℕ). x.structure) same

worked_carries : (rest : List ℕ) (d : Descriptor ℕ) → worked_format.descriptor None rest ≡ Reads d → has_structure d.structure ≡ true
worked_carries rest d h =
    let w = worked None rest d h in
    subst (λ o. has_structure o ≡ true) (structure_of_fields w.fields d w.reads)
    (ap (λ b. has_structure (cond b None (Some w.fields.carried))) (w.carries refl))

worked_independent : (force other : Option ℕ) (rest : List ℕ) (d : Descriptor ℕ) → worked_format.descriptor force rest ≡ Reads d → has_structure d.structure ≡ true
    → worked_format.descriptor other rest ≡ Reads d
worked_independent force other rest d h has =
    let w = worked force rest d h in
    ap (described other) w.found
    ∙ ap (λ b. cond b (described_in_bounds other w.fields) Faulty) w.bounds
    ∙ go other w.fields (subst (λ o. has_structure o ≡ true) (sym (structure_of_fields w.fields d w.reads)) has)
    ∙ w.reads
  where
    go : (other : Option ℕ) (fields : WorkedFields) → has_structure (carried_structure fields.carried) ≡ true → described_in_bounds other fields ≡ reads_as fields
    go (Some s) fields has = refl
    go None fields has = carried (fields.carried == 0) has
      where
        carried : (z : Bool) → has_structure (cond z None (Some fields.carried)) ≡ true → cond z NeedsStructure (reads_as fields) ≡ reads_as fields
        carried true k = absurd (true≢false (sym k))
        carried false k = refl

pub worked_is_format : IsFormat worked_format
worked_is_format =
    record {
      valid = λ force rest d may h. let w = worked force rest d h in in_bounds force w.fields d w.bounds w.reads;
      carries = worked_carries;
      independent = worked_independent;
      same = λ s t cs ct e. eqb-true s t e;
      itself = λ s cs. eq-eqb s s refl;
    }
