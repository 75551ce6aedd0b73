-- Conclusions from the facts about reading.
use Rattle.std.proofs.Common.{◌≡◌, ◌^◌, ◌<◌, ℕ, arith, Bool, true, false, List, [], refl, sym, subst, ap, ◌∙◌, cond, true≢false, ◌||◌}
use Rattle.std.proofs.lemmas.Bool.{eqb-true, and_parts}
use Rattle.std.proofs.Math.Pow.{pow_pos}
use Rattle.std.specs.declared.option.Option.{Option}
use Rattle.std.specs.declared.option.Option.TheVariants.{None, Some}
use Rattle.forwarding_model.specs.frames.Reading.{Descriptor, DescriptorReading, Format, Layout, Payload, IsCarried, IsDescriptor, IsFormat, IsLayout, has_structure, is_key_start, keeps_structure, obeys_structure, read_by, referred_distances, shown, shown_by}
use Rattle.forwarding_model.specs.frames.Reading.DescriptorReading.{NeedsStructure, Faulty, Reads}
use Rattle.forwarding_model.specs.frames.Reading.Showing.{Unread, Shows}
use Rattle.forwarding_model.specs.frames.Frames.{all_targets, mask_by}

-- a descriptor that a packet shows was read, and satisfies the structure rule
pub record IsShown {S : Type 0} (format : Format S) (force : Option S) (rest : List ℕ) (d : Descriptor S) (payload : Payload) : Type 0 where
  pub reads : format.descriptor force rest ≡ Reads d
  pub obeys : obeys_structure format force d ≡ true
  pub payload_is : format.payload rest ≡ payload

pub shown_parts : {S : Type 0} (format : Format S) (force : Option S) (rest : List ℕ) (d : Descriptor S) (payload : Payload)
    → shown format force rest ≡ Shows d payload → IsShown format force rest d payload
shown_parts {S} format force rest d payload h = go (format.descriptor force rest) refl h
  where
    obeyed : (e : Descriptor S) (b : Bool) → obeys_structure format force e ≡ b → format.descriptor force rest ≡ Reads e
        → cond b (Shows e (format.payload rest)) Unread ≡ Shows d payload → IsShown format force rest d payload
    obeyed e true o r k =
        let same : e ≡ d = cc in
        record { reads = r ∙ ap Reads same; obeys = subst (λ x. obeys_structure format force x ≡ true) same o; payload_is = cc }
    obeyed e false o r k = absurd (cc)

    go : (r : DescriptorReading S) → format.descriptor force rest ≡ r → shown_by format force (format.payload rest) r ≡ Shows d payload → IsShown format force rest d payload
    go NeedsStructure e k = absurd (cc)
    go Faulty e k = absurd (cc)
    go (Reads x) e k = obeyed x (obeys_structure format force x) refl e k

pub key_start_structure : {S : Type 0} (d : Descriptor S) → is_key_start d ≡ true → has_structure d.structure ≡ true
key_start_structure d k = (and_parts (has_structure d.structure) _ k).0

pub key_start_start : {S : Type 0} (d : Descriptor S) → is_key_start d ≡ true → d.start ≡ true
key_start_start d k = (and_parts d.start _ (and_parts (has_structure d.structure) _ k).1).0

pub key_start_references : {S : Type 0} (d : Descriptor S) → is_key_start d ≡ true → referred_distances d ≡ []
key_start_references d k =
    let none : d.ref_count ≡ 0 = eqb-true d.ref_count 0 (and_parts d.start _ (and_parts (has_structure d.structure) _ k).1).1 in
    rw none refl

pub carried : {S : Type 0} (o : Option S) → has_structure o ≡ true → (s : S) × (o ≡ Some s)
carried None h = absurd (true≢false (sym h))
carried (Some s) h = (s, refl)

-- a key start shows the same descriptor, whatever structure is in force
pub shown-key : {S : Type 0} (format : Format S) (force other : Option S) (rest : List ℕ) (d : Descriptor S) (payload : Payload) → IsFormat format
    → shown format force rest ≡ Shows d payload → is_key_start d ≡ true → shown format other rest ≡ Shows d payload
shown-key format force other rest d payload facts h k =
    let p = shown_parts format force rest d payload h in
    let r : format.descriptor other rest ≡ Reads d = facts.independent force other rest d p.reads (key_start_structure d k) in
    ap (shown_by format other (format.payload rest)) r
    ∙ ap (λ b. cond (b || keeps_structure format other d.structure) (Shows d (format.payload rest)) Unread) k
    ∙ ap (Shows d) p.payload_is

-- with no structure in force, only a key start is shown
pub shown-none : {S : Type 0} (format : Format S) (rest : List ℕ) (d : Descriptor S) (payload : Payload) → IsFormat format
    → shown format None rest ≡ Shows d payload → is_key_start d ≡ true
shown-none format rest d payload facts h =
    let p = shown_parts format None rest d payload h in
    go (is_key_start d) refl (carried d.structure (facts.carries rest d p.reads)) p.obeys
  where
    go : (b : Bool) → is_key_start d ≡ b → (s : _) × (d.structure ≡ Some s) → obeys_structure format None d ≡ true → b ≡ true
    go true e has o = refl
    go false e has o = absurd (true≢false (sym o ∙ ap (λ b. b || keeps_structure format None d.structure) e ∙ ap (keeps_structure format None) has.1))

-- ---- masks fit

pub all_targets-lt : (layout : Layout) → all_targets layout < 2 ^ layout.target_count
all_targets-lt layout = let pos : 0 < 2 ^ layout.target_count = pow_pos layout.target_count in omega arith

-- a structure that a shown descriptor carries was carried
pub shown_carried : {S : Type 0} (format : Format S) (force : Option S) (rest : List ℕ) (d : Descriptor S) (payload : Payload) (s : S) → IsFormat format
    → shown format force rest ≡ Shows d payload → d.structure ≡ Some s → IsCarried format s
shown_carried format force rest d payload s facts h has =
    let p = shown_parts format force rest d payload h in
    record {
      rest = rest;
      descriptor = d;
      reads = facts.independent force None rest d p.reads (ap has_structure has);
      carries = has;
    }

-- the structure in force was carried, and the mask fits its layout
pub record IsInForce {S : Type 0} (format : Format S) (s : S) (mask : ℕ) : Type 0 where
  pub carried : IsCarried format s
  pub layout : IsLayout (format.layout s)
  pub fits : mask < 2 ^ (format.layout s).target_count

pub key_in_force : {S : Type 0} (format : Format S) (force : Option S) (d : Descriptor S) (s : S) (old : ℕ) → IsCarried format s → IsDescriptor format force d → d.structure ≡ Some s
    → IsInForce format s (mask_by format d.mask d.structure old)
key_in_force format force d s old came valid has =
    record {
      carried = came;
      layout = valid.layout s has;
      fits = subst (λ o. mask_by format d.mask o old < 2 ^ (format.layout s).target_count) (sym has)
          (go d.mask (λ m e. valid.mask s m (ap (read_by force) has) e));
    }
  where
    go : (o : Option ℕ) → ((m : ℕ) → o ≡ Some m → m < 2 ^ (format.layout s).target_count) → mask_by format o (Some s) old < 2 ^ (format.layout s).target_count
    go None own = all_targets-lt (format.layout s)
    go (Some m) own = own m refl

pub other_in_force : {S : Type 0} (format : Format S) (d : Descriptor S) (s : S) (old : ℕ) → IsFormat format
    → ((t : S) → d.structure ≡ Some t → IsCarried format t) → IsDescriptor format (Some s) d
    → keeps_structure format (Some s) d.structure ≡ true → IsInForce format s old → IsInForce format s (mask_by format d.mask d.structure old)
other_in_force {S} format d s old facts came valid keeps h =
    record { carried = h.carried; layout = h.layout; fits = structured d.structure refl keeps (λ t m has e. valid.mask t m (ap (read_by (Some s)) has) e) (λ m none e. valid.mask s m (ap (read_by (Some s)) none) e) }
  where
    alone : (o : Option ℕ) → ((m : ℕ) → o ≡ Some m → m < 2 ^ (format.layout s).target_count) → mask_by format o None old < 2 ^ (format.layout s).target_count
    alone None own = h.fits
    alone (Some m) own = own m refl

    again : (t : S) → s ≡ t → (o : Option ℕ) → ((m : ℕ) → o ≡ Some m → m < 2 ^ (format.layout t).target_count) → mask_by format o (Some t) old < 2 ^ (format.layout s).target_count
    again t same None own = subst (λ x. all_targets (format.layout t) < 2 ^ (format.layout x).target_count) (sym same) (all_targets-lt (format.layout t))
    again t same (Some m) own = subst (λ x. m < 2 ^ (format.layout x).target_count) (sym same) (own m refl)

    structured : (o : Option S) → d.structure ≡ o → keeps_structure format (Some s) o ≡ true
        → ((t : S) (m : ℕ) → d.structure ≡ Some t → d.mask ≡ Some m → m < 2 ^ (format.layout t).target_count)
        → ((m : ℕ) → d.structure ≡ None → d.mask ≡ Some m → m < 2 ^ (format.layout s).target_count)
        → mask_by format d.mask o old < 2 ^ (format.layout s).target_count
    structured None e keeps own other = alone d.mask (λ m k. other m e k)
    structured (Some t) e keeps own other = again t (sym (facts.same t s (came t e) h.carried keeps)) d.mask (λ m k. own t m e k)
