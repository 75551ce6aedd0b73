-- A descriptor that was read and seen, by what is in force before it and after it.
use Rattle.std.proofs.Common.{◌≡◌, ◌⊎◌, inl, inr, ◌≤◌, ℕ, Bool, true, false, cond, ◌&&◌, ◌||◌, List, Option, Some, None, Result, Ok, Err, refl, sym, ap, subst, ◌∙◌}
use Rattle.std.specs.Prelude.{OnOk, is_some}
use Rattle.std.specs.Result.{is_err}
use Rattle.forwarding_model.specs.forwarding.Timeline.{Packet}
use Rattle.forwarding_model.specs.frames.Reading.{Descriptor as Said, Joins, has_structure, is_key_start, keeps_structure}
use Rattle.forwarding_model.specs.frames.Reading.Payload.{Broken}
use Rattle.forwarding_model.specs.frames.Frames.{Force, after_descriptor, is_padding, part_of, seen_as}
use Rattle.dd_structure.specs.TemplateStructure.{TemplateStructure}
use Rattle.dd_descriptor.specs.declared.fault.DdFault.{DdFault}
use Rattle.dd_descriptor.specs.declared.descriptor.Descriptor.{Descriptor}
use Rattle.dd_descriptor.specs.Content.{Content, holding}
use Rattle.dd_layout.specs.Layouts.{structures_alone}
use Rattle.packet_format.specs.Formats.{said}
use Rattle.dd_descriptor.specs.Reading.{descriptor_at}
use Rattle.dd_descriptor.specs.Seen.{AnswersIn, chains_in, content_of, content_with, targets_in}
use Rattle.dd_descriptor.specs.Spelling.{IsWritableBy}
use Rattle.dd_descriptor.proofs.Found.{descriptor_found}
use Rattle.dd_layout.proofs.Layouts.{same_structure}
use Rattle.dd_descriptor.proofs.OwnStructure.{own_structure}
use Rattle.frame_table.specs.declared.table.Reading.TheVariants as reading
use Rattle.frame_table.specs.Seen.{IsFirst, answer, answered, obeys, said_of, seen_by}
use Rattle.packet_format.specs.declared.look.PayloadFlags.{PayloadFlags}
use Rattle.packet_format.specs.declared.look.PayloadFlags.TheVariants as flags
use Rattle.packet_format.specs.Shown.{payload_said}
use Rattle.track_core.specs.Layers.{HasFirst}

-- ---- what was read

pub read_ok : (f g : Option TemplateStructure) (d : Descriptor) (element : List ℕ) (r : Result Unit DdFault) → f ≡ g → false ≡ is_err r → AnswersIn f d r (descriptor_at element f)
    → descriptor_at element g ≡ Ok (content_of g d)
read_ok f g d element (Ok u) same ok read = subst (λ (o : Option TemplateStructure). descriptor_at element o ≡ Ok (content_of o d)) same read
read_ok f g d element (Err e) same ok read = absurd (cc)

pub read_err : (f g : Option TemplateStructure) (d : Descriptor) (element : List ℕ) (r : Result Unit DdFault) → f ≡ g → true ≡ is_err r → AnswersIn f d r (descriptor_at element f)
    → (fault : DdFault) × (descriptor_at element g ≡ Err fault)
read_err f g d element (Ok u) same bad read = absurd (cc)
read_err f g d element (Err e) same bad read = (e, subst (λ (o : Option TemplateStructure). descriptor_at element o ≡ Err e) same read)

-- ---- what it was seen as

pub obeys_not : (force : Force TemplateStructure) (d : Descriptor) → answer force d ≡ reading.Unread → obeys force d ≡ false
obeys_not force d e = go (obeys force d) (is_key_start (said_of force.structure d)) refl e
  where
    go : (a b : Bool) → obeys force d ≡ a → answered a b ≡ reading.Unread → obeys force d ≡ false
    go true true is e = absurd (cc)
    go true false is e = absurd (cc)
    go false b is e = is

pub obeys_so : (force : Force TemplateStructure) (d : Descriptor) → (answer force d ≡ reading.Unread → ⊥) → obeys force d ≡ true
obeys_so force d other = go (obeys force d) refl
  where
    go : (a : Bool) → obeys force d ≡ a → obeys force d ≡ true
    go true is = is
    go false is = absurd (other (ap (λ (b : Bool). answered b (is_key_start (said_of force.structure d))) is))

pub seen_so : (force : Force TemplateStructure) (d : Descriptor) → obeys force d ≡ true → seen_by force d ≡ after_descriptor structures_alone force (said_of force.structure d)
seen_so force d is = ap (λ (b : Bool). cond b (after_descriptor structures_alone force (said_of force.structure d)) force) is

pub seen_not : (force : Force TemplateStructure) (d : Descriptor) → obeys force d ≡ false → seen_by force d ≡ force
seen_not force d is = ap (λ (b : Bool). cond b (after_descriptor structures_alone force (said_of force.structure d)) force) is

key_has : (o : Option TemplateStructure) (rest : Bool) → (has_structure o && rest) ≡ true → (s : TemplateStructure) × (o ≡ Some s)
key_has None rest e = absurd (cc)
key_has (Some s) rest e = (s, refl)

structure_with : (force : Force TemplateStructure) (dd : Said TemplateStructure) (b : Bool) → is_key_start dd ≡ b
    → (after_descriptor structures_alone force dd).structure ≡ cond b dd.structure force.structure
structure_with force dd b e = ap (λ (x : Bool). (seen_as structures_alone force dd x).structure) e ∙ go b
  where
    go : (x : Bool) → (seen_as structures_alone force dd x).structure ≡ cond x dd.structure force.structure
    go true = refl
    go false = refl

pub some_after : (force new : Force TemplateStructure) (dd : Said TemplateStructure) → new ≡ after_descriptor structures_alone force dd
    → is_some force.structure ≡ true → is_some new.structure ≡ true
some_after force new dd is has = ap (λ (f : Force TemplateStructure). is_some f.structure) is ∙ go (is_key_start dd) refl
  where
    go : (b : Bool) → is_key_start dd ≡ b → is_some (after_descriptor structures_alone force dd).structure ≡ true
    go true e = (let s = key_has dd.structure _ e in ap (λ (o : Option TemplateStructure). is_some o) (structure_with force dd true e ∙ s.1))
    go false e = ap (λ (o : Option TemplateStructure). is_some o) (structure_with force dd false e) ∙ has

-- ---- the first descriptor of a frame

own_content : (f g : Option TemplateStructure) (d : Descriptor) (s : TemplateStructure) → d.structure ≡ Some s → content_of f d ≡ content_of g d
own_content f g d s is =
    let a : holding d.structure f ≡ Some s = ap (λ (o : Option TemplateStructure). holding o f) is in
    let b : holding d.structure g ≡ Some s = ap (λ (o : Option TemplateStructure). holding o g) is in
    ap (λ (o : Option TemplateStructure). content_with (targets_in o) (chains_in o) d) (a ∙ sym b)

module _ (force new : Force TemplateStructure) (d : Descriptor) (element : List ℕ) (few : d.ref_count ≤ 16)
    (reads : descriptor_at element force.structure ≡ Ok (content_of force.structure d)) (rule : obeys force d ≡ true)
    (is : new ≡ after_descriptor structures_alone force (said_of force.structure d)) where
  key_first : is_key_start (said_of force.structure d) ≡ true → (said_of new.structure d ≡ said_of force.structure d) × IsFirst new d
  key_first key =
      let s = key_has d.structure _ key in
      let now : new.structure ≡ Some s.0 =
      ap (λ (f : Force TemplateStructure). f.structure) is ∙ structure_with force (said_of force.structure d) true key ∙ s.1 in
      let same = own_content new.structure force.structure d s.0 s.1 in (
        ap said same,
        record {
          structure = s.0;
          is = now;
          read = record {
            bytes = element;
            reads = own_structure element force.structure new.structure (content_of force.structure d) s.0 reads s.1 ∙ ap (λ (c : Content). Ok c) (sym same);
            few = few;
          };
          keeps = inr s.1;
        },
      )

  kept_first : is_key_start (said_of force.structure d) ≡ false → (said_of new.structure d ≡ said_of force.structure d) × IsFirst new d
  kept_first key =
      let now : new.structure ≡ force.structure =
      ap (λ (f : Force TemplateStructure). f.structure) is ∙ structure_with force (said_of force.structure d) false key in
      let keeps : keeps_structure structures_alone force.structure d.structure ≡ true =
      sym (ap (λ (b : Bool). b || keeps_structure structures_alone force.structure d.structure) key) ∙ rule in
      let found = in_force force.structure d.structure refl refl keeps in (
        ap (λ (o : Option TemplateStructure). said_of o d) now,
        record {
          structure = found.0;
          is = now ∙ found.1;
          read = record {
            bytes = element;
            reads = subst (λ (o : Option TemplateStructure). descriptor_at element o ≡ Ok (content_of o d)) (sym now) reads;
            few = few;
          };
          keeps = found.2;
        },
      )
    where
      in_force : (f o : Option TemplateStructure) → force.structure ≡ f → d.structure ≡ o → keeps_structure structures_alone f o ≡ true
          → (s : TemplateStructure) × (f ≡ Some s) × ((o ≡ None) ⊎ (o ≡ Some s))
      in_force None None ef eo k =
          absurd (subst (λ (h : Option TemplateStructure). IsWritableBy h (content_of None d)) (ap (λ (x : Option TemplateStructure). holding x None) eo)
          (descriptor_found element None (content_of None d) tt (subst (λ (x : Option TemplateStructure). descriptor_at element x ≡ Ok (content_of x d)) ef reads)))
      in_force None (Some t) ef eo k = absurd (cc)
      in_force (Some s) None ef eo k = (s, refl, inl refl)
      in_force (Some s) (Some t) ef eo k = (s, refl, inr (ap (λ (x : TemplateStructure). Some x) ((same_structure t s).0 k)))

  pub first_here : (joins : Joins) (packet : Packet) → HasFirst new d (part_of (said_of force.structure d) joins packet)
  first_here joins packet = go (is_key_start (said_of force.structure d)) refl
    where
      go : (b : Bool) → is_key_start (said_of force.structure d) ≡ b → HasFirst new d (part_of (said_of force.structure d) joins packet)
      go true key = (let f = key_first key in record { said = f.0; first = f.1 })
      go false key = (let f = kept_first key in record { said = f.0; first = f.1 })

-- ---- payloads

pub not_padding : (f : PayloadFlags) → (f ≡ flags.Empty → ⊥) → is_padding (payload_said f) ≡ false
not_padding flags.Empty other = absurd (other refl)
not_padding flags.Broken other = refl
not_padding (flags.Elements z y) other = refl

pub broken_only : (f : PayloadFlags) → (f ≡ flags.Empty → ⊥) → ((z y : Bool) → f ≡ flags.Elements z y → ⊥) → payload_said f ≡ Broken
broken_only flags.Empty other more = absurd (other refl)
broken_only flags.Broken other more = refl
broken_only (flags.Elements z y) other more = absurd (more z y refl)

pub few_refs : (d : Descriptor) (r : Result Unit DdFault) → false ≡ is_err r → OnOk r (d.ref_count ≤ 16) → d.ref_count ≤ 16
few_refs d (Ok u) ok few = few
few_refs d (Err e) ok few = absurd (cc)
