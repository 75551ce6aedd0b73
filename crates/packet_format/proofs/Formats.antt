-- The format of each id has the properties that the laws of forwarding require.
use Rattle.std.proofs.Common.{◌≡◌, ℕ, ◌<◌, ◌^◌, true, List, Option, Some, None, Result, Ok, Err, refl, sym, subst, ap, ◌∙◌, arith}
use Rattle.std.specs.Prelude.{IfSome}
use Rattle.sfu_base.specs.Frame.{IsDistance}
use Rattle.forwarding_model.specs.frames.Reading.{Descriptor, IsCarried, IsDescriptor, IsFormat, MayBeInForce, has_structure, read_by}
use Rattle.forwarding_model.specs.frames.Reading.DescriptorReading.{Reads}
use Rattle.dd_structure.specs.Spelling.{IsWellFormed}
use Rattle.dd_structure.specs.TemplateStructure.{TemplateStructure}
use Rattle.dd_descriptor.specs.declared.fault.DdFault.{DdFault}
use Rattle.dd_descriptor.specs.declared.fault.DdFault.TheVariants as faults
use Rattle.dd_descriptor.specs.Content.{Content, holding}
use Rattle.dd_layout.specs.Layouts.{layout_of}
use Rattle.packet_format.specs.Formats.{said}
use Rattle.dd_descriptor.specs.Reading.{descriptor_at}
use Rattle.dd_descriptor.specs.Spelling.{IsReference, IsWritable, IsWritableBy}
use Rattle.dd_descriptor.proofs.Found.{carried_well_formed, descriptor_found}
use Rattle.dd_descriptor.proofs.Items.{all_at}
use Rattle.dd_layout.proofs.Layouts.{at_front, is_layout, same_structure}
use Rattle.dd_descriptor.proofs.OwnStructure.{own_structure}
use Rattle.packet_format.specs.Formats.{descriptor_in, element_of, format_of, reading_of}

-- a descriptor that can be parsed is the one that the element's bytes encode
pub record IsRead (id : ℕ) (force : Option TemplateStructure) (rest : List ℕ) (d : Descriptor TemplateStructure) : Type 0 where
  pub bytes : List ℕ
  pub found : element_of id rest ≡ Some bytes
  pub content : Content
  pub reads : descriptor_at bytes force ≡ Ok content
  pub is : said content ≡ d

pub is_read : (id : ℕ) (force : Option TemplateStructure) (rest : List ℕ) (d : Descriptor TemplateStructure) → (format_of id).descriptor force rest ≡ Reads d → IsRead id force rest d
is_read id force rest d h = go (element_of id rest) refl h
  where
    read : (bytes : List ℕ) → element_of id rest ≡ Some bytes → (r : Result Content DdFault) → descriptor_at bytes force ≡ r → reading_of r ≡ Reads d → IsRead id force rest d
    read bytes f (Ok c) e k = record { bytes = bytes; found = f; content = c; reads = e; is = cc }
    read bytes f (Err faults.Short) e k = absurd (cc)
    read bytes f (Err faults.NoStructure) e k = absurd (cc)
    read bytes f (Err (faults.Template index count)) e k = absurd (cc)
    read bytes f (Err faults.References) e k = absurd (cc)
    read bytes f (Err (faults.Bad fault)) e k = absurd (cc)

    go : (o : Option (List ℕ)) → element_of id rest ≡ o → descriptor_in force o ≡ Reads d → IsRead id force rest d
    go None f k = absurd (cc)
    go (Some bytes) f k = read bytes f (descriptor_at bytes force) refl k

some_holds : {A : Type 0} (P : A → Type 0) (o : Option A) (x : A) → IfSome o P → o ≡ Some x → P x
some_holds P (Some y) x h e = let same : y ≡ x = cc in subst P same h
some_holds P None x h e = absurd (cc)

pub well_carried : (id : ℕ) (s : TemplateStructure) → IsCarried (format_of id) s → IsWellFormed s
well_carried id s carried =
    let r = is_read id None carried.rest carried.descriptor carried.reads in
    some_holds IsWellFormed r.content.structure s (carried_well_formed r.bytes None r.content r.reads)
    (ap (λ (d : Descriptor TemplateStructure). d.structure) r.is ∙ carried.carries)

pub well_in_force : (id : ℕ) (force : Option TemplateStructure) → MayBeInForce (format_of id) force → IfSome force IsWellFormed
well_in_force id None may = tt
well_in_force id (Some s) may = well_carried id s may

-- ---- descriptors

by_structure : (h : Option TemplateStructure) (c : Content) → IsWritableBy h c → (s : TemplateStructure) × (h ≡ Some s) × IsWritable s c
by_structure None c w = absurd w
by_structure (Some s) c w = (s, refl, w)

same_reader : (force carried : Option TemplateStructure) → read_by force carried ≡ holding carried force
same_reader force None = refl
same_reader force (Some s) = refl

mask_within : (s t : TemplateStructure) (mask : Option ℕ) (m : ℕ) → IfSome mask (λ m. m < 2 ^ s.target_count) → mask ≡ Some m → s ≡ t → m < 2 ^ (layout_of t).target_count
mask_within s t mask m small is same = subst (λ (u : TemplateStructure). m < 2 ^ u.target_count) same (some_holds (λ (k : ℕ). k < 2 ^ s.target_count) mask m small is)

said_is_valid : (id : ℕ) (force : Option TemplateStructure) (bytes : List ℕ) (c : Content) → IfSome force IsWellFormed → descriptor_at bytes force ≡ Ok c
    → IsDescriptor (format_of id) force (said c)
said_is_valid id force bytes c well reads =
    let w = by_structure (holding c.structure force) c (descriptor_found bytes force c well reads) in
    record {
      number = omega (arith, w.2.number);
      references = w.2.frame.few_distances;
      distances = λ i lt.
          let found = all_at IsReference c.frame.distances i 0 w.2.frame.distances lt in
          subst IsDistance (sym (at_front 16 0 0 c.frame.distances i lt)) (record { back = found.0; near = found.1 });
      layout = λ s has. is_layout s (some_holds IsWellFormed c.structure s (carried_well_formed bytes force c reads) has);
      mask = λ s m by has.
          let both : Some w.0 ≡ Some s = sym w.1 ∙ sym (same_reader force c.structure) ∙ by in
          let same : w.0 ≡ s = cc in
          mask_within w.0 s c.mask m w.2.mask has same;
    }

carries_one : (c : Content) → IsWritableBy (holding c.structure None) c → has_structure c.structure ≡ true
carries_one c w = go c.structure w
  where
    go : (o : Option TemplateStructure) → IsWritableBy (holding o None) c → has_structure o ≡ true
    go None w = absurd w
    go (Some s) w = refl

the_structure : (o : Option TemplateStructure) → has_structure o ≡ true → (s : TemplateStructure) × (o ≡ Some s)
the_structure None h = absurd (cc)
the_structure (Some s) h = (s, refl)

reads_alike : (id : ℕ) (force other : Option TemplateStructure) (rest : List ℕ) (d : Descriptor TemplateStructure)
    → (format_of id).descriptor force rest ≡ Reads d → has_structure d.structure ≡ true → (format_of id).descriptor other rest ≡ Reads d
reads_alike id force other rest d h has =
    let r = is_read id force rest d h in
    let s = the_structure r.content.structure (ap (λ (x : Descriptor TemplateStructure). has_structure x.structure) r.is ∙ has) in
    ap (descriptor_in other) r.found ∙ ap reading_of (own_structure r.bytes force other r.content s.0 r.reads s.1) ∙ ap Reads r.is

pub is_format : (id : ℕ) → IsFormat (format_of id)
is_format id = record {
  valid = λ force rest d may h.
      let r = is_read id force rest d h in
      subst (IsDescriptor (format_of id) force) r.is (said_is_valid id force r.bytes r.content (well_in_force id force may) r.reads);
  carries = λ rest d h.
      let r = is_read id None rest d h in
      ap (λ (x : Descriptor TemplateStructure). has_structure x.structure) (sym r.is) ∙ carries_one r.content (descriptor_found r.bytes None r.content tt r.reads);
  independent = reads_alike id;
  same = λ s t cs ct e. (same_structure s t).0 e;
  itself = λ s cs. (same_structure s s).1 refl;
}
