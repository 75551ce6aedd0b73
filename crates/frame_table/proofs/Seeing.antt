-- How a descriptor changes what is in force, case by case.
use Rattle.std.proofs.Common.{◌≡◌, ℕ, Bool, true, false, cond, Option, Some, None, refl, sym, subst, ap, ◌∙◌}
use Rattle.std.specs.Prelude.{IfSome, is_some}
use Rattle.forwarding_model.specs.frames.Reading.{is_key_start, keeps_structure}
use Rattle.forwarding_model.specs.frames.Frames.{Force}
use Rattle.dd_structure.specs.TemplateStructure.{TemplateStructure}
use Rattle.dd_structure.specs.Spelling.{IsWellFormed}
use Rattle.dd_descriptor.specs.declared.descriptor.Descriptor.{Descriptor}
use Rattle.dd_layout.specs.Layouts.{structures_alone}
use Rattle.frame_table.specs.declared.table.Reading.{Reading}
use Rattle.frame_table.specs.declared.table.Reading.TheVariants as reading
use Rattle.frame_table.specs.declared.table.FrameTable.TheInside.{Inside}
use Rattle.frame_table.specs.Kept.{IsLaidOut}
use Rattle.frame_table.specs.Seen.{IsMaskOf, IsReadBy, answer, begun, masked, said_of, seen_by}
use Rattle.dd_descriptor.specs.Content.{holding}
use Rattle.dd_layout.proofs.Layouts.{same_structure}
use Rattle.frame_table.proofs.ReadDescriptors.{mask_of}

pub well_formed_from : (t : Inside) (o : Option TemplateStructure) → IfSome o (IsLaidOut t) → IfSome o IsWellFormed
well_formed_from t None laid = tt
well_formed_from t (Some s) laid = laid.well_formed

pub told_is : (o : Option ℕ) → is_some o ≡ true → (m : ℕ) × (o ≡ Some m)
told_is None e = absurd (cc)
told_is (Some m) e = (m, refl)

module _ (force : Force TemplateStructure) (d : Descriptor) where
  pub key_reading : true ≡ is_key_start (said_of force.structure d) → reading.Key ≡ answer force d
  key_reading key = rw (← key) refl

  pub key_force : (s : TemplateStructure) → true ≡ is_key_start (said_of force.structure d) → d.structure ≡ Some s → is_some d.mask ≡ true
      → begun force s d.mask d.number ≡ seen_by force d
  key_force s key is told =
      let mask = told_is d.mask told in
      rw (← key, is, mask.1) refl

  pub unread_reading : (s : TemplateStructure) → false ≡ is_key_start (said_of force.structure d) → d.structure ≡ Some s
      → keeps_structure structures_alone force.structure (Some s) ≡ false → reading.Unread ≡ answer force d
  unread_reading s key is keeps = rw (← key, is, keeps) refl

  pub unread_force : (s : TemplateStructure) → false ≡ is_key_start (said_of force.structure d) → d.structure ≡ Some s
      → keeps_structure structures_alone force.structure (Some s) ≡ false → force ≡ seen_by force d
  unread_force s key is keeps = rw (← key, is, keeps) refl

  pub kept_reading : (s : TemplateStructure) → false ≡ is_key_start (said_of force.structure d) → d.structure ≡ Some s
      → keeps_structure structures_alone force.structure (Some s) ≡ true → reading.Part ≡ answer force d
  kept_reading s key is keeps = rw (← key, is, keeps) refl

  pub kept_force : (s : TemplateStructure) → false ≡ is_key_start (said_of force.structure d) → d.structure ≡ Some s
      → keeps_structure structures_alone force.structure (Some s) ≡ true → is_some d.mask ≡ true → masked force d.mask ≡ seen_by force d
  kept_force s key is keeps told =
      let mask = told_is d.mask told in
      rw (← key, is, keeps, mask.1) refl

-- a structure that is kept is the one in force
pub same_kept : (force : Option TemplateStructure) (s t : TemplateStructure) → keeps_structure structures_alone force (Some s) ≡ true → force ≡ Some t → s ≡ t
same_kept None s t keeps is = absurd (cc)
same_kept (Some u) s t keeps is = (same_structure s u).0 keeps ∙ some_same u t is
  where
    some_same : (a b : TemplateStructure) → Some a ≡ Some b → a ≡ b
    some_same a b e = cc

-- so its mask is one of the structure in force
pub mask_kept : (force : Option TemplateStructure) (d : Descriptor) (s : TemplateStructure) → IfSome force IsWellFormed → IsReadBy force d → d.structure ≡ Some s
    → keeps_structure structures_alone force (Some s) ≡ true → IfSome force (IsMaskOf d.mask)
mask_kept None d s well read is keeps = tt
mask_kept (Some t) d s well read is keeps =
    subst (IsMaskOf d.mask) (same_kept (Some t) s t keeps refl) (mask_of (Some t) d s well read (ap (λ (o : Option TemplateStructure). holding o (Some t)) is))
