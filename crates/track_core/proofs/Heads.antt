-- The stored head is that of the current run's first descriptor.
use Rattle.std.proofs.Common.{◌≡◌, ℕ, Bool, true, false, cond, List, [], ◌∷◌, ◌++◌, Option, Some, None, refl, sym, ap, subst, ◌∙◌}
use Rattle.std.specs.Prelude.{IfSome, is_some}
use Rattle.forwarding_model.specs.frames.Cuts.{Part, Mark, Run, begun, continued, extended, is_next}
use Rattle.forwarding_model.specs.frames.Cuts.Mark.{Gone, Padding, Unreadable, Read}
use Rattle.forwarding_model.specs.frames.Frames.{Force, ReadPacket}
use Rattle.dd_structure.specs.TemplateStructure.{TemplateStructure}
use Rattle.dd_descriptor.specs.declared.descriptor.Descriptor.{Descriptor}
use Rattle.frame_assembly.specs.declared.mark.Mark.{Mark as CodeMark}
use Rattle.frame_assembly.specs.declared.mark.Mark.TheVariants as code
use Rattle.frame_assembly.specs.Assembled.{marked}
use Rattle.frame_table.specs.Heads.{HasReferences, head_of}
use Rattle.frame_table.specs.Seen.{IsFirst}
use Rattle.track_core.specs.declared.layers.Layers.{Layers}
use Rattle.track_core.specs.Layers.{HasFirst, HasHead, IsHeadOf, StartsAs, sent_of, starts}
use Rattle.track_core.specs.Mapped.{mark_with}

abbrev pub TheMark : Type 0
TheMark = Mark (ReadPacket TemplateStructure)

abbrev pub ThePart : Type 0
ThePart = Part (ReadPacket TemplateStructure)

abbrev pub TheRun : Type 0
TheRun = Run (ReadPacket TemplateStructure)

-- a mark starts a frame exactly if its part does
abbrev starts_frame : TheMark → Bool
starts_frame Gone = false
starts_frame Padding = false
starts_frame Unreadable = false
starts_frame (Read part) = part.start

pub same_start : (mark : CodeMark) (bytes : List ℕ) (m : TheMark) → marked mark bytes ≡ mark_with sent_of m → starts mark ≡ starts_frame m
same_start code.Gone bytes Gone e = refl
same_start code.Gone bytes Padding e = refl
same_start code.Gone bytes Unreadable e = refl
same_start code.Gone bytes (Read part) e = absurd (cc)
same_start code.Pad bytes Gone e = refl
same_start code.Pad bytes Padding e = refl
same_start code.Pad bytes Unreadable e = refl
same_start code.Pad bytes (Read part) e = absurd (cc)
same_start code.Unread bytes Gone e = refl
same_start code.Unread bytes Padding e = refl
same_start code.Unread bytes Unreadable e = refl
same_start code.Unread bytes (Read part) e = absurd (cc)
same_start (code.Part s l n z y) bytes Gone e = absurd (cc)
same_start (code.Part s l n z y) bytes Padding e = absurd (cc)
same_start (code.Part s l n z y) bytes Unreadable e = absurd (cc)
same_start (code.Part s l n z y) bytes (Read part) e = ap first e
  where
    first : Mark (List ℕ) → Bool
    first Gone = false
    first Padding = false
    first Unreadable = false
    first (Read part) = part.start

-- the first descriptor of a frame that starts is there
pub first_there : (force : Force TemplateStructure) (d : Descriptor) (m : TheMark) → StartsAs force d m → starts_frame m ≡ true → IsFirst force d
first_there force d Gone s e = absurd (cc)
first_there force d Padding s e = absurd (cc)
first_there force d Unreadable s e = absurd (cc)
first_there force d (Read part) s e = (s part refl).first

module _ (old new : Layers) (same : new.table.structure ≡ old.table.structure) where
  kept_head : (run : TheRun) → new.head ≡ old.head → HasHead old run → HasHead new run
  kept_head run kept has = record {
    head = kept ∙ has.head;
    references = subst HasReferences (sym kept) has.references;
    structure = ap (λ (o : Option TemplateStructure). is_some o) same ∙ has.structure;
  }

  begun_head : (part : ThePart) → HasFirst old.table old.newest part → IsHeadOf old.table old.newest new.head → IfSome (begun part) (HasHead new)
  begun_head part first head = go part.continues
    where
      has : HasHead new (record { first = part; more = []; newest = part })
      has = record {
        head = head.is ∙ ap head_of first.said;
        references = head.references;
        structure = ap (λ (o : Option TemplateStructure). is_some o) (same ∙ first.first.is);
      }

      go : (b : Bool) → IfSome (cond b None (Some (record { first = part; more = []; newest = part }))) (HasHead new)
      go true = tt
      go false = has

  continued_head : (run : Option TheRun) (part : ThePart) → new.head ≡ old.head → IfSome run (HasHead old) → IfSome (continued run part) (HasHead new)
  continued_head None part kept has = tt
  continued_head (Some run) part kept has = go (is_next run part)
    where
      head : HasHead new (record { first = run.first; more = run.more ++ part ∷ []; newest = part })
      head = (let k = kept_head run kept has in record { head = k.head; references = k.references; structure = k.structure })

      go : (b : Bool) → IfSome (cond b (Some (record { first = run.first; more = run.more ++ part ∷ []; newest = part })) None) (HasHead new)
      go true = head
      go false = tt

  kept_run : (run : Option TheRun) → new.head ≡ old.head → IfSome run (HasHead old) → IfSome run (HasHead new)
  kept_run None kept has = tt
  kept_run (Some run) kept has = kept_head run kept has

  pub extended_head : (run : Option TheRun) (m : TheMark) (start : Bool) → start ≡ starts_frame m → (start ≡ true → IsHeadOf old.table old.newest new.head)
      → (start ≡ false → new.head ≡ old.head) → StartsAs old.table old.newest m → IfSome run (HasHead old) → IfSome (extended run m) (HasHead new)
  extended_head run Gone start is started kept s has = tt
  extended_head run Padding start is started kept s has = kept_run run (kept is) has
  extended_head run Unreadable start is started kept s has = tt
  extended_head run (Read part) start is started kept s has = go part.start refl
    where
      go : (b : Bool) → part.start ≡ b → IfSome (cond b (begun part) (continued run part)) (HasHead new)
      go true e = begun_head part (s part refl) (started (is ∙ e))
      go false e = continued_head run part (kept (is ∙ e)) has
