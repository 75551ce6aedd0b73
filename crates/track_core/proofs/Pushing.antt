-- What a mark that is pushed makes.
use Rattle.std.proofs.Common.{◌≡◌, ℕ, Bool, true, false, List, ◌∷◌, Option, Some, None, Result, refl, sym, ap, subst, ◌∙◌}
use Rattle.std.specs.Prelude.{IfSome, is_some}
use Rattle.std.specs.Option.{option_map}
use Rattle.std.specs.Result.{result_ok}
use Rattle.sfu_base.specs.declared.frame.FrameMeaning.{FrameMeaning}
use Rattle.sfu_base.specs.Frame.{IsValid}
use Rattle.forwarding_model.specs.forwarding.Timeline.{meaning_of}
use Rattle.forwarding_model.specs.frames.Cuts.{Mark, Outcome as CutOutcome, cut_by, extended, outcome, run_of}
use Rattle.forwarding_model.specs.frames.Cuts.Outcome.{IsPadding, IsWhole, IsPartial, IsTorn}
use Rattle.forwarding_model.specs.frames.Frames.{Force, frame_of, framed, newest_with, number_of, with_frame}
use Rattle.dd_structure.specs.TemplateStructure.{TemplateStructure}
use Rattle.dd_layout.specs.Layouts.{structures_alone}
use Rattle.frame_assembly.specs.declared.mark.Mark.{Mark as CodeMark}
use Rattle.frame_assembly.specs.declared.mark.Outcome.{Outcome}
use Rattle.frame_assembly.specs.declared.mark.Outcome.TheVariants as made
use Rattle.frame_assembly.specs.Assembled.{answer, marked, IsAfter as AssembledAfter}
use Rattle.frame_table.specs.declared.table.FrameHead.{FrameHead}
use Rattle.frame_table.specs.declared.table.Stale.{Stale}
use Rattle.frame_table.specs.Heads.{head_of, meant_at, meant_with_head, numbered_at, written_or_stale}
use Rattle.frame_table.specs.Seen.{newest_after}
use Rattle.track_core.specs.declared.layers.Layers.{Layers}
use Rattle.track_core.specs.Layers.{HasHead, IsHeadOf, IsRunning, Pushed, StartsAs, framed_by, sent_marks, sent_of, starts, written}
use Rattle.track_core.specs.Mapped.{mark_with}
use Rattle.track_core.proofs.Heads.{TheMark, TheRun, extended_head, same_start}
use Rattle.track_core.proofs.Mapped.{no_cut, outcome_of_with, whole_cut}

whole_answer : (o : CutOutcome) → made.Whole ≡ answer o → o ≡ IsWhole
whole_answer IsPadding e = absurd (cc)
whole_answer IsWhole e = refl
whole_answer IsPartial e = absurd (cc)
whole_answer IsTorn e = absurd (cc)

-- the outcome that is returned is that of the marks
pub outcome_is : (mark : CodeMark) (bytes : List ℕ) (marks : List TheMark) (m : TheMark) (result : Outcome) → marked mark bytes ≡ mark_with sent_of m
    → result ≡ answer (outcome (run_of (sent_marks marks)) (marked mark bytes)) → result ≡ answer (outcome (run_of marks) m)
outcome_is mark bytes marks m result same e =
    e ∙ ap answer (ap (outcome (run_of (sent_marks marks))) same ∙ outcome_of_with sent_of marks m)

pub cut_here : (marks : List TheMark) (m : TheMark) → made.Whole ≡ answer (outcome (run_of marks) m)
    → (r : TheRun) × (extended (run_of marks) m ≡ Some r) × (cut_by (run_of marks) m ≡ Some r)
cut_here marks m e = whole_cut (run_of marks) m (whole_answer (outcome (run_of marks) m) e)

pub none_here : (marks : List TheMark) (m : TheMark) (result : Outcome) → (result ≡ made.Whole → ⊥) → result ≡ answer (outcome (run_of marks) m)
    → cut_by (run_of marks) m ≡ None
none_here marks m result other e = no_cut (run_of marks) m (λ whole. other (e ∙ ap answer whole))

some_has : {A : Type 0} (P : A → Type 0) (o : Option A) (x : A) → o ≡ Some x → IfSome o P → P x
some_has P (Some y) x e h = let same : y ≡ x = cc in subst P same h
some_has P None x e h = absurd (cc)

-- the head of a frame that became whole
pub head_there : (layers : Layers) (run : Option TheRun) (r : TheRun) → run ≡ Some r → IfSome run (HasHead layers) → HasHead layers r
head_there layers run r is has = some_has (HasHead layers) run r is has

module _ (force : Force TemplateStructure) (head : FrameHead) (r : TheRun) (s : TemplateStructure) (is : head ≡ head_of r.first.brings.descriptor) (has : force.structure ≡ Some s) where
  frame_with : (o : Option ℕ) → result_ok (meant_with_head s force (head_of r.first.brings.descriptor) o) ≡ option_map meaning_of (framed structures_alone force r (Some s) o)
  frame_with None = refl
  frame_with (Some n) = refl

  pub frame_made : (x : Result FrameMeaning Stale) → x ≡ meant_at s force head → result_ok x ≡ option_map meaning_of (frame_of structures_alone force (Some r))
  frame_made x e =
      ap result_ok (e ∙ ap (meant_at s force) is) ∙ frame_with (number_of force r.first.brings.descriptor)
      ∙ ap (λ (o : Option TemplateStructure). option_map meaning_of (framed structures_alone force r o (number_of force r.first.brings.descriptor))) (sym has)

  newest_same : (o : Option ℕ) → newest_after o force.newest ≡ newest_with (framed structures_alone force r (Some s) o) force.newest
  newest_same None = refl
  newest_same (Some n) = refl

  pub force_made : (new : Force TemplateStructure) → new ≡ numbered_at force head → new ≡ with_frame force (frame_of structures_alone force (Some r))
  force_made new e =
      e ∙ ap (numbered_at force) is
      ∙ ap (λ (n : ℕ). let f : Force TemplateStructure = record force { newest = n } in f)
      (newest_same (number_of force r.first.brings.descriptor)
      ∙ ap (λ (o : Option TemplateStructure). newest_with (framed structures_alone force r o (number_of force r.first.brings.descriptor)) force.newest) (sym has))

-- the run after the mark
pub running_after : (old new : Layers) (mark : CodeMark) (bytes : List ℕ) (marks : List TheMark) (m : TheMark) → new.table.structure ≡ old.table.structure
    → marked mark bytes ≡ mark_with sent_of m → ((past : List (Mark (List ℕ))) → AssembledAfter old.assembly past → AssembledAfter new.assembly (marked mark bytes ∷ past))
    → (starts mark ≡ true → IsHeadOf old.table old.newest new.head) → (starts mark ≡ false → new.head ≡ old.head) → StartsAs old.table old.newest m
    → IsRunning old marks → IsRunning new (m ∷ marks)
running_after old new mark bytes marks m structure same stands started kept first running = record {
  assembly = subst (λ (k : Mark (List ℕ)). AssembledAfter new.assembly (k ∷ sent_marks marks)) same (stands (sent_marks marks) running.assembly);
  head = extended_head old new structure (run_of marks) m (starts mark) (same_start mark bytes m same) started kept first running.head;
}

some_structure : (o : Option TemplateStructure) → is_some o ≡ true → (s : TemplateStructure) × (o ≡ Some s)
some_structure None e = absurd (cc)
some_structure (Some s) e = (s, refl)

-- a meaning that was written, as the table returns it
pub written_ok : (is_written : Bool) (meaning : FrameMeaning) (newest : ℕ) → written is_written meaning ≡ result_ok (written_or_stale is_written meaning newest)
written_ok false meaning newest = refl
written_ok true meaning newest = refl

pub written_valid : (is_written : Bool) (meaning : FrameMeaning) → (is_written ≡ true → IsValid meaning) → IfSome (written is_written meaning) IsValid
written_valid false meaning valid = tt
written_valid true meaning valid = valid refl

-- ---- one push, by its outcome

module _ (old new : Layers) (mark : CodeMark) (bytes : List ℕ) (result : Outcome)
    (outcomes : (past : List (Mark (List ℕ))) → AssembledAfter old.assembly past → result ≡ answer (outcome (run_of past) (marked mark bytes)))
    (stands : (past : List (Mark (List ℕ))) → AssembledAfter old.assembly past → AssembledAfter new.assembly (marked mark bytes ∷ past))
    (started : starts mark ≡ true → IsHeadOf old.table old.newest new.head) (kept : starts mark ≡ false → new.head ≡ old.head)
    (marks : List TheMark) (m : TheMark) (running : IsRunning old marks) (same : marked mark bytes ≡ mark_with sent_of m) (first : StartsAs old.table old.newest m) where
  answered_here : result ≡ answer (outcome (run_of marks) m)
  answered_here = outcome_is mark bytes marks m result same (outcomes (sent_marks marks) running.assembly)

  pub cut_made : result ≡ made.Whole → (r : TheRun) × (extended (run_of marks) m ≡ Some r) × (cut_by (run_of marks) m ≡ Some r)
  cut_made whole = cut_here marks m (sym whole ∙ answered_here)

  -- the head of the whole frame, whatever changes in the table except its structure
  pub whole_head : new.table.structure ≡ old.table.structure → (whole : result ≡ made.Whole) → HasHead new (cut_made whole).0
  whole_head structure whole =
      head_there new (extended (run_of marks) m) (cut_made whole).0 (cut_made whole).1
      (extended_head old new structure (run_of marks) m (starts mark) (same_start mark bytes m same) started kept first running.head)

  pub pushed_whole : (meaning : Result FrameMeaning Stale) → result ≡ made.Whole
      → ((s : TemplateStructure) → old.table.structure ≡ Some s → meaning ≡ meant_at s old.table new.head) → new.table ≡ numbered_at old.table new.head
      → Pushed old new (result_ok meaning) marks m
  pushed_whole meaning whole meant numbered =
      let structure : new.table.structure ≡ old.table.structure = ap (λ (f : Force TemplateStructure). f.structure) numbered in
      let cut = cut_made whole in
      let head = whole_head structure whole in
      let s = some_structure old.table.structure (ap (λ (o : Option TemplateStructure). is_some o) (sym structure) ∙ head.structure) in
      let framed_is : framed_by old.table marks m ≡ frame_of structures_alone old.table (Some cut.0) = ap (frame_of structures_alone old.table) cut.2 in
      record {
        running = running_after old new mark bytes marks m structure same stands started kept first running;
        force = force_made old.table new.head cut.0 s.0 head.head s.1 new.table numbered ∙ ap (with_frame old.table) (sym framed_is);
        made = frame_made old.table new.head cut.0 s.0 head.head s.1 meaning (meant s.0 s.1) ∙ ap (option_map meaning_of) (sym framed_is);
      }

  pub pushed_other : (result ≡ made.Whole → ⊥) → new.table ≡ old.table → Pushed old new None marks m
  pushed_other other table =
      let none = none_here marks m result other answered_here in
      record {
        running = running_after old new mark bytes marks m (ap (λ (f : Force TemplateStructure). f.structure) table) same stands started kept first running;
        force = table ∙ sym (ap (λ (o : Option TheRun). with_frame old.table (frame_of structures_alone old.table o)) none);
        made = sym (ap (λ (o : Option TheRun). option_map meaning_of (frame_of structures_alone old.table o)) none);
      }
