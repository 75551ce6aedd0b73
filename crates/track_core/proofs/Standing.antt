-- What a layered track represents after one more packet.
use Rattle.std.proofs.Common.{◌≡◌, ℕ, Bool, true, false, cond, List, [], ◌∷◌, Option, Some, None, refl, sym, ap, ap₂, subst, ◌∙◌}
use Rattle.std.specs.Prelude.{IfSome, is_some}
use Rattle.std.specs.Option.{option_map}
use Rattle.sfu_base.specs.declared.frame.FrameMeaning.{FrameMeaning}
use Rattle.forwarding_model.specs.forwarding.Timeline.{Frame, meaning_of}
use Rattle.forwarding_model.specs.frames.Reading.{shown}
use Rattle.forwarding_model.specs.frames.Cuts.{cut_by, extended, run_of}
use Rattle.forwarding_model.specs.frames.Cuts.Mark.{Padding}
use Rattle.forwarding_model.specs.frames.Frames.{Item, Force, Made, TrackState, after_showing, frame_of, is_padding, made_by, made_by_item, made_by_packet, showing_mark, state_after, with_frame}
use Rattle.forwarding_model.specs.frames.Frames.Item.{Missing, Arrived}
use Rattle.dd_structure.specs.TemplateStructure.{TemplateStructure}
use Rattle.dd_layout.specs.Layouts.{structures_alone}
use Rattle.frame_assembly.specs.declared.mark.Mark.{Mark as CodeMark}
use Rattle.frame_assembly.specs.Assembled.{Seen as Assembled, IsAfter as AssembledAfter}
use Rattle.frame_table.specs.Heads.{HasReferences}
use Rattle.packet_format.specs.Formats.{format_of}
use Rattle.packet_format.specs.Packets.{packet_of}
use Rattle.track_core.specs.declared.layers.Layers.{Layers}
use Rattle.track_core.specs.Layers.{HasHead, IsAfterAs, IsPushable, IsRunning, Looked, Pushed, force_of, framed_by, mark_of, marks_of, meaning_made, sent_marks}
use Rattle.track_core.proofs.Heads.{TheMark, TheRun}

-- what an item makes, computed from its mark and what is in force after it
pub made_of : (id : ℕ) (state : TrackState TemplateStructure) (item : Item)
    → made_by_item (format_of id) state item ≡ made_by (format_of id) (force_of id state.force item) state.run (mark_of id state.force.structure item)
made_of id state Missing = refl
made_of id state (Arrived p) = go (is_padding ((format_of id).payload p.rest))
  where
    go : (b : Bool) → cond b (made_by (format_of id) state.force state.run Padding) (made_by_packet (format_of id) state p (shown (format_of id) state.force.structure p.rest))
        ≡ made_by (format_of id) (cond b state.force (after_showing (format_of id) state.force (shown (format_of id) state.force.structure p.rest))) state.run
        (cond b Padding (showing_mark (shown (format_of id) state.force.structure p.rest) p))
    go true = refl
    go false = refl

-- the run is that of the marks
pub run_is : (id : ℕ) (past : List Item) → (state_after (format_of id) past).run ≡ run_of (marks_of id past)
run_is id [] = refl
run_is id (item ∷ past) =
    ap (λ (m : Made TemplateStructure). m.state.run) (made_of id (state_after (format_of id) past) item)
    ∙ ap (λ (run : Option TheRun). extended run (mark_of id (state_after (format_of id) past).force.structure item)) (run_is id past)

some_kept : (a b : Layers) (run : Option TheRun) → b.head ≡ a.head → (is_some a.table.structure ≡ true → is_some b.table.structure ≡ true)
    → IfSome run (HasHead a) → IfSome run (HasHead b)
some_kept a b None head some has = tt
some_kept a b (Some run) head some has = record {
  head = head ∙ has.head;
  references = subst HasReferences (sym head) has.references;
  structure = some has.structure;
}

pub running_kept : (a b : Layers) (marks : List TheMark) → b.assembly ≡ a.assembly → b.head ≡ a.head → (is_some a.table.structure ≡ true → is_some b.table.structure ≡ true)
    → IsRunning a marks → IsRunning b marks
running_kept a b marks assembly head some running = record {
  assembly = subst (λ (x : Assembled). AssembledAfter x (sent_marks marks)) (sym assembly) running.assembly;
  head = some_kept a b (run_of marks) head some running.head;
}

module _ (id : ℕ) (old looked : Layers) (mark : CodeMark) (bytes : List ℕ) (past : List Item)
    (after : IsAfterAs id old past) (look : Looked id old.table looked.table looked.newest mark bytes) (assembly : looked.assembly ≡ old.assembly) (head : looked.head ≡ old.head) where
  pub now_running : IsRunning looked (marks_of id past)
  now_running = running_kept old looked (marks_of id past) assembly head look.structure after.running

  pub pushable : IsPushable looked mark bytes
  pushable = record {
    marks = marks_of id past;
    next = mark_of id old.table.structure (Arrived (packet_of bytes));
    running = now_running;
    same = look.marked;
    first = look.starts;
  }

  module _ (new : Layers) (result : Option FrameMeaning) (push : Pushed looked new result (marks_of id past) (mark_of id old.table.structure (Arrived (packet_of bytes)))) where
    the_state : TrackState TemplateStructure
    the_state = state_after (format_of id) past

    the_mark : mark_of id old.table.structure (Arrived (packet_of bytes)) ≡ mark_of id (state_after (format_of id) past).force.structure (Arrived (packet_of bytes))
    the_mark = ap (λ (f : Force TemplateStructure). mark_of id f.structure (Arrived (packet_of bytes))) after.force

    the_force : looked.table ≡ force_of id (state_after (format_of id) past).force (Arrived (packet_of bytes))
    the_force = look.force ∙ ap (λ (f : Force TemplateStructure). force_of id f (Arrived (packet_of bytes))) after.force

    the_frame : framed_by looked.table (marks_of id past) (mark_of id old.table.structure (Arrived (packet_of bytes)))
        ≡ frame_of structures_alone (force_of id (state_after (format_of id) past).force (Arrived (packet_of bytes)))
        (cut_by (state_after (format_of id) past).run (mark_of id (state_after (format_of id) past).force.structure (Arrived (packet_of bytes))))
    the_frame =
        ap₂ (λ (f : Force TemplateStructure) (m : TheMark). frame_of structures_alone f (cut_by (run_of (marks_of id past)) m)) the_force the_mark
        ∙ ap (λ (run : Option TheRun). frame_of structures_alone (force_of id (state_after (format_of id) past).force (Arrived (packet_of bytes)))
        (cut_by run (mark_of id (state_after (format_of id) past).force.structure (Arrived (packet_of bytes))))) (sym (run_is id past))

    pub after_packet : IsAfterAs id new (Arrived (packet_of bytes) ∷ past)
    after_packet = record {
      force = push.force ∙ ap₂ (λ (f : Force TemplateStructure) (x : Option (Frame TemplateStructure)). with_frame f x) the_force the_frame
          ∙ sym (ap (λ (m : Made TemplateStructure). m.state.force) (made_of id (state_after (format_of id) past) (Arrived (packet_of bytes))));
      running = subst (λ (m : TheMark). IsRunning new (m ∷ marks_of id past)) the_mark push.running;
    }

    pub made_packet : result ≡ meaning_made id past (Arrived (packet_of bytes))
    made_packet =
        push.made ∙ ap (option_map meaning_of) the_frame
        ∙ sym (ap (λ (m : Made TemplateStructure). option_map meaning_of m.frame) (made_of id (state_after (format_of id) past) (Arrived (packet_of bytes))))
