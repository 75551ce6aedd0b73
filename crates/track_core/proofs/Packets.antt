-- The packets that an assembly has of a whole frame are those of the frame.
use Rattle.std.proofs.Common.{◌≡◌, ℕ, List, [], ◌∷◌, map, Option, Some, None, refl, sym, ap, ◌∙◌}
use Rattle.std.specs.Option.{option_map}
use Rattle.forwarding_model.specs.forwarding.Timeline.{Frame}
use Rattle.forwarding_model.specs.frames.Cuts.{Part, cut_by, parts_of, run_of}
use Rattle.forwarding_model.specs.frames.Frames.{Item, Force, Made, ReadPacket, frame_of as model_frame, framed, made_by_item, number_of, packet_of as packet_in, state_after}
use Rattle.dd_structure.specs.TemplateStructure.{TemplateStructure}
use Rattle.frame_assembly.specs.Assembled.{frame_of as assembled_frame, packets_of as assembled_packets}
use Rattle.packet_format.specs.Formats.{format_of}
use Rattle.packet_format.specs.Packets.{bytes_of}
use Rattle.track_core.specs.declared.layers.Layers.{Layers}
use Rattle.track_core.specs.Layers.{IsAfterAs, force_of, mark_of, marks_of, sent_of}
use Rattle.track_core.specs.Mapped.{part_with, run_with}
use Rattle.track_core.specs.Track.{frame_packets}
use Rattle.track_core.proofs.Heads.{TheRun}
use Rattle.track_core.proofs.Mapped.{cut_of_with}
use Rattle.track_core.proofs.Standing.{made_of, run_is}

brought : (parts : List (Part (ReadPacket TemplateStructure))) → map (λ p. p.brings) (map (part_with sent_of) parts) ≡ map bytes_of (map packet_in parts)
brought [] = refl
brought (p ∷ ps) = ap (λ (xs : List (List ℕ)). bytes_of p.brings.packet ∷ xs) (brought ps)

run_packets : (run : TheRun) → assembled_packets (run_with sent_of run) ≡ map bytes_of (map packet_in (parts_of run))
run_packets run = ap (λ (xs : List (List ℕ)). bytes_of run.first.brings.packet ∷ xs) (brought run.more)

-- if a frame is made of a cut, the cut's packets are the frame's
cut_packets : (id : ℕ) (force : Force TemplateStructure) (o : Option TheRun) (frame : Frame TemplateStructure) → model_frame (format_of id) force o ≡ Some frame
    → assembled_frame (option_map (run_with sent_of) o) ≡ map bytes_of frame.packets
cut_packets id force None frame e = absurd (cc)
cut_packets id force (Some run) frame e = go force.structure (number_of force run.first.brings.descriptor) e
  where
    go : (s : Option TemplateStructure) (n : Option ℕ) → framed (format_of id) force run s n ≡ Some frame → assembled_packets (run_with sent_of run) ≡ map bytes_of frame.packets
    go None n k = absurd (cc)
    go (Some s) None k = absurd (cc)
    go (Some s) (Some n) k = run_packets run ∙ ap (λ (o : Option (Frame TemplateStructure)). frame_packets o) k

pub packets_there : (id : ℕ) (layers : Layers) (past : List Item) (item : Item) (frame : Frame TemplateStructure) → IsAfterAs id layers (item ∷ past)
    → (made_by_item (format_of id) (state_after (format_of id) past) item).frame ≡ Some frame → layers.assembly.frame ≡ map bytes_of frame.packets
packets_there id layers past item frame after made =
    let state = state_after (format_of id) past in
    let mark = mark_of id state.force.structure item in
    let cut : cut_by (run_of (marks_of id past)) mark ≡ cut_by state.run mark = ap (λ (run : Option TheRun). cut_by run mark) (sym (run_is id past)) in
    after.running.assembly.frame
    ∙ ap assembled_frame (cut_of_with sent_of (marks_of id past) mark ∙ ap (option_map (run_with sent_of)) cut)
    ∙ cut_packets id (force_of id state.force item) (cut_by state.run mark) frame
    (sym (ap (λ (m : Made TemplateStructure). m.frame) (made_of id state item)) ∙ made)
