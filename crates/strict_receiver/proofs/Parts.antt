-- A packet whose descriptor and payload can be read: whether it continues the frame, and what happens at the frame's end.
use Rattle.std.proofs.Common.{◌≡◌, ℕ, Bool, true, false, cond, not, ◌&&◌, Option, Some, None, Ok, Err, refl, sym, ap, subst, ◌∙◌}
use Rattle.std.specs.Option.{option_map}
use Rattle.forwarding_model.specs.declared.complaint.Complaint.{Complaint}
use Rattle.forwarding_model.specs.declared.complaint.Complaint.TheVariants as complaint
use Rattle.forwarding_model.specs.frames.Reading.{Descriptor as Said, Joins}
use Rattle.forwarding_model.specs.Receiver.{Judged, OpenFrame as ModelFrame, Received, Reception, Receiver, after_end, first_packet, judge, next_packet, structure_after, with_frame, with_part}
use Rattle.forwarding_model.specs.Receiver.Judged.{Complete, Lacks}
use Rattle.forwarding_model.specs.Receiver.Receiver.{Receiving, Complaining}
use Rattle.dd_structure.specs.TemplateStructure.{TemplateStructure}
use Rattle.strict_receiver.specs.declared.frame.OpenFrame.{OpenFrame}
use Rattle.strict_receiver.specs.declared.state.Last.{Last}
use Rattle.strict_receiver.specs.declared.state.Stage.{Stage}
use Rattle.strict_receiver.specs.declared.state.Stage.TheVariants as stage
use Rattle.strict_receiver.specs.declared.state.State.{State}
use Rattle.strict_receiver.specs.Frames.{follows, frame_said, joined_as, said_by}
use Rattle.strict_receiver.specs.Numbers.{Judges}
use Rattle.strict_receiver.specs.States.{Answers, Finishes, IsExpected, IsStageOf, Joined, part_as}

-- ---- joining

abbrev pub with_joined : Reception TemplateStructure → Option ModelFrame → Bool → Receiver TemplateStructure
with_joined r None end = Complaining complaint.NotWhole
with_joined r (Some f) end = with_frame r f end

joined_part : (r : Reception TemplateStructure) (frame : Option ModelFrame) (d : Said TemplateStructure) (joins : Joins)
    → with_joined r (joined_as frame d joins) d.end ≡ with_part r frame d joins
joined_part r None d joins = go (d.start && not joins.continues)
  where
    go : (b : Bool) → with_joined r (cond b (Some (first_packet d joins)) None) d.end ≡ cond b (with_frame r (first_packet d joins) d.end) (Complaining complaint.NotWhole)
    go true = refl
    go false = refl
joined_part r (Some f) d joins = go (follows f d joins.continues)
  where
    go : (b : Bool) → with_joined r (cond b (Some (next_packet f joins)) None) d.end ≡ cond b (with_frame r (next_packet f joins) d.end) (Complaining complaint.NotWhole)
    go true = refl
    go false = refl

module _ (before : Option OpenFrame) (d : Said TemplateStructure) (joins : Joins) where
  pub joined_begins : (after : OpenFrame) → before ≡ None → (d.start && not joins.continues) ≡ true → frame_said after ≡ first_packet d joins
      → Joined (Some after) true (joined_as (option_map frame_said before) d joins)
  joined_begins after none starts is =
      subst (λ (b : Option OpenFrame). Joined (Some after) true (joined_as (option_map frame_said b) d joins)) (sym none)
      (subst (λ (b : Bool). Joined (Some after) true (cond b (Some (first_packet d joins)) None)) (sym starts) (ap (λ (f : ModelFrame). Some f) is))

  pub joined_goes_on : (frame after : OpenFrame) → before ≡ Some frame → follows (frame_said frame) d joins.continues ≡ true → frame_said after ≡ next_packet (frame_said frame) joins
      → Joined (Some after) true (joined_as (option_map frame_said before) d joins)
  joined_goes_on frame after some on is =
      subst (λ (b : Option OpenFrame). Joined (Some after) true (joined_as (option_map frame_said b) d joins)) (sym some)
      (subst (λ (b : Bool). Joined (Some after) true (cond b (Some (next_packet (frame_said frame) joins)) None)) (sym on) (ap (λ (f : ModelFrame). Some f) is))

  pub joined_breaks : (frame : OpenFrame) (left : Option OpenFrame) → before ≡ Some frame → follows (frame_said frame) d joins.continues ≡ false
      → Joined left false (joined_as (option_map frame_said before) d joins)
  joined_breaks frame left some off =
      subst (λ (b : Option OpenFrame). Joined left false (joined_as (option_map frame_said b) d joins)) (sym some)
      (subst (λ (b : Bool). Joined left false (cond b (Some (next_packet (frame_said frame) joins)) None)) (sym off) tt)

-- ---- the end of a frame

pub finished_complete : (new : State) (r : Reception TemplateStructure) (f : ModelFrame) → new.frame ≡ None → f.carries ≡ false → Judges new.received None (judge r.received f.header)
    → Finishes new (Ok tt) r (with_frame r f true)
finished_complete new r f none closed judged =
    subst (Finishes new (Ok tt) r) (sym (ap (λ (b : Bool). cond b (Complaining complaint.NotWhole) (after_end r f.header.number (judge r.received f.header))) closed))
    (go (judge r.received f.header) judged)
  where
    go : (j : Judged) → Judges new.received None j → Finishes new (Ok tt) r (after_end r f.header.number j)
    go (Complete received) h =
        (received, h, ap (λ (o : Option OpenFrame). Receiving (record r { frame = option_map frame_said o; received = received })) (sym none))
    go (Lacks fdiff) h = absurd h

pub finished_lacking : (new : Received) (r : Reception TemplateStructure) (f : ModelFrame) (distance : ℕ) → f.carries ≡ false → Judges new (Some distance) (judge r.received f.header)
    → with_frame r f true ≡ Complaining (complaint.MissingReference f.header.number distance)
finished_lacking new r f distance closed judged =
    ap (λ (b : Bool). cond b (Complaining complaint.NotWhole) (after_end r f.header.number (judge r.received f.header))) closed
    ∙ go (judge r.received f.header) judged
  where
    go : (j : Judged) → Judges new (Some distance) j → after_end r f.header.number j ≡ Complaining (complaint.MissingReference f.header.number distance)
    go (Complete received) h = absurd h
    go (Lacks fdiff) h = ap (λ (n : ℕ). Complaining (complaint.MissingReference f.header.number n)) (sym h)

-- ---- a packet of the source with the next number

-- the reception with its number and structure
abbrev pub with_last : Reception TemplateStructure → ℕ → Said TemplateStructure → Reception TemplateStructure
with_last r sequence d = record r { sequence_number = sequence; structure = structure_after r.structure d }

module _ (old : State) (last : Last) (joins : Joins) (r : Reception TemplateStructure) (expected : IsExpected old last.ssrc r) where
  abbrev pub said_now : Said TemplateStructure
  said_now = said_by old.structure old.newest

  abbrev pub joined_now : Option ModelFrame
  joined_now = joined_as (option_map frame_said old.frame) said_now joins

  the_next : with_joined (with_last r last.sequence said_now) joined_now said_now.end ≡ part_as r last.sequence said_now joins
  the_next =
      ap (λ (f : Option ModelFrame). with_joined (with_last r last.sequence said_now) (joined_as f said_now joins) said_now.end) expected.frame_is
      ∙ joined_part (with_last r last.sequence said_now) r.frame said_now joins

  -- no frame
  pub part_unjoined : (new : State) (frame : Option OpenFrame) → Joined frame false joined_now → Answers new (Err complaint.NotWhole) (part_as r last.sequence said_now joins)
  part_unjoined new frame joined = subst (Answers new (Err complaint.NotWhole)) the_next (go joined_now joined)
    where
      go : (o : Option ModelFrame) → Joined frame false o → Answers new (Err complaint.NotWhole) (with_joined (with_last r last.sequence said_now) o said_now.end)
      go None h = refl
      go (Some f) h = absurd h

  -- a complaint at its end
  pub part_err : (new : State) (frame : Option OpenFrame) (c : Complaint) → Joined frame true joined_now
      → ((f : ModelFrame) → option_map frame_said frame ≡ Some f → with_frame (with_last r last.sequence said_now) f said_now.end ≡ Complaining c)
      → Answers new (Err c) (part_as r last.sequence said_now joins)
  part_err new frame c joined finished = subst (Answers new (Err c)) the_next (go joined_now joined)
    where
      go : (o : Option ModelFrame) → Joined frame true o → Answers new (Err c) (with_joined (with_last r last.sequence said_now) o said_now.end)
      go None h = absurd h
      go (Some f) h = subst (Answers new (Err c)) (sym (finished f h)) refl

  -- accepted
  pub part_ok : (new : State) (frame : Option OpenFrame) → new.stage ≡ stage.Receiving last → new.structure ≡ structure_after old.structure said_now
      → Joined frame true joined_now
      → ((f : ModelFrame) → option_map frame_said frame ≡ Some f → Finishes new (Ok tt) (with_last r last.sequence said_now) (with_frame (with_last r last.sequence said_now) f said_now.end))
      → Answers new (Ok tt) (part_as r last.sequence said_now joins)
  part_ok new frame at structure joined finished = subst (Answers new (Ok tt)) the_next (go joined_now joined)
    where
      go : (o : Option ModelFrame) → Joined frame true o → Answers new (Ok tt) (with_joined (with_last r last.sequence said_now) o said_now.end)
      go None h = absurd h
      go (Some f) h =
          let done = finished f h in
          subst (Answers new (Ok tt)) (sym done.2)
          (subst (λ (x : Stage). IsStageOf x new.frame new.structure new.received (Receiving (record r { sequence_number = last.sequence; structure = structure_after r.structure said_now; frame = option_map frame_said new.frame; received = done.0 }))) (sym at) (record {
            ssrc = sym expected.source;
            sequence_number = refl;
            structure_is = structure ∙ ap (λ (o : Option TemplateStructure). structure_after o said_now) expected.structure;
            frame = refl;
            received = done.1;
          }))
