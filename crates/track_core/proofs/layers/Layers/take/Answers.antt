use Rattle.std.proofs.Common.{◌∙◌, sym, subst, ℕ, ◌∷◌}
use Rattle.forwarding_model.specs.frames.Frames.Item.{Arrived}
use Rattle.packet_format.specs.Packets.{packet_of}
use Rattle.track_core.specs.Layers.{IsAfterAs, marks_of, mark_of, written}
use Rattle.track_core.proofs.Standing.{after_packet, made_packet, now_running, pushable}
use Rattle.track_core.proofs.layers.Layers.take.Goals as goal

pub push-requires-clause-pushable : goal.push-requires-clause-pushable
push-requires-clause-pushable c =
    let stood = c.requires.stood in
    pushable c.args.self.now.id c.args.self.now c.read-mark.new.self c.read-mark.result c.args.slot.now.value stood.0 stood.1
    c.read-mark.ensures.looked c.read-mark.ensures.assembly c.read-mark.ensures.head

pub returns-clause-stands : goal.returns-clause-stands
returns-clause-stands c past is =
    let running = now_running c.args.self.now.id c.args.self.now c.read-mark.new.self c.read-mark.result c.args.slot.now.value past is
    c.read-mark.ensures.looked c.read-mark.ensures.assembly c.read-mark.ensures.head in
    subst (λ (id : ℕ). IsAfterAs id c.push.new.self (Arrived (packet_of c.args.slot.now.value) ∷ past)) (sym (c.push.ensures.id ∙ c.read-mark.ensures.id))
    (after_packet c.args.self.now.id c.args.self.now c.read-mark.new.self c.read-mark.result c.args.slot.now.value past is
    c.read-mark.ensures.looked c.read-mark.ensures.assembly c.read-mark.ensures.head c.push.new.self (written c.push.result c.push.new.meaning)
    (c.push.ensures.pushed (marks_of c.args.self.now.id past) (mark_of c.args.self.now.id c.args.self.now.table.structure (Arrived (packet_of c.args.slot.now.value)))
    running c.read-mark.ensures.looked.marked c.read-mark.ensures.looked.starts))

pub returns-clause-made : goal.returns-clause-made
returns-clause-made c past is =
    let running = now_running c.args.self.now.id c.args.self.now c.read-mark.new.self c.read-mark.result c.args.slot.now.value past is
    c.read-mark.ensures.looked c.read-mark.ensures.assembly c.read-mark.ensures.head in
    made_packet c.args.self.now.id c.args.self.now c.read-mark.new.self c.read-mark.result c.args.slot.now.value past is
    c.read-mark.ensures.looked c.read-mark.ensures.assembly c.read-mark.ensures.head c.push.new.self (written c.push.result c.push.new.meaning)
    (c.push.ensures.pushed (marks_of c.args.self.now.id past) (mark_of c.args.self.now.id c.args.self.now.table.structure (Arrived (packet_of c.args.slot.now.value)))
    running c.read-mark.ensures.looked.marked c.read-mark.ensures.looked.starts)
