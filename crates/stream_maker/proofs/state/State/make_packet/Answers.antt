use Rattle.std.proofs.Common.{◌∙◌, ap, refl}
use Rattle.stream_maker.specs.Fates.{fate_of}
use Rattle.stream_maker.proofs.Steps.{due_of-turn, left_of-made, sound-made, fewer_packets, not_ended}
use Rattle.stream_maker.proofs.state.State.make_packet.Goals as goal

pub returns-clause-sound : goal.returns-clause-sound
returns-clause-sound c =
    sound-made c.args.self.now _ _ _ _ _ c.fate_of-fate.result c.requires.sound c.requires.more c.following-self.ensures c.add.ensures

pub returns-clause-left : goal.returns-clause-left
returns-clause-left c =
    left_of-made c.args.self.now _ _ _ _ _ c.fate_of-fate.result (not_ended c.args.self.now c.requires.sound c.requires.more)
    c.requires.nothing_due c.requires.more c.requires.sound.next_part
    (c.fate_of-fate.ensures ∙ ap (fate_of c.args.self.now.loss) c.draw.ensures.word) c.draw.ensures.after c.following-self.ensures
    c.turn_of-turn.ensures.held c.add.ensures
    (due_of-turn c.args.self.now.frames c.fate_of-fate.result c.args.self.now.held c.args.self.now.next _ _ c.ends_stream.result
    c.ends_stream.ensures refl c.turn_of-turn.ensures.copies c.turn_of-turn.ensures.behind c.ends_unit.ensures)

pub returns-clause-fewer : goal.returns-clause-fewer
returns-clause-fewer c =
    fewer_packets c.args.self.now.frames c.args.self.now.next _ c.following-self.ensures c.requires.more c.requires.sound.next_part
