use Rattle.std.proofs.Common.{nat_eq, subst, sym}
use Rattle.indexmap.specs.IndexMap.{get}
use Rattle.sfu_base.specs.declared.frame.FrameMeaning.{FrameMeaning}
use Rattle.track_core.specs.declared.track.Made.TheVariants as made
use Rattle.room_core.specs.Stepping.{Steps}
use Rattle.room_core.proofs.Working.{one_frame, one_nothing, one_packet}
use Rattle.room_core.proofs.passing.work_off_one.Goals as goal

pub returns-in-Nothing-clause-worked : goal.returns-in-Nothing-clause-worked
returns-in-Nothing-clause-worked c =
    one_nothing c.args.pipeline.now c.step.new.pipeline c.args.number (get nat_eq c.args.subscribers.now) c.args.pleaded.now c.in-Nothing.ensures.steps

pub returns-in-Packet-clause-worked : goal.returns-in-Packet-clause-worked
returns-in-Packet-clause-worked c =
    one_packet c.args.pipeline.now c.step.new.pipeline c.args.number (get nat_eq c.args.subscribers.now) (get nat_eq c.pass_packet_to_all.new.subscribers) c.args.pleaded.now
    c.packet.result.now c.in-Packet.ensures.steps c.packet.ensures.at c.pass_packet_to_all.ensures.passed

pub returns-in-Frame-clause-worked : goal.returns-in-Frame-clause-worked
returns-in-Frame-clause-worked c =
    one_frame c.args.pipeline.now c.step.new.pipeline c.args.number (get nat_eq c.args.subscribers.now) (get nat_eq c.pass_frame_to_all.new.subscribers) c.args.pleaded.now c.still_pleaded.result
    c.meaning-frame.result.now (subst (λ (m : FrameMeaning). Steps c.args.pipeline.now c.step.new.pipeline (made.Frame m)) (sym c.meaning-frame.ensures) c.in-Frame.ensures.steps) c.still_pleaded.ensures c.pass_frame_to_all.ensures.passed
