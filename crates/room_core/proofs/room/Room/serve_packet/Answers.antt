use Rattle.std.proofs.Common.{refl, subst}
use Rattle.sfu_base.specs.declared.call.Call.{Call}
use Rattle.sfu_base.specs.declared.call.Call.TheVariants as call
use Rattle.room_core.specs.Noted.{Notes}
use Rattle.room_core.proofs.Served.{did, not_noted, served}
use Rattle.room_core.proofs.room.Room.serve_packet.Goals as goal

pub returns-in-Ok : goal.returns-in-Ok
returns-in-Ok g c =
    let made = call.Packet c.args.track c.args.moment c.args.bytes.now in
    did g.R.Recorder.noted g.R.Recorder.may_refuse c.args.self.now _ c.args.seat made c.packet.result
    (λ buffer numbers.
    served g.R.Recorder.noted c.args.self.now c.args.self.now _ c.args.seat made c.packet.result buffer numbers
    (λ past h. h) (c.packet.ensures.does buffer numbers) c.packet.ensures.fed tt
    (subst (λ (made : Call). Notes (g.R.Recorder.noted c.args.self.now.recorder) (g.R.Recorder.noted c.note.new.self) c.args.seat made) c.requires c.in-Ok.ensures.ok))
    c.packet.ensures.fed c.in-Ok.ensures.same c.packet.ensures.sends_none

pub returns-in-Err : goal.returns-in-Err
returns-in-Err g c =
    not_noted g.R.Recorder.noted g.R.Recorder.may_refuse c.args.self.now _ c.args.seat (call.Packet c.args.track c.args.moment c.args.bytes.now) (λ past h. h)
    c.in-Err.ensures.err c.in-Err.ensures.same (c.in-Err.ensures.refused refl)
