use Rattle.std.proofs.Common.{refl}
use Rattle.sfu_base.specs.declared.call.Call.TheVariants as call
use Rattle.room_core.proofs.Served.{noted_did, not_noted}
use Rattle.room_core.proofs.room.Room.tick.Goals as goal

pub returns-in-Ok : goal.returns-in-Ok
returns-in-Ok g c =
    noted_did g.R.Recorder.noted g.R.Recorder.may_refuse c.args.self.now _ c.args.seat (call.Tick c.args.track c.args.moment) c.tick.result
    c.tick.ensures.does c.tick.ensures.fed c.tick.ensures.sends_none tt c.in-Ok.ensures.ok c.in-Ok.ensures.same

pub returns-in-Err : goal.returns-in-Err
returns-in-Err g c =
    not_noted g.R.Recorder.noted g.R.Recorder.may_refuse c.args.self.now _ c.args.seat (call.Tick c.args.track c.args.moment) (λ past h. h)
    c.in-Err.ensures.err c.in-Err.ensures.same (c.in-Err.ensures.refused refl)
