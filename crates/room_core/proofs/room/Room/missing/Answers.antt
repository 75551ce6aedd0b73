use Rattle.std.proofs.Common.{refl}
use Rattle.sfu_base.specs.declared.call.Call.TheVariants as call
use Rattle.room_core.proofs.Served.{did_into, not_noted, served, silently_into}
use Rattle.room_core.proofs.room.Room.missing.Goals as goal

pub returns-in-Ok : goal.returns-in-Ok
returns-in-Ok g c =
    let made = call.Missing c.args.track in
    did_into g.R.Recorder.noted g.R.Recorder.may_refuse c.args.self.now _ c.args.seat made c.missing.result c.args.scratch.now _
    (served g.R.Recorder.noted c.args.self.now c.args.self.now _ c.args.seat made c.missing.result c.args.scratch.now.packet c.missing.new.out
    (λ past h. h) (c.missing.ensures.does c.args.scratch.now.packet) c.missing.ensures.fed tt c.in-Ok.ensures.ok)
    c.missing.ensures.fed c.in-Ok.ensures.same (λ other. refl) c.missing.ensures.untouched (λ is. absurd (c.missing.ensures.sends_none is))

pub returns-in-Err : goal.returns-in-Err
returns-in-Err g c =
    silently_into g.R.Recorder.noted g.R.Recorder.may_refuse c.args.self.now _ c.args.seat (call.Missing c.args.track) _ c.args.scratch.now
    (not_noted g.R.Recorder.noted g.R.Recorder.may_refuse c.args.self.now _ c.args.seat (call.Missing c.args.track) (λ past h. h)
    c.in-Err.ensures.err c.in-Err.ensures.same (c.in-Err.ensures.refused refl))
