use Rattle.std.proofs.Common.{refl}
use Rattle.sfu_base.specs.declared.call.Call.TheVariants as call
use Rattle.room_core.proofs.Served.{did_into, not_noted, served, silently_into}
use Rattle.room_core.proofs.room.Room.resend.Goals as goal

pub returns-in-Ok : goal.returns-in-Ok
returns-in-Ok g c =
    let made = call.Resend c.args.subscriber c.args.seq in
    did_into g.R.Recorder.noted g.R.Recorder.may_refuse c.args.self.now _ c.args.seat made c.resend.result c.args.scratch.now _
    (served g.R.Recorder.noted c.args.self.now c.args.self.now _ c.args.seat made c.resend.result c.resend.new.out c.args.scratch.now.names
    (λ past h. h) (c.resend.ensures.does c.args.scratch.now.names) c.resend.ensures.fed tt c.in-Ok.ensures.ok)
    c.resend.ensures.fed c.in-Ok.ensures.same c.resend.ensures.untouched (λ other. refl) c.resend.ensures.sendable

pub returns-in-Err : goal.returns-in-Err
returns-in-Err g c =
    silently_into g.R.Recorder.noted g.R.Recorder.may_refuse c.args.self.now _ c.args.seat (call.Resend c.args.subscriber c.args.seq) _ c.args.scratch.now
    (not_noted g.R.Recorder.noted g.R.Recorder.may_refuse c.args.self.now _ c.args.seat (call.Resend c.args.subscriber c.args.seq) (λ past h. h)
    c.in-Err.ensures.err c.in-Err.ensures.same (c.in-Err.ensures.refused refl))
