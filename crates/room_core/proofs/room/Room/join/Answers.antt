use Rattle.std.proofs.Common.{refl}
use Rattle.sfu_base.specs.declared.call.Call.TheVariants as call
use Rattle.room_core.proofs.Served.{did, not_noted, not_ready, served}
use Rattle.room_core.proofs.room.Room.join.Goals as goal

pub returns-in-Ok-note : goal.returns-in-Ok-note
returns-in-Ok-note g c =
    let made = call.Join c.args.subscriber c.args.track c.args.ssrc c.args.first c.args.wish in
    did g.R.Recorder.noted g.R.Recorder.may_refuse c.args.self.now _ c.args.seat made c.join.result
    (λ bytes numbers.
    served g.R.Recorder.noted c.args.self.now (record { alloc = c.args.self.now.alloc; recorder = c.args.self.now.recorder; content = c.prepare_subscriber.new.self }) _ c.args.seat made
    c.join.result bytes numbers c.prepare_subscriber.ensures.same (c.join.ensures.does c.args.track c.args.ssrc c.args.first c.args.wish c.in-Ok.ensures.ready bytes numbers)
    c.join.ensures.fed c.prepare_subscriber.ensures.value c.in-Ok-note.ensures.ok)
    c.join.ensures.fed c.in-Ok-note.ensures.same c.join.ensures.sends_none

pub returns-in-Err-note : goal.returns-in-Err-note
returns-in-Err-note g c =
    not_noted g.R.Recorder.noted g.R.Recorder.may_refuse c.args.self.now _ c.args.seat (call.Join c.args.subscriber c.args.track c.args.ssrc c.args.first c.args.wish) c.prepare_subscriber.ensures.same
    c.in-Err-note.ensures.err c.in-Err-note.ensures.same (c.in-Err-note.ensures.refused refl)

pub returns-in-Err : goal.returns-in-Err
returns-in-Err g c =
    not_ready g.R.Recorder.noted g.R.Recorder.may_refuse c.args.self.now _ c.args.seat (call.Join c.args.subscriber c.args.track c.args.ssrc c.args.first c.args.wish) c.prepare_subscriber.ensures.same
    refl tt c.in-Err.ensures.last
