use Rattle.std.proofs.Common.{[], Ok}
use Rattle.sfu_base.specs.declared.call.Call.TheVariants as call
use Rattle.room_c.proofs.Lasting.{after_call}
use Rattle.room_c.proofs.track_calls.zoftemar_tick.Goals as goal

pub invariant_of-deref_mut : goal.invariant_of-deref_mut
invariant_of-deref_mut c =
    let home = c.deref_mut.result.now in
    record { has_state = after_call home.bundles c.tick-reply.new.self home.has_state c.args.seat (call.Tick c.args.track c.args.moment) [] [] (Ok c.tick-reply.result) (c.tick-reply.ensures.calls [] []) }
