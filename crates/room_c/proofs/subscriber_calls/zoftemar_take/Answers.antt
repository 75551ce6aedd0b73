use Rattle.sfu_base.specs.declared.call.Call.TheVariants as call
use Rattle.simulcast.specs.Bundles.{unless_bound}
use Rattle.room_c.proofs.Lasting.{after_call}
use Rattle.room_c.proofs.subscriber_calls.zoftemar_take.Goals as goal

pub invariant_of-deref_mut : goal.invariant_of-deref_mut
invariant_of-deref_mut c =
    let home = c.deref_mut.result.now in
    record { has_state = after_call home.bundles c.take-reply.new.self home.has_state c.args.seat (call.Take c.args.subscriber) c.take-reply.new.scratch.packet c.take-reply.new.scratch.names (unless_bound c.take-reply.new.bound c.take-reply.result) c.take-reply.ensures.calls }
