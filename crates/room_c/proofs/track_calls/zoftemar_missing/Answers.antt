use Rattle.sfu_base.specs.declared.call.Call.TheVariants as call
use Rattle.room_c.proofs.Lasting.{after_call}
use Rattle.room_c.proofs.track_calls.zoftemar_missing.Goals as goal

pub invariant_of-deref_mut : goal.invariant_of-deref_mut
invariant_of-deref_mut c =
    let home = c.deref_mut.result.now in
    record { has_state = after_call home.bundles c.call-answer.new.self home.has_state c.args.seat (call.Missing c.args.track) c.call-answer.new.scratch.packet c.call-answer.new.scratch.names c.call-answer.result c.call-answer.ensures.calls }
