use Rattle.room_c.proofs.Lasting.{after_pump}
use Rattle.room_c.proofs.bundle_calls.zoftemar_pump.Goals as goal

pub invariant_of-deref_mut : goal.invariant_of-deref_mut
invariant_of-deref_mut c =
    let home = c.deref_mut.result.now in
    record { has_state = after_pump home.bundles c.pump-answer.new.self home.has_state c.args.bundle c.pump-answer.result c.pump-answer.ensures.pumps }
