use Rattle.room_c.proofs.Lasting.{after_choice}
use Rattle.room_c.proofs.bundle_calls.zoftemar_choose.Goals as goal

pub invariant_of-deref_mut : goal.invariant_of-deref_mut
invariant_of-deref_mut c =
    let home = c.deref_mut.result.now in
    record { has_state = after_choice home.bundles c.choose-answer.new.self home.has_state c.args.bundle c.args.leg c.choose-answer.result c.choose-answer.ensures.chooses }
