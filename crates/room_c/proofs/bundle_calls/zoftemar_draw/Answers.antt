use Rattle.room_c.proofs.Lasting.{after_draw}
use Rattle.room_c.proofs.bundle_calls.zoftemar_draw.Goals as goal

pub invariant_of-deref_mut : goal.invariant_of-deref_mut
invariant_of-deref_mut c =
    let home = c.deref_mut.result.now in
    record { has_state = after_draw home.bundles c.draw.new.self home.has_state c.args.bundle c.draw.new.out c.draw.result c.draw.ensures.draws }

pub invariant_of-scratch : goal.invariant_of-scratch
invariant_of-scratch c =
    let home = c.deref_mut.result.now in
    record { has_state = after_draw home.bundles c.draw.new.self home.has_state c.args.bundle c.draw.new.out c.draw.result c.draw.ensures.draws }
