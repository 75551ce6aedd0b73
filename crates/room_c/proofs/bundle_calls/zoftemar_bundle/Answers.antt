use Rattle.simulcast.specs.Made.{just_made}
use Rattle.room_c.proofs.Lasting.{after_bundle}
use Rattle.room_c.proofs.bundle_calls.zoftemar_bundle.Goals as goal

pub invariant_of-deref_mut : goal.invariant_of-deref_mut
invariant_of-deref_mut c =
    let home = c.deref_mut.result.now in
    record { has_state = after_bundle home.bundles c.bundle-answer.new.self home.has_state (just_made c.args.bundle c.args.id c.args.ssrc c.args.first c.args.legs.now) c.bundle-answer.result c.bundle-answer.ensures.bundled }
