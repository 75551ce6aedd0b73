use Rattle.std.proofs.Common.{[]}
use Rattle.simulcast.specs.Bundles.{nothing_made}
use Rattle.room_c.proofs.home.Home.new.Goals as goal

pub invariant_of-result : goal.invariant_of-result
invariant_of-result c = record { has_state = ∣ (nothing_made [], c.new-3.ensures.stands [] c.new-2.ensures.stands) ∣₁ }

pub returns : goal.returns
returns c = c.new-3.ensures.stands [] c.new-2.ensures.stands
