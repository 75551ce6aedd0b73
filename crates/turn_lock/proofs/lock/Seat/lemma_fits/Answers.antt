use Rattle.std.proofs.Common.{subst}
use Rattle.turn_lock.specs.Known.{Known, Fits}
use Rattle.turn_lock.proofs.Sounds.{fits}
use Rattle.turn_lock.proofs.lock.Seat.lemma_fits.Goals as goal

pub returns : goal.returns
returns g c = subst Fits c.self.view_is (fits c.self.inside.inner.table_id c.self.inside.inner.me.0 c.self.invariant.3)
