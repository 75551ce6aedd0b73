use Rattle.out_ring.proofs.Modelled.{stores_what_goes_out}
use Rattle.out_ring.proofs.laws.a_ring_stores_what_goes_out.Goals as goal

pub returns : goal.returns
returns g c = stores_what_goes_out
