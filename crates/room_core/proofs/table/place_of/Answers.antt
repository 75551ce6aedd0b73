use Rattle.room_core.proofs.Places.{place_found}
use Rattle.room_core.proofs.table.place_of.Goals as goal

pub returns : goal.returns
returns g c = place_found c.args.table.now c.args.number c.get_index_of.result c.get_index_of.ensures.index c.get_index_of.ensures.found c.get_index_of.ensures.value
