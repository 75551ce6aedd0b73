use Rattle.simulcast.proofs.Fronts.{draws_add, draws_stay}
use Rattle.simulcast.proofs.laws.what_was_drawn_stays.Goals as goal

pub returns : goal.returns
returns c = record { adds = draws_add; stays = draws_stay }
