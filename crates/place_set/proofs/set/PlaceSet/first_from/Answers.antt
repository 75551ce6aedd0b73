use Rattle.place_set.proofs.Words.{first_here, first_later}
use Rattle.place_set.proofs.set.PlaceSet.first_from.Goals as goal

pub returns-in-Some-clause-first : goal.returns-in-Some-clause-first
returns-in-Some-clause-first c = first_here c.args.self.now c.self.inside.words c.args.from c.in-Some.bit c.self.view_is c.in-Some.ensures

pub returns-clause-first : goal.returns-clause-first
returns-clause-first c = first_later c.args.self.now c.self.inside.words c.args.from c.first_behind.result c.self.view_is c.in_default.ensures c.first_behind.ensures.first
