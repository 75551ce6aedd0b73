use Rattle.std.proofs.Common.{arith}
use Rattle.place_set.proofs.Words.{puts}
use Rattle.place_set.proofs.set.PlaceSet.put.Goals as goal

pub returns : goal.returns
returns c = puts c.args.self.now c.self.inside.words c.args.place c.self.view_is (let n = c.self.told in omega (arith, n))
