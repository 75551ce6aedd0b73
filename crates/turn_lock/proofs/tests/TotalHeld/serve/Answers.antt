use Rattle.std.proofs.Common.{arith, false}
use Rattle.std.proofs.lemmas.List.Sums.{sum_by_push}
use Rattle.turn_lock.specs.History.{entry}
use Rattle.turn_lock.proofs.tests.TotalHeld.serve.Goals as goal

pub returns : goal.returns
returns c = λ h stands. let more = sum_by_push (λ e. e.call) h (entry c.args._seat c.args.call.now false) in (omega (arith, stands, more), omega (arith, stands))
