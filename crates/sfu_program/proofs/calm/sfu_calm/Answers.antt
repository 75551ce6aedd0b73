use Rattle.std.proofs.Common.{arith}
use Rattle.sfu_program.proofs.calm.sfu_calm.Goals as goal

pub returns : goal.returns
returns g c = c.sfu.ensures.inside (record { reads = λ r. omega arith; writes = λ r. omega arith; ports = λ r. omega arith })
