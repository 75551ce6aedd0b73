use Rattle.std.proofs.Common.{arith}
use Rattle.chain_state.proofs.Agreeing.{no_bit}
use Rattle.chain_state.proofs.has_bit.Goals as goal

pub returns-else-place-lt64 : goal.returns-else-place-lt64
returns-else-place-lt64 c = no_bit c.args.mask c.args.place (omega arith) (omega arith)
