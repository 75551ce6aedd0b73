use Rattle.std.proofs.Common.{arith}
use Rattle.script_texts.proofs.short.put_piece.Goals as goal

pub returns-in-Number-clause-capacity : goal.returns-in-Number-clause-capacity
returns-in-Number-clause-capacity c = rw c.in-Number.is c.put_number.ensures.capacity

pub returns-in-Ssrc-clause-capacity : goal.returns-in-Ssrc-clause-capacity
returns-in-Ssrc-clause-capacity c = rw c.in-Ssrc.is (omega (arith, c.put_ssrc.ensures.capacity))
