use Rattle.std.proofs.Common.{arith}
use Rattle.std.specs.Int.{w64}
use Rattle.std.proofs.lemmas.Nat.Bits.{bit_at-trailing_zeros}
use Rattle.place_set.proofs.set.lowest.Goals as goal

pub returns-else-word-eq0 : goal.returns-else-word-eq0
returns-else-word-eq0 c = bit_at-trailing_zeros w64 c.args.word (let some = c.if-word-eq0.false in omega (arith, some)) (omega arith)
