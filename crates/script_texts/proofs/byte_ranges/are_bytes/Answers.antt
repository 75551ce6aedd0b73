use Rattle.std.proofs.Common.{arith}
use Rattle.script_texts.proofs.Ranges.{all_bytes}
use Rattle.script_texts.proofs.byte_ranges.are_bytes.Goals as goal

pub returns : goal.returns
returns c = all_bytes c.args.bytes.now (λ k lt. c.loop-byte.invariant k (omega arith))
