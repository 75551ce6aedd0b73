use Rattle.std.proofs.Common.{arith}
use Rattle.ref_window.proofs.Rings.{clears_bit}
use Rattle.ref_window.proofs.words.clear_bit.Goals as goal

pub returns : goal.returns
returns c = clears_bit c.args.words.now c.args.number c.word_of.result c.word_of.ensures.value (omega arith)
