use Rattle.std.proofs.Common.{arith}
use Rattle.ref_window.proofs.Rings.{sets_bit}
use Rattle.ref_window.proofs.words.set_bit.Goals as goal

pub returns : goal.returns
returns c = sets_bit c.args.words.now c.args.number c.word_of.result c.word_of.ensures.value (omega arith)
