use Rattle.std.proofs.Common.{arith}
use Rattle.std.proofs.lemmas.List.{length-take-le}
use Rattle.sfu_driver.proofs.LineScans.{whole_line}
use Rattle.sfu_driver.proofs.lines.end_line.Goals as goal

pub returns : goal.returns
returns c number = (
  whole_line number c.args.kept.now c.args.piece.now c.args.at c.text_len.result c.requires.first c.requires.short c.text_len.ensures.len,
  omega (arith, c.requires.short),
  omega arith,
  omega (arith, c.text_len.ensures.within, c.requires.short, length-take-le c.args.at c.args.piece.now (omega (arith, c.requires.first.0.high))),
)
