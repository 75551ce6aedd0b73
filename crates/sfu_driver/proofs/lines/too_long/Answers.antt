use Rattle.sfu_driver.proofs.LineScans.{long_line}
use Rattle.sfu_driver.proofs.lines.too_long.Goals as goal

pub returns : goal.returns
returns c number = long_line number c.args.kept.now c.args.piece.now c.requires.kept c.requires.long c.requires.unended
