use Rattle.std.proofs.Common.{arith, length, ◌-◌}
use Rattle.sfu_driver.proofs.LineEnds.{found_before, found_none}
use Rattle.sfu_driver.proofs.LineScans.{going, unended_take}
use Rattle.sfu_driver.proofs.lines.LinesCut.find.Goals as goal

pub too_long-requires-clause-unended : goal.too_long-requires-clause-unended
too_long-requires-clause-unended c = found_before c.args.piece.now c.in-Some.at (4201 - length c.args.kept.now) (omega (arith, c.if-kept-at-gt-MOST_UNIT.true)) c.in-Some.ensures

pub returns-then-kept-at-gt-MOST_UNIT : goal.returns-then-kept-at-gt-MOST_UNIT
returns-then-kept-at-gt-MOST_UNIT c = c.too_long.ensures c.args._number

pub too_long-requires-then-kept-piece-gt-MOST_UNIT-clause-unended : goal.too_long-requires-then-kept-piece-gt-MOST_UNIT-clause-unended
too_long-requires-then-kept-piece-gt-MOST_UNIT-clause-unended c = unended_take c.args.piece.now (4201 - length c.args.kept.now) (found_none c.args.piece.now c.in-None.ensures)

pub returns-then-kept-piece-gt-MOST_UNIT : goal.returns-then-kept-piece-gt-MOST_UNIT
returns-then-kept-piece-gt-MOST_UNIT c = c.too_long-then-kept-piece-gt-MOST_UNIT.ensures c.args._number

pub returns-else-kept-at-gt-MOST_UNIT : goal.returns-else-kept-at-gt-MOST_UNIT
returns-else-kept-at-gt-MOST_UNIT c = c.end_line.ensures c.args._number

pub returns-else-kept-piece-gt-MOST_UNIT : goal.returns-else-kept-piece-gt-MOST_UNIT
returns-else-kept-piece-gt-MOST_UNIT c = (going c.args._number c.args.kept.now c.args.piece.now (found_none c.args.piece.now c.in-None.ensures) (omega (arith, c.if-kept-piece-gt-MOST_UNIT.false)), omega (arith, c.if-kept-piece-gt-MOST_UNIT.false))
