use Rattle.std.proofs.Common.{[], refl, arith}
use Rattle.sfu_driver.proofs.LineInputs.{due_is_lines, judged_is_lines}
use Rattle.sfu_driver.proofs.laws.bytes_make_lines.Goals as goal

pub returns-clause-whole : goal.returns-clause-whole
returns-clause-whole g c state number bytes = due_is_lines g.J.Judge.step g.J.Judge.outside g.J.Judge.closing state number [] bytes refl (omega arith)

pub returns-clause-part : goal.returns-clause-part
returns-clause-part g c state number bytes = judged_is_lines g.J.Judge.step g.J.Judge.outside g.J.Judge.closing state number [] bytes refl (omega arith)
