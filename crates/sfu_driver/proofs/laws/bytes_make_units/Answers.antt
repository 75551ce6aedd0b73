use Rattle.std.proofs.Common.{[]}
use Rattle.sfu_driver.specs.Units.{rule_of}
use Rattle.sfu_driver.proofs.UnitInputs.{due_is_units, judged_is_units}
use Rattle.sfu_driver.proofs.laws.bytes_make_units.Goals as goal

pub returns-clause-whole : goal.returns-clause-whole
returns-clause-whole g c state number bytes =
    due_is_units (rule_of g.C.Cut.scan g.C.Cut.scan_end g.J.Judge.step g.J.Judge.outside g.J.Judge.closing) state number [] bytes

pub returns-clause-part : goal.returns-clause-part
returns-clause-part g c state number bytes =
    judged_is_units (rule_of g.C.Cut.scan g.C.Cut.scan_end g.J.Judge.step g.J.Judge.outside g.J.Judge.closing) state number [] bytes
