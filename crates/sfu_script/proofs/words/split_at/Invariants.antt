use Rattle.std.proofs.Common.{◌≡◌, take, drop}
use Rattle.sfu_script.specs.Reading.{cut_at}
use Rattle.sfu_script.proofs.Cutting.{onto}
use Rattle.sfu_script.proofs.words.split_at.Given as goal

abbrev pub invariant-loop-i : goal.invariant-loop-i
invariant-loop-i l = cut_at l.mark l.text ≡ onto (take l.i l.text) (cut_at l.mark (drop l.i l.text))
