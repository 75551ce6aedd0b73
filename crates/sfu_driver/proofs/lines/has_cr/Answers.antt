use Rattle.std.proofs.Common.{◌∙◌, List, ℕ, sym, ap}
use Rattle.sfu_driver.specs.Lines.{ends_in_cr}
use Rattle.sfu_driver.proofs.LineScans.{cr_last}
use Rattle.sfu_driver.proofs.lines.has_cr.Goals as goal

pub returns-in-Some : goal.returns-in-Some
returns-in-Some c = sym (ap (λ (xs : List ℕ). ends_in_cr xs) c.in-Some.ensures.cases.0 ∙ cr_last c.in-Some.field-0-1.now c.in-Some.last.now)
