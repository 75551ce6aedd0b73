-- The value that one entry of the book has for contracts.
use Rattle.std.specs.declared.option.Option.{Option}
use Rattle.std.specs.declared.option.Option.TheVariants.{None, Some}
use Rattle.std.specs.Option.{option_map}
use Rattle.sfu_base.specs.declared.frame.Step.{Step}
use Rattle.sfu_base.specs.declared.frame.Verdict.{Verdict}
use Rattle.sfu_base.specs.declared.frame.Verdict.TheVariants as verdict
use Rattle.cause_book.specs.declared.entry.Entry.TheInside.{Inside}
use Rattle.cause_book.specs.declared.entry.Kept.{Kept}
use Rattle.cause_book.specs.declared.entry.Kept.TheVariants as kept

abbrev pub verdict_of : Kept → Option Verdict
verdict_of kept.Nothing = None
verdict_of kept.Passed = Some verdict.Passed
verdict_of (kept.NotOfTarget target) = Some (verdict.NotOfTarget target)
verdict_of (kept.Behind fdiff start) = Some (verdict.Behind fdiff start)
verdict_of (kept.Reference number) = Some (verdict.Reference number)
verdict_of (kept.Full queued needed) = Some (verdict.Full queued needed)
verdict_of (kept.Link at number) = Some (verdict.Link at number)
verdict_of (kept.Unopened since) = Some (verdict.Unopened since)
verdict_of (kept.Hole below above) = Some (verdict.Hole (Some below) above)
verdict_of (kept.HoleAbove above) = Some (verdict.Hole None above)

abbrev pub step_of : Inside → Option Step
step_of entry = option_map (λ v. record { number = entry.number; verdict = v }) (verdict_of entry.kept)
