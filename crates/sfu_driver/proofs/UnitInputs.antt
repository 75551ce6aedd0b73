-- The text that is due for bytes, one after another, is the one due for their units, for any way of cutting.
use Rattle.std.proofs.Common.{◌≡◌, ℕ, ◌+◌, List, [], ◌∷◌, ◌++◌, refl, ap, ◌∙◌}
use Rattle.sfu_driver.specs.Outcome.{takes, then_due}
use Rattle.sfu_driver.specs.Scan.{Scan, More, NoUnit, Whole}
use Rattle.sfu_driver.specs.Point.{Rule, behind, byte, closed, due, judged}
use Rattle.sfu_driver.specs.Input.{due_all, judged_all, judged_units, last_unit, units_of, with_unit}
use Rattle.sfu_driver.specs.Statuses.{due_of}
use Rattle.sfu_driver.proofs.Cutting.{at}
use Rattle.sfu_driver.proofs.LineInputs.{due_end, due_more, due_same, takes_end, takes_more, then_same}

at_last : {S : Type 0} (rule : Rule S) (s : S) (n : ℕ) (seen : Scan) → then_due (judged rule s n seen) (λ later. closed rule later) ≡ due_all rule (last_unit seen) n s
at_last rule s n More = refl
at_last rule s n (Whole text) = refl
at_last rule s n NoUnit = refl

pub due_is_units : {S : Type 0} (rule : Rule S) (s : S) (n : ℕ) (kept bytes : List ℕ) → due rule (at s n kept) bytes ≡ due_all rule (units_of rule.scan rule.scan_end n kept bytes) n s
due_is_units rule s n kept [] = at_last rule s n (rule.scan_end n kept)
due_is_units {S} rule s n kept (b ∷ bytes) =
    by_scan (due_is_units rule s n (kept ++ b ∷ []) bytes) (λ later. due_is_units rule later (n + 1) [] bytes) (rule.scan n kept b) refl
  where
    by_scan : due rule (at s n (kept ++ b ∷ [])) bytes ≡ due_all rule (units_of rule.scan rule.scan_end n (kept ++ b ∷ []) bytes) n s
        → ((later : S) → due rule (behind n later) bytes ≡ due_all rule (units_of rule.scan rule.scan_end (n + 1) [] bytes) (n + 1) later)
        → (seen : Scan) → rule.scan n kept b ≡ seen
        → due rule (at s n kept) (b ∷ bytes)
        ≡ due_all rule (with_unit seen (units_of rule.scan rule.scan_end n (kept ++ b ∷ []) bytes) (units_of rule.scan rule.scan_end (n + 1) [] bytes)) n s
    by_scan same next More is = due_more rule s n kept b bytes is ∙ same
    by_scan same next (Whole text) is =
        due_end rule s n kept b bytes (Whole text) tt is ∙ due_same (judged rule s n (Whole text)) (λ later. due rule (behind n later) bytes) _ next
    by_scan same next NoUnit is = due_end rule s n kept b bytes NoUnit tt is

pub judged_is_units : {S : Type 0} (rule : Rule S) (s : S) (n : ℕ) (kept bytes : List ℕ)
    → due_of (takes (byte rule) (at s n kept) bytes) ≡ due_of (judged_all rule (judged_units rule.scan n kept bytes) n s)
judged_is_units rule s n kept [] = refl
judged_is_units {S} rule s n kept (b ∷ bytes) =
    by_scan (judged_is_units rule s n (kept ++ b ∷ []) bytes) (λ later. judged_is_units rule later (n + 1) [] bytes) (rule.scan n kept b) refl
  where
    by_scan : due_of (takes (byte rule) (at s n (kept ++ b ∷ [])) bytes) ≡ due_of (judged_all rule (judged_units rule.scan n (kept ++ b ∷ []) bytes) n s)
        → ((later : S) → due_of (takes (byte rule) (behind n later) bytes) ≡ due_of (judged_all rule (judged_units rule.scan (n + 1) [] bytes) (n + 1) later))
        → (seen : Scan) → rule.scan n kept b ≡ seen
        → due_of (takes (byte rule) (at s n kept) (b ∷ bytes))
        ≡ due_of (judged_all rule (with_unit seen (judged_units rule.scan n (kept ++ b ∷ []) bytes) (judged_units rule.scan (n + 1) [] bytes)) n s)
    by_scan same next More is = ap due_of (takes_more rule s n kept b bytes is) ∙ same
    by_scan same next (Whole text) is =
        ap due_of (takes_end rule s n kept b bytes (Whole text) tt is)
        ∙ then_same (judged rule s n (Whole text)) (λ later. takes (byte rule) (behind n later) bytes) (λ later. judged_all rule (judged_units rule.scan (n + 1) [] bytes) (n + 1) later) next
    by_scan same next NoUnit is = ap due_of (takes_end rule s n kept b bytes NoUnit tt is)
