-- The effect of bytes on a unit.
use Rattle.std.proofs.Common.{◌≡◌, ℕ, List, [], ◌∷◌, ◌++◌, take, refl, sym, ap, ◌∙◌, Result, Ok, Err, append_assoc, append-nil}
use Rattle.sfu_driver.specs.Outcome.{End, Outcome, before, goes_on, takes, then_due}
use Rattle.sfu_driver.specs.Scan.{AllMore, EndsAt, Scan, More, NoUnit, Whole}
use Rattle.sfu_driver.specs.Point.{Point, Rule, byte, ended, judged, moved}
use Rattle.sfu_driver.proofs.Takes.{takes_ok}

-- the point after these bytes were added to the unit
abbrev pub at : {S : Type 0} → S → ℕ → List ℕ → Point S
at state number kept = record { state = state; number = number; kept = kept }

pub by_scan : {S : Type 0} (rule : Rule S) (s : S) (n : ℕ) (kept : List ℕ) (b : ℕ) (seen : Scan) → rule.scan n kept b ≡ seen
    → byte rule (at s n kept) b ≡ then_due (judged rule s n seen) (λ later. goes_on (moved (at s n kept) b seen later))
by_scan rule s n kept b seen is = ap (λ (l : Scan). then_due (judged rule s n l) (λ later. goes_on (moved (at s n kept) b l later))) is

-- bytes that only continue a unit
pub all_more : {S : Type 0} (rule : Rule S) (s : S) (n : ℕ) (kept bytes : List ℕ) → AllMore (rule.scan n) kept bytes
    → takes (byte rule) (at s n kept) bytes ≡ goes_on (at s n (kept ++ bytes))
all_more rule s n kept [] going = ap (λ (xs : List ℕ). goes_on (at s n xs)) (sym (append-nil kept))
all_more {S} rule s n kept (b ∷ bytes) going =
    ap (λ (o : Outcome (Point S)). then_due o (λ later. takes (byte rule) later bytes)) (by_scan rule s n kept b More going.0)
    ∙ all_more rule s n (kept ++ b ∷ []) bytes going.1
    ∙ ap (λ (xs : List ℕ). goes_on (at s n xs)) (append_assoc kept (b ∷ []) bytes)

-- a search that finds the end of the unit
abbrev pub IsEnd : Scan → Type 0
IsEnd More = ⊥
IsEnd other = Unit {0}

pub end_moves : {S : Type 0} (rule : Rule S) (s : S) (n : ℕ) (kept : List ℕ) (b : ℕ) (seen : Scan) → IsEnd seen
    → then_due (judged rule s n seen) (λ later. goes_on (moved (at s n kept) b seen later)) ≡ ended rule s n seen
end_moves rule s n kept b More is = absurd is
end_moves rule s n kept b (Whole text) is = refl
end_moves rule s n kept b NoUnit is = refl

one_more : {S : Type 0} (f : S → ℕ → Outcome S) (s : S) (b : ℕ) → takes f s (b ∷ []) ≡ f s b
one_more {S} f s b = by_result (f s b).text (f s b).result
  where
    by_result : (t : List ℕ) (r : Result S End) → then_due (let o : Outcome S = record { text = t; result = r } in o) (λ later. goes_on later) ≡ record { text = t; result = r }
    by_result t (Ok q) = ap (λ (text : List ℕ). let o : Outcome S = record { text = text; result = Ok q } in o) (append-nil t)
    by_result t (Err why) = refl

-- bytes that end a unit
pub ends_at : {S : Type 0} (rule : Rule S) (s : S) (n : ℕ) (kept piece : List ℕ) (count : ℕ) (seen : Scan) → IsEnd seen → EndsAt (rule.scan n) kept piece count seen
    → takes (byte rule) (at s n kept) (take count piece) ≡ ended rule s n seen
ends_at {S} rule s n kept piece count seen is e =
    let front : takes (byte rule) (at s n kept) e.front ≡ goes_on (at s n (kept ++ e.front)) = all_more rule s n kept e.front e.going in
    ap (λ (xs : List ℕ). takes (byte rule) (at s n kept) xs) e.split
    ∙ takes_ok (byte rule) (at s n kept) (at s n (kept ++ e.front)) e.front (e.byte ∷ []) (ap (λ (o : Outcome (Point S)). o.result) front)
    ∙ ap (λ (o : Outcome (Point S)). before o.text (takes (byte rule) (at s n (kept ++ e.front)) (e.byte ∷ []))) front
    ∙ one_more (byte rule) (at s n (kept ++ e.front)) e.byte
    ∙ by_scan rule s n (kept ++ e.front) e.byte seen e.ends
    ∙ end_moves rule s n (kept ++ e.front) e.byte seen is
