-- The effect of one call on the start of a piece.
use Rattle.std.proofs.Common.{◌≡◌, ◌≤◌, ℕ, ◌+◌, Bool, true, cond, leb, List, [], ◌++◌, length, take, drop, refl, sym, ap, ◌∙◌, subst, arith, Ok, Err, append-nil}
use Rattle.std.proofs.lemmas.Bool.Decides.{nat_tests}
use Rattle.std.proofs.lemmas.List.{take-append-drop}
use Rattle.std.proofs.Math.Seq.{take-length}
use Rattle.sfu_driver.specs.declared.halt.Halt.{Halt}
use Rattle.sfu_driver.specs.declared.halt.Halt.TheVariants.{Ended, Starved}
use Rattle.sfu_driver.specs.declared.units.Units.{Units}
use Rattle.sfu_driver.specs.Outcome.{Outcome, ends_with, before, goes_on, takes, then_due}
use Rattle.sfu_driver.specs.Scan.{AllMore, EndsAt, Scan, NoUnit, Whole}
use Rattle.sfu_driver.specs.Point.{Point, Rule, behind, byte, ended, is_outside, judged}
use Rattle.sfu_driver.specs.Drive.{Judges, end_by}
use Rattle.sfu_driver.specs.Units.{StandsAt}
use Rattle.sfu_driver.proofs.Takes.{takes_err, then_ok}
use Rattle.sfu_driver.proofs.Cutting.{IsEnd, all_more, at, ends_at}

-- the state determines the point
pub at_point : {C J S : Type 0} (stands : J → S → Type 0) (u : Units C J) (p : Point S) → StandsAt stands u p → p ≡ at p.state u.number u.kept
at_point {C} {J} {S} stands u p stand = ap (λ (n : ℕ). at p.state n p.kept) (sym stand.number) ∙ ap (λ (xs : List ℕ). at p.state u.number xs) (sym stand.kept)

pub next_more : {C J S : Type 0} (stands : J → S → Type 0) (rule : Rule S) (old new : Units C J) (piece out : List ℕ) → AllMore (rule.scan old.number) old.kept piece
    → new.judge ≡ old.judge → new.number ≡ old.number → new.kept ≡ old.kept ++ piece → (p : Point S) → StandsAt stands old p
    → Judges (StandsAt stands) (takes (byte rule) p (take (length piece) piece)) new out out (Ok tt)
next_more {C} {J} {S} stands rule old new piece out going judge number kept p stand =
    let is : takes (byte rule) p (take (length piece) piece) ≡ goes_on (at p.state old.number (old.kept ++ piece)) =
    ap (λ (xs : List ℕ). takes (byte rule) p xs) (take-length piece) ∙ ap (λ (q : Point S). takes (byte rule) q piece) (at_point stands old p stand) ∙ all_more rule p.state old.number old.kept piece going in (
      at p.state old.number (old.kept ++ piece),
      ap (λ (o : Outcome (Point S)). o.result) is,
      record { state = subst (λ (j : J). stands j p.state) (sym judge) stand.state; number = number; kept = kept },
      sym (ap (λ (o : Outcome (Point S)). out ++ o.text) is ∙ append-nil out),
    )

-- ---- a unit that has ended

pub judged_whole : {S : Type 0} (rule : Rule S) (s : S) (n : ℕ) (text : List ℕ) → n ≤ 4294967295 → judged rule s n (Whole text) ≡ rule.step s n text
judged_whole rule s n text le = let e : leb n 4294967295 ≡ true = grind (arith, nat_tests) in ap (λ (t : Bool). cond t (rule.step s n text) (is_outside (rule.outside n))) e

-- the command continues with the next unit
pub end_ok : {C J S : Type 0} (stands : J → S → Type 0) (rule : Rule S) (new : Units C J) (judge : J) (s : S) (n : ℕ) (seen : Scan) (o : Outcome S) (out out' : List ℕ) → judged rule s n seen ≡ o
    → Judges stands o judge out out' (Ok tt) → new.judge ≡ judge → new.number ≡ n + 1 → new.kept ≡ [] → Judges (StandsAt stands) (ended rule s n seen) new out out' (Ok tt)
end_ok {C} {J} {S} stands rule new judge s n seen o out out' is j same number kept =
    let e : ended rule s n seen ≡ before o.text (goes_on (behind n j.0)) =
    ap (λ (due : Outcome S). then_due due (λ later. goes_on (behind n later))) is ∙ then_ok o j.0 (λ later. goes_on (behind n later)) j.1 in (
      behind n j.0,
      ap (λ (due : Outcome (Point S)). due.result) e,
      record { state = subst (λ (k : J). stands k j.0) (sym same) j.2; number = number; kept = kept },
      j.3 ∙ sym (ap (λ (due : Outcome (Point S)). out ++ due.text) e ∙ ap (λ (xs : List ℕ). out ++ xs) (append-nil o.text)),
    )

-- the command ends
pub end_err : {C J S : Type 0} (stands : J → S → Type 0) (rule : Rule S) (new : Units C J) (judge : J) (s : S) (n : ℕ) (seen : Scan) (o : Outcome S) (out out' : List ℕ) (halt : Halt) → judged rule s n seen ≡ o
    → Judges stands o judge out out' (Err halt) → Judges (StandsAt stands) (ended rule s n seen) new out out' (Err halt)
end_err {C} {J} {S} stands rule new judge s n seen o out out' (Ended why) is j =
    (j.0, ap (λ (due : Outcome S). then_due due (λ later. goes_on (behind n later))) (is ∙ j.1), j.2)
end_err stands rule new judge s n seen o out out' Starved is j = j

-- ---- bytes that end a unit

ends_here : {C J S : Type 0} (stands : J → S → Type 0) (rule : Rule S) (old : Units C J) (piece : List ℕ) (count : ℕ) (seen : Scan) → IsEnd seen → EndsAt (rule.scan old.number) old.kept piece count seen
    → (p : Point S) → StandsAt stands old p → takes (byte rule) p (take count piece) ≡ ended rule p.state old.number seen
ends_here {C} {J} {S} stands rule old piece count seen is e p stand =
    ap (λ (q : Point S). takes (byte rule) q (take count piece)) (at_point stands old p stand) ∙ ends_at rule p.state old.number old.kept piece count seen is e

pub next_ok : {C J S : Type 0} (stands : J → S → Type 0) (rule : Rule S) (old new : Units C J) (piece out out' : List ℕ) (count : ℕ) (seen : Scan) → IsEnd seen → EndsAt (rule.scan old.number) old.kept piece count seen
    → ((s : S) → stands old.judge s → Judges (StandsAt stands) (ended rule s old.number seen) new out out' (Ok tt)) → (p : Point S) → StandsAt stands old p
    → Judges (StandsAt stands) (takes (byte rule) p (take count piece)) new out out' (Ok tt)
next_ok {C} {J} {S} stands rule old new piece out out' count seen is e judges p stand =
    subst (λ (o : Outcome (Point S)). Judges (StandsAt stands) o new out out' (Ok tt)) (sym (ends_here stands rule old piece count seen is e p stand)) (judges p.state stand.state)

pub next_err : {C J S : Type 0} (stands : J → S → Type 0) (rule : Rule S) (old new : Units C J) (piece out out' : List ℕ) (count : ℕ) (seen : Scan) (halt : Halt) → IsEnd seen → EndsAt (rule.scan old.number) old.kept piece count seen
    → ((s : S) → stands old.judge s → Judges (StandsAt stands) (ended rule s old.number seen) new out out' (Err halt)) → (p : Point S) → StandsAt stands old p
    → Judges (StandsAt stands) (takes (byte rule) p piece) new out out' (Err halt)
next_err {C} {J} {S} stands rule old new piece out out' count seen Starved is e judges p stand = judges p.state stand.state
next_err {C} {J} {S} stands rule old new piece out out' count seen (Ended why) is e judges p stand =
    let here = ends_here stands rule old piece count seen is e p stand in
    let j = judges p.state stand.state in
    let first : takes (byte rule) p (take count piece) ≡ ends_with why j.0 = here ∙ j.1 in (
      j.0,
      ap (λ (xs : List ℕ). takes (byte rule) p xs) (sym (take-append-drop count piece))
          ∙ takes_err (byte rule) p (take count piece) (drop count piece) (end_by why j.0) (ap (λ (o : Outcome (Point S)). o.result) first)
          ∙ ap (λ (o : Outcome (Point S)). let all : Outcome (Point S) = record { text = o.text; result = Err (end_by why j.0) } in all) first,
      j.2,
    )

-- bytes that are outside the grammar
pub next_outside : {C J S : Type 0} (stands : J → S → Type 0) (rule : Rule S) (old new : Units C J) (judge : J) (piece out out' : List ℕ) (count : ℕ) (halt : Halt) → EndsAt (rule.scan old.number) old.kept piece count NoUnit
    → ((s : S) → Judges stands (is_outside (rule.outside old.number)) judge out out' (Err halt)) → (p : Point S) → StandsAt stands old p
    → Judges (StandsAt stands) (takes (byte rule) p piece) new out out' (Err halt)
next_outside stands rule old new judge piece out out' count halt e judges p stand =
    next_err stands rule old new piece out out' count NoUnit halt tt e (λ s _. end_err stands rule new judge s old.number NoUnit (is_outside (rule.outside old.number)) out out' halt refl (judges s)) p stand
