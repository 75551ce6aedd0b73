-- What a book returns for a number, from what contracts see of the book.
use Rattle.std.proofs.Common.{◌≡◌, ◌<◌, ◌≤◌, ℕ, ◌+◌, ◌-◌, Bool, true, false, cond, List, refl, sym, ap, ◌∙◌, arith, Option, Some, None, Result, Ok, Err, is_some, true≢false}
use Rattle.std.specs.Prelude.{nat_lt, nat_le}
use Rattle.std.specs.Option.{option_map}
use Rattle.std.proofs.lemmas.Bool.{le-leb, le-ltb, lt-leb, ltb-false, ltb-true}
use Rattle.sfu_base.specs.declared.call.Refusal.{Refusal}
use Rattle.sfu_base.specs.declared.call.Refusal.TheVariants.{Ahead, TooOld}
use Rattle.sfu_base.specs.declared.frame.Step.{Step}
use Rattle.sfu_base.specs.declared.frame.Verdict.{Verdict}
use Rattle.sfu_base.specs.declared.frame.Verdict.TheVariants.{Hole}
use Rattle.forwarding_model.specs.forwarding.Causes.{is_ahead, is_too_old, newest_number, next_above, next_below, number_or, oldest_asked, verdict_among, verdict_or_hole}
use Rattle.cause_book.specs.Book.{judged}
use Rattle.cause_book.specs.Kept.{IsNewest, steps_to}
use Rattle.cause_book.specs.Slots.{IsNextAbove, IsNextBelow, step_at}
use Rattle.cause_book.proofs.Downward.{above_is, below_is, below_none, verdict_of}
use Rattle.cause_book.proofs.Writing.{newest_seen}

-- the result if this is the newest number
abbrev judged_at : Option ℕ → List Step → ℕ → Result Verdict Refusal
judged_at o steps n =
    cond (is_ahead o n) (Err (Ahead o)) (cond (is_too_old o n) (Err (TooOld (oldest_asked (number_or o 0))))
    (Ok (verdict_or_hole (verdict_among steps n) (next_below steps (number_or o 0) n) (next_above steps n))))

judged_by : (o : Option ℕ) (steps : List Step) (n : ℕ) → newest_number steps ≡ o → judged steps n ≡ judged_at o steps n
judged_by o steps n e = ap (λ (newest : Option ℕ). judged_at newest steps n) e

pub judged_ahead : (o : Option ℕ) (shift : ℕ) (slots : List (Option Step)) (n : ℕ) → IsNewest o shift slots → is_ahead o n ≡ true → judged (steps_to o shift slots) n ≡ Err (Ahead o)
judged_ahead o shift slots n h ahead =
    judged_by o (steps_to o shift slots) n (newest_seen o shift slots h)
    ∙ ap (λ (b : Bool). cond b (Err (Ahead o)) (cond (is_too_old o n) (Err (TooOld (oldest_asked (number_or o 0))))
    (Ok (verdict_or_hole (verdict_among (steps_to o shift slots) n) (next_below (steps_to o shift slots) (number_or o 0) n) (next_above (steps_to o shift slots) n))))) ahead

module _ (m : ℕ) (shift : ℕ) (slots : List (Option Step)) (n : ℕ) (h : IsNewest (Some m) shift slots) (low : n ≤ m) where
  abbrev steps : List Step
  steps = steps_to (Some m) shift slots

  not_ahead : judged steps n ≡ cond (nat_le (n + 4096) m) (Err (TooOld (m - 4095))) (Ok (verdict_or_hole (verdict_among steps n) (next_below steps m n) (next_above steps n)))
  not_ahead =
      judged_by (Some m) steps n (newest_seen (Some m) shift slots h)
      ∙ ap (λ (b : Bool). cond b (Err (Ahead (Some m))) (cond (nat_le (n + 4096) m) (Err (TooOld (m - 4095)))
      (Ok (verdict_or_hole (verdict_among steps n) (next_below steps m n) (next_above steps n))))) (le-ltb m n low)

  pub judged_old : n + 4096 ≤ m → judged steps n ≡ Err (TooOld (m - 4095))
  judged_old old =
      not_ahead ∙ ap (λ (b : Bool). cond b (Err (TooOld (m - 4095))) (Ok (verdict_or_hole (verdict_among steps n) (next_below steps m n) (next_above steps n)))) (le-leb (n + 4096) m old)

  asked : m < n + 4096 → judged steps n ≡ Ok (verdict_or_hole (verdict_among steps n) (next_below steps m n) (next_above steps n))
  asked young =
      not_ahead ∙ ap (λ (b : Bool). cond b (Err (TooOld (m - 4095))) (Ok (verdict_or_hole (verdict_among steps n) (next_below steps m n) (next_above steps n)))) (lt-leb (n + 4096) m young)

  found : m < n + 4096 → verdict_among steps n ≡ option_map (λ s. s.verdict) (step_at shift slots n)
  found young = verdict_of shift slots (m - 4095) (m + 1 - (m - 4095)) n (omega (arith, young)) (omega (arith, low))

  pub judged_step : (step : Step) → m < n + 4096 → step_at shift slots n ≡ Some step → judged steps n ≡ Ok step.verdict
  judged_step step young there =
      asked young
      ∙ ap (λ (o : Option Verdict). Ok (verdict_or_hole o (next_below steps m n) (next_above steps n))) (found young ∙ ap (option_map (λ s. s.verdict)) there)

  below_found : (below : Option ℕ) → IsNextBelow shift slots (m - 4095) n below → next_below steps m n ≡ below
  below_found None none = below_none shift slots (m - 4095) (m + 1 - (m - 4095)) m n none
  below_found (Some b) h =
      let ge = h.0 in
      let lt = h.1 in
      below_is shift slots (m - 4095) (m + 1 - (m - 4095)) m n b ge (omega (arith, lt, low)) lt (omega (arith, ge)) h.2 h.3

  -- no step has a number above the newest
  within : (k : ℕ) → is_some (step_at shift slots k) ≡ true → k ≤ m
  within k there = go (nat_lt m k) refl
    where
      go : (b : Bool) → nat_lt m k ≡ b → k ≤ m
      go true higher = absurd (true≢false (sym there ∙ ap is_some (h.1 k (ltb-true m k higher))))
      go false lower = ltb-false m k lower

  pub judged_hole : (below : Option ℕ) (above : ℕ) → m < n + 4096 → step_at shift slots n ≡ None → IsNextBelow shift slots (m - 4095) n below → IsNextAbove shift slots n above
      → judged steps n ≡ Ok (Hole below above)
  judged_hole below above young none down up =
      let high = up.higher in
      let le = within above up.there in
      asked young
      ∙ ap (λ (o : Option Verdict). Ok (verdict_or_hole o (next_below steps m n) (next_above steps n))) (found young ∙ ap (option_map (λ s. s.verdict)) none)
      ∙ ap (λ (o : Option ℕ). Ok (Hole o (number_or (next_above steps n) 0))) (below_found below down)
      ∙ ap (λ (o : Option ℕ). Ok (Hole below (number_or o 0)))
      (above_is shift slots (m - 4095) (m + 1 - (m - 4095)) n above high (omega (arith, high, young)) (omega (arith, le)) up.there up.none)
