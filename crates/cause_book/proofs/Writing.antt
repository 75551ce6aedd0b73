-- How a write changes the steps that contracts see.
use Rattle.std.proofs.Common.{◌≡◌, ◌<◌, ◌≤◌, ℕ, suc, ◌+◌, ◌-◌, ◌%◌, Bool, true, cond, List, [], ◌∷◌, length, refl, sym, ap, ◌∙◌, arith, Option, Some, None, is_some}
use Rattle.std.specs.Prelude.{slice_set}
use Rattle.std.proofs.lemmas.Bool.{lt-ltb, ltb-true}
use Rattle.sfu_base.specs.declared.frame.Step.{Step}
use Rattle.forwarding_model.specs.forwarding.Causes.{is_ahead, newest_number}
use Rattle.cause_book.specs.Book.{IsAboveAll, near, recent}
use Rattle.cause_book.specs.Kept.{IsNewest, steps_to}
use Rattle.cause_book.specs.Slots.{and_step, step_at, steps_down}
use Rattle.cause_book.proofs.Downward.{near_steps, newest_there, none_more, one_more, same_steps}
use Rattle.cause_book.proofs.Places.{written_apart, written_here, written_nowhere}

-- the newest number in what contracts see
pub newest_seen : (newest : Option ℕ) (shift : ℕ) (slots : List (Option Step)) → IsNewest newest shift slots → newest_number (steps_to newest shift slots) ≡ newest
newest_seen None shift slots h = refl
newest_seen (Some m) shift slots h =
    let low : ℕ = m - 4095 in
    let back : low + (m - low) ≡ m = omega arith in
    ap (λ (count : ℕ). newest_number (steps_down shift slots low count)) (let e : m + 1 - low ≡ suc (m - low) = omega arith in e)
    ∙ newest_there shift slots low (m - low) (ap (λ (n : ℕ). is_some (step_at shift slots n)) back ∙ h.0)
    ∙ ap Some back

-- a number above all is above the newest
pub above_newest : (number m : ℕ) (steps : List Step) → IsAboveAll number steps → newest_number steps ≡ Some m → m < number
above_newest number m [] h e = absurd (cc e)
above_newest number m (step ∷ past) h e = let same : step.number ≡ m = cc e in let lt = h.0 in omega (arith, same, lt)

-- if `number` is above the newest, no step has `number` or a greater number
none_from : (newest : Option ℕ) (shift : ℕ) (slots : List (Option Step)) (number n : ℕ) → IsNewest newest shift slots → is_ahead newest number ≡ true
    → number ≤ n → step_at shift slots n ≡ None
none_from None shift slots number n h ahead le = h n
none_from (Some m) shift slots number n h ahead le = let lt = ltb-true m number ahead in h.1 n (omega (arith, lt, le))

-- the earlier steps that are still recent
seen_before : (newest : Option ℕ) (shift : ℕ) (slots : List (Option Step)) (number : ℕ) → IsNewest newest shift slots → is_ahead newest number ≡ true
    → steps_down shift slots (number - 4095) (number - (number - 4095)) ≡ near number (steps_to newest shift slots)
seen_before None shift slots number h ahead =
    ap (steps_down shift slots (number - 4095)) (let e : number - (number - 4095) ≡ 0 + (number - (number - 4095)) = omega arith in e)
    ∙ none_more shift slots (number - 4095) 0 (number - (number - 4095)) (λ n le lt. h n)
seen_before (Some m) shift slots number h ahead =
    let lt : m < number = ltb-true m number ahead in
    let low : ℕ = number - 4095 in
    let count : ℕ = m + 1 - low in
    let more : ℕ = number - low - count in
    ap (steps_down shift slots low) (let e : number - low ≡ count + more = omega (arith, lt) in e)
    ∙ none_more shift slots low count more (λ n le less. h.1 n (omega (arith, le)))
    ∙ ap (steps_down shift slots low) (let e : count ≡ m - 4095 + (m + 1 - (m - 4095)) - low = omega arith in e)
    ∙ sym (near_steps shift slots number (m - 4095) (m + 1 - (m - 4095)) (omega (arith, lt)))

module _ (shift : ℕ) (slots : List (Option Step)) (other : ℕ) (new : List (Option Step)) (same : (n : ℕ) → step_at other new n ≡ step_at shift slots n) where
  pub same_seen : (newest : Option ℕ) → steps_to newest other new ≡ steps_to newest shift slots
  same_seen None = refl
  same_seen (Some m) = same_steps shift slots other new (m - 4095) (m + 1 - (m - 4095)) (λ n ge lt. same n)

  pub same_newest : (newest : Option ℕ) → IsNewest newest shift slots → IsNewest newest other new
  same_newest None h = λ n. same n ∙ h n
  same_newest (Some m) h = (ap is_some (same m) ∙ h.0, λ n lt. same n ∙ h.1 n lt)

module _ (shift : ℕ) (slots : List (Option Step)) (step : Step) (made : (step.number + shift) % 4096 < length slots) (newest : Option ℕ) (h : IsNewest newest shift slots) (ahead : is_ahead newest step.number ≡ true) where
  abbrev after : List (Option Step)
  after = slice_set slots ((step.number + shift) % 4096) (Some step)

  pub write_seen : steps_to (Some step.number) shift after ≡ recent (step ∷ steps_to newest shift slots)
  write_seen =
      let number : ℕ = step.number in
      let low : ℕ = number - 4095 in
      ap (steps_down shift after low) (let e : number + 1 - low ≡ suc number - low = omega arith in e)
      ∙ one_more shift after low number (omega arith)
      ∙ ap (λ (o : Option Step). and_step o (steps_down shift after low (number - low))) (written_here shift slots step made)
      ∙ ap (λ (l : List Step). step ∷ l)
      (same_steps shift slots shift after low (number - low) (λ n ge lt. written_apart shift slots step made n (λ same. omega (arith, same, ge, lt)))
      ∙ seen_before newest shift slots number h ahead)
      ∙ sym (ap (λ (b : Bool). cond b (step ∷ near number (steps_to newest shift slots)) []) (lt-ltb number (number + 4096) (omega arith)))

  pub newest_written : IsNewest (Some step.number) shift after
  newest_written = (
    ap is_some (written_here shift slots step made),
    λ n lt. written_nowhere shift slots step made n (λ same. omega (arith, same, lt)) (none_from newest shift slots step.number n h ahead (omega (arith, lt))),
  )
