-- The steps of a run of numbers, from the highest down.
use Rattle.std.proofs.Common.{◌≡◌, ◌≢◌, ◌<◌, ◌≤◌, ℕ, zero, suc, ◌+◌, ◌-◌, Bool, true, false, cond, List, [], ◌∷◌, refl, sym, ap, subst, ◌∙◌, arith, Option, Some, None, is_some, true≢false}
use Rattle.std.specs.Prelude.{◌==◌, nat_lt}
use Rattle.std.specs.Option.{option_map}
use Rattle.std.proofs.lemmas.Bool.{eqb-true, eq-eqb, ne_eqb, lt-ltb, le-ltb, ltb-true, ltb-false}
use Rattle.sfu_base.specs.declared.frame.Step.{Step}
use Rattle.forwarding_model.specs.forwarding.Causes.{newest_number, next_above, next_below, number_or, verdict_among}
use Rattle.cause_book.specs.Book.{near}
use Rattle.cause_book.specs.Slots.{NoneBetween, and_step, step_at, steps_down}
use Rattle.cause_book.proofs.Places.{number_at}

some_none : (o : Option Step) → is_some o ≡ true → o ≡ None → ⊥
some_none None h e = true≢false (sym h)
some_none (Some step) h e = cc e

module _ (shift : ℕ) (slots : List (Option Step)) where
  abbrev down : ℕ → ℕ → List Step
  down = steps_down shift slots

  -- ---- runs

  pub same_steps : (other : ℕ) (others : List (Option Step)) (low count : ℕ) → ((n : ℕ) → low ≤ n → n < low + count → step_at other others n ≡ step_at shift slots n)
      → steps_down other others low count ≡ down low count
  same_steps other others low zero same = refl
  same_steps other others low (suc count) same =
      ap (λ (o : Option Step). and_step o (steps_down other others low count)) (same (low + count) (omega arith) (omega arith))
      ∙ ap (and_step (step_at shift slots (low + count))) (same_steps other others low count (λ n le lt. same n le (omega arith)))

  -- numbers without a step add nothing
  pub none_more : (low count more : ℕ) → NoneBetween shift slots (low + count) (low + count + more) → down low (count + more) ≡ down low count
  none_more low count zero none = ap (down low) (let e : count + 0 ≡ count = omega arith in e)
  none_more low count (suc more) none =
      ap (down low) (let e : count + suc more ≡ suc (count + more) = omega arith in e)
      ∙ ap (λ (o : Option Step). and_step o (down low (count + more))) (none (low + (count + more)) (omega arith) (omega arith))
      ∙ none_more low count more (λ n le lt. none n le (omega arith))

  -- one number more
  pub one_more : (low top : ℕ) → low ≤ top → down low (suc top - low) ≡ and_step (step_at shift slots top) (down low (top - low))
  one_more low top le =
      ap (down low) (let e : suc top - low ≡ suc (top - low) = omega (arith, le) in e)
      ∙ ap (λ (n : ℕ). and_step (step_at shift slots n) (down low (top - low))) (let e : low + (top - low) ≡ top = omega (arith, le) in e)

  pub none_left : (low top : ℕ) → top ≤ low → down low (top - low) ≡ []
  none_left low top le = ap (down low) (let e : top - low ≡ 0 = omega (arith, le) in e)

  -- the numbers less than 4,096 below a number begin 4,095 below it
  pub near_steps : (number low count : ℕ) → low ≤ number - 4095 → near number (down low count) ≡ down (number - 4095) (low + count - (number - 4095))
  near_steps number low zero le = sym (none_left (number - 4095) (low + 0) (omega arith))
  near_steps number low (suc count) le = go (nat_lt (low + count) (number - 4095)) refl (near_steps number low count le)
    where
      from : ℕ
      from = number - 4095

      top : ℕ
      top = low + count

      go : (b : Bool) → nat_lt top (number - 4095) ≡ b → near number (down low count) ≡ down (number - 4095) (top - (number - 4095))
          → near number (and_step (step_at shift slots top) (down low count)) ≡ down (number - 4095) (low + suc count - (number - 4095))
      go true far rest = below (step_at shift slots top) refl ∙ sym (none_left (number - 4095) (low + suc count) (let lt = ltb-true top (number - 4095) far in omega (arith, lt)))
        where
          lt : top < number - 4095
          lt = ltb-true top (number - 4095) far

          below : (o : Option Step) → step_at shift slots top ≡ o → near number (and_step o (down low count)) ≡ []
          below None e = rest ∙ none_left (number - 4095) top (omega (arith, lt))
          below (Some step) e =
              ap (λ (b : Bool). cond b (step ∷ near number (down low count)) [])
              (le-ltb number (step.number + 4096) (let same = number_at shift slots top step e in omega (arith, same, lt)))
      go false close rest =
          within (step_at shift slots top) refl
          ∙ sym (ap (down (number - 4095)) (let e : low + suc count - (number - 4095) ≡ suc top - (number - 4095) = omega arith in e) ∙ one_more (number - 4095) top ge)
        where
          ge : number - 4095 ≤ top
          ge = ltb-false top (number - 4095) close

          within : (o : Option Step) → step_at shift slots top ≡ o
              → near number (and_step o (down low count)) ≡ and_step o (down (number - 4095) (top - (number - 4095)))
          within None e = rest
          within (Some step) e =
              ap (λ (b : Bool). cond b (step ∷ near number (down low count)) [])
              (lt-ltb number (step.number + 4096) (let same = number_at shift slots top step e in omega (arith, same, ge)))
              ∙ ap (λ (l : List Step). step ∷ l) rest

  pub newest_there : (low count : ℕ) → is_some (step_at shift slots (low + count)) ≡ true → newest_number (down low (suc count)) ≡ Some (low + count)
  newest_there low count there = go (step_at shift slots (low + count)) refl there
    where
      go : (o : Option Step) → step_at shift slots (low + count) ≡ o → is_some o ≡ true → newest_number (and_step o (down low count)) ≡ Some (low + count)
      go None e h = absurd (true≢false (sym h))
      go (Some step) e h = ap Some (number_at shift slots (low + count) step e)

  -- ---- verdicts by number

  pub verdict_past : (low count n : ℕ) → low + count ≤ n → verdict_among (down low count) n ≡ None
  verdict_past low zero n le = refl
  verdict_past low (suc count) n le = go (step_at shift slots (low + count)) refl (verdict_past low count n (omega arith))
    where
      go : (o : Option Step) → step_at shift slots (low + count) ≡ o → verdict_among (down low count) n ≡ None
          → verdict_among (and_step o (down low count)) n ≡ None
      go None e rest = rest
      go (Some step) e rest =
          ap (λ (b : Bool). cond b (Some step.verdict) (verdict_among (down low count) n))
          (ne_eqb step.number n (λ same. let top = number_at shift slots (low + count) step e in omega (arith, same, top, le)))
          ∙ rest

  pub verdict_of : (low count n : ℕ) → low ≤ n → n < low + count → verdict_among (down low count) n ≡ option_map (λ s. s.verdict) (step_at shift slots n)
  verdict_of low zero n le lt = absurd (omega arith)
  verdict_of low (suc count) n le lt = go ((low + count) == n) refl (λ less. verdict_of low count n le less)
    where
      go : (b : Bool) → ((low + count) == n) ≡ b → (n < low + count → verdict_among (down low count) n ≡ option_map (λ s. s.verdict) (step_at shift slots n))
          → verdict_among (and_step (step_at shift slots (low + count)) (down low count)) n ≡ option_map (λ s. s.verdict) (step_at shift slots n)
      go true test fewer =
          let same : low + count ≡ n = eqb-true (low + count) n test in
          subst (λ (k : ℕ). verdict_among (and_step (step_at shift slots (low + count)) (down low count)) k ≡ option_map (λ s. s.verdict) (step_at shift slots k)) same
          (here (step_at shift slots (low + count)) refl)
        where
          here : (o : Option Step) → step_at shift slots (low + count) ≡ o → verdict_among (and_step o (down low count)) (low + count) ≡ option_map (λ s. s.verdict) o
          here None e = verdict_past low count (low + count) (omega arith)
          here (Some step) e =
              ap (λ (b : Bool). cond b (Some step.verdict) (verdict_among (down low count) (low + count))) (eq-eqb step.number (low + count) (number_at shift slots (low + count) step e))
      go false test fewer = there (step_at shift slots (low + count)) refl (fewer (let other = apart in omega (arith, other, lt)))
        where
          apart : low + count ≢ n
          apart same = true≢false (sym (eq-eqb (low + count) n same) ∙ test)

          there : (o : Option Step) → step_at shift slots (low + count) ≡ o → verdict_among (down low count) n ≡ option_map (λ s. s.verdict) (step_at shift slots n)
              → verdict_among (and_step o (down low count)) n ≡ option_map (λ s. s.verdict) (step_at shift slots n)
          there None e rest = rest
          there (Some step) e rest =
              ap (λ (b : Bool). cond b (Some step.verdict) (verdict_among (down low count) n))
              (ne_eqb step.number n (λ same. apart (sym (number_at shift slots (low + count) step e) ∙ same)))
              ∙ rest

  -- ---- the next above

  pub above_none : (low count n : ℕ) → NoneBetween shift slots (n + 1) (low + count) → next_above (down low count) n ≡ None
  above_none low zero n none = refl
  above_none low (suc count) n none = go (step_at shift slots (low + count)) refl (above_none low count n (λ k le lt. none k le (omega arith)))
    where
      go : (o : Option Step) → step_at shift slots (low + count) ≡ o → next_above (down low count) n ≡ None → next_above (and_step o (down low count)) n ≡ None
      go None e rest = rest
      go (Some step) e rest = by_order (nat_lt n step.number) refl
        where
          by_order : (b : Bool) → nat_lt n step.number ≡ b → cond b (Some (number_or (next_above (down low count) n) step.number)) None ≡ None
          by_order true higher =
              let lt = ltb-true n step.number higher in
              let top = number_at shift slots (low + count) step e in
              absurd (cc (sym e ∙ none (low + count) (omega (arith, lt, top)) (omega arith)))
          by_order false lower = refl

  pub above_is : (low count n above : ℕ) → n < above → low ≤ above → above < low + count → is_some (step_at shift slots above) ≡ true → NoneBetween shift slots (n + 1) above
      → next_above (down low count) n ≡ Some above
  above_is low zero n above higher le lt there none = absurd (omega arith)
  above_is low (suc count) n above higher le lt there none = go ((low + count) == above) refl (λ less. above_is low count n above higher le less there none)
    where
      go : (b : Bool) → ((low + count) == above) ≡ b → (above < low + count → next_above (down low count) n ≡ Some above)
          → next_above (and_step (step_at shift slots (low + count)) (down low count)) n ≡ Some above
      go true test fewer = here (step_at shift slots (low + count)) refl
        where
          same : low + count ≡ above
          same = eqb-true (low + count) above test

          here : (o : Option Step) → step_at shift slots (low + count) ≡ o → next_above (and_step o (down low count)) n ≡ Some above
          here None e = absurd (some_none (step_at shift slots above) there (ap (step_at shift slots) (sym same) ∙ e))
          here (Some step) e =
              let top : step.number ≡ above = number_at shift slots (low + count) step e ∙ same in
              ap (λ (b : Bool). cond b (Some (number_or (next_above (down low count) n) step.number)) None) (lt-ltb n step.number (omega (arith, top, higher)))
              ∙ ap (λ (o : Option ℕ). Some (number_or o step.number)) (above_none low count n (λ k ge below. none k ge (omega (arith, below, same))))
              ∙ ap Some top
      go false test fewer = later (step_at shift slots (low + count)) refl (fewer (omega (arith, lt, apart)))
        where
          apart : low + count ≢ above
          apart same = true≢false (sym (eq-eqb (low + count) above same) ∙ test)

          later : (o : Option Step) → step_at shift slots (low + count) ≡ o → next_above (down low count) n ≡ Some above
              → next_above (and_step o (down low count)) n ≡ Some above
          later None e rest = rest
          later (Some step) e rest =
              let top = number_at shift slots (low + count) step e in
              ap (λ (b : Bool). cond b (Some (number_or (next_above (down low count) n) step.number)) None) (lt-ltb n step.number (omega (arith, top, higher, lt, apart)))
              ∙ ap (λ (o : Option ℕ). Some (number_or o step.number)) rest

  -- ---- the next below

  pub below_none : (low count newest n : ℕ) → NoneBetween shift slots low n → next_below (down low count) newest n ≡ None
  below_none low zero newest n none = refl
  below_none low (suc count) newest n none = go (step_at shift slots (low + count)) refl (below_none low count newest n none)
    where
      go : (o : Option Step) → step_at shift slots (low + count) ≡ o → next_below (down low count) newest n ≡ None → next_below (and_step o (down low count)) newest n ≡ None
      go None e rest = rest
      go (Some step) e rest = by_order (nat_lt step.number n) refl
        where
          by_order : (b : Bool) → nat_lt step.number n ≡ b
              → cond b (cond (nat_lt newest (step.number + 4096)) (Some step.number) None) (next_below (down low count) newest n) ≡ None
          by_order true lower =
              let lt = ltb-true step.number n lower in
              let top = number_at shift slots (low + count) step e in
              absurd (cc (sym e ∙ none (low + count) (omega arith) (omega (arith, lt, top))))
          by_order false higher = rest

  pub below_is : (low count newest n below : ℕ) → low ≤ below → below < low + count → below < n → newest < below + 4096 → is_some (step_at shift slots below) ≡ true
      → NoneBetween shift slots (below + 1) n → next_below (down low count) newest n ≡ Some below
  below_is low zero newest n below le lt lower close there none = absurd (omega arith)
  below_is low (suc count) newest n below le lt lower close there none =
      go ((low + count) == below) refl (λ less. below_is low count newest n below le less lower close there none)
    where
      go : (b : Bool) → ((low + count) == below) ≡ b → (below < low + count → next_below (down low count) newest n ≡ Some below)
          → next_below (and_step (step_at shift slots (low + count)) (down low count)) newest n ≡ Some below
      go true test fewer = here (step_at shift slots (low + count)) refl
        where
          same : low + count ≡ below
          same = eqb-true (low + count) below test

          here : (o : Option Step) → step_at shift slots (low + count) ≡ o → next_below (and_step o (down low count)) newest n ≡ Some below
          here None e = absurd (some_none (step_at shift slots below) there (ap (step_at shift slots) (sym same) ∙ e))
          here (Some step) e =
              let top : step.number ≡ below = number_at shift slots (low + count) step e ∙ same in
              ap (λ (b : Bool). cond b (cond (nat_lt newest (step.number + 4096)) (Some step.number) None) (next_below (down low count) newest n))
              (lt-ltb step.number n (omega (arith, top, lower)))
              ∙ ap (λ (b : Bool). cond b (Some step.number) None) (lt-ltb newest (step.number + 4096) (omega (arith, top, close)))
              ∙ ap Some top
      go false test fewer = later (step_at shift slots (low + count)) refl (fewer (omega (arith, lt, apart)))
        where
          apart : low + count ≢ below
          apart same = true≢false (sym (eq-eqb (low + count) below same) ∙ test)

          later : (o : Option Step) → step_at shift slots (low + count) ≡ o → next_below (down low count) newest n ≡ Some below
              → next_below (and_step o (down low count)) newest n ≡ Some below
          later None e rest = rest
          later (Some step) e rest = by_order (nat_lt step.number n) refl
            where
              by_order : (b : Bool) → nat_lt step.number n ≡ b
                  → cond b (cond (nat_lt newest (step.number + 4096)) (Some step.number) None) (next_below (down low count) newest n) ≡ Some below
              by_order true lower_too =
                  let less = ltb-true step.number n lower_too in
                  let top = number_at shift slots (low + count) step e in
                  absurd (cc (sym e ∙ none (low + count) (omega (arith, lt, apart)) (omega (arith, less, top))))
              by_order false higher = rest
