-- The moment at which a tick gives up a gap, computed from the slots, and what a tick at this moment does.
use Rattle.std.proofs.Common.{◌≡◌, inl, inr, ◌+◌, ◌-◌, ◌^◌, ◌<◌, ◌≤◌, ◌==◌, ◌↔◌, ℕ, max, arith, false, List, [], ◌∷◌, refl, ◌∙◌, ap, nat_lt}
use Rattle.std.specs.Prelude.{Option, None, Some}
use Rattle.std.specs.Option.{option_map}
use Rattle.std.proofs.lemmas.Bool.{cond_both, cond-true, cond-false, cases_lt, ne_eqb, le-leb, lt-leb, or_from, or_right, ltb-false}
use Rattle.reorder_window.specs.Events.{Held}
use Rattle.reorder_window.specs.Order.{past_due, order_of}
use Rattle.reorder_window.specs.Slots.{Kept, and_kept, held_in}
use Rattle.reorder_window.specs.Due.{lowest_moment, due_after, IsReached, GivesTheTick}
use Rattle.reorder_window.proofs.Pieces.{IsAscending, past_due-up}
use Rattle.reorder_window.proofs.Ranges.{held_in-first}
use Rattle.reorder_window.proofs.Stepwise.{settled_of}

-- ---- the slots

pub lowest_moment-none : (f : ℕ → Option Kept) (n limit : ℕ) → n < limit → option_map (λ kept. kept.moment) (f n) ≡ None
    → lowest_moment (held_in f n (limit - n)) ≡ lowest_moment (held_in f (n + 1) (limit - (n + 1)))
lowest_moment-none f n limit under e = ap lowest_moment (held_in-first f n limit under) ∙ at (f n) e
  where
    at : (o : Option Kept) → option_map (λ kept. kept.moment) o ≡ None
        → lowest_moment (and_kept n o (held_in f (n + 1) (limit - (n + 1)))) ≡ lowest_moment (held_in f (n + 1) (limit - (n + 1)))
    at None e = refl
    at (Some kept) e = cc

-- ---- a tick

reached : (hold lowest moment : ℕ) → moment < 2 ^ 64 → lowest + hold ≤ moment → IsReached (due_after hold (Some lowest)) moment
reached hold lowest moment fits over = cond_both (nat_lt (lowest + hold) (2 ^ 64)) (Some (lowest + hold)) None (λ (o : Option ℕ). IsReached o moment)
    (λ e. over) (λ e. absurd (let big = ltb-false (lowest + hold) (2 ^ 64) e in omega arith))

unreached : (hold lowest moment : ℕ) → IsReached (due_after hold (Some lowest)) moment → lowest + hold ≤ moment
unreached hold lowest moment = cond_both (nat_lt (lowest + hold) (2 ^ 64)) (Some (lowest + hold)) None (λ (o : Option ℕ). IsReached o moment → lowest + hold ≤ moment)
    (λ e p. p) (λ e p. absurd p)

-- if the packet with number `next` isn't buffered
tells : (hold moment next : ℕ) (held : List Held) → IsAscending (next + 1) held → moment < 2 ^ 64
    → (next < past_due hold moment next held) ↔ IsReached (due_after hold (lowest_moment held)) moment
tells hold moment next [] up fits = (λ p. absurd (omega arith), λ p. absurd p)
tells hold moment next (h ∷ rest) up fits = elim (cases_lt moment (h.moment + hold)) [
  | inl early ↦
      let apart : (h.number == next) ≡ false = ne_eqb h.number next (λ e. omega (arith, up.0)) in
      let still : past_due hold moment next (h ∷ rest) ≡ next = cond-false _ _ _ (or_from (h.number == next) _ apart (lt-leb (h.moment + hold) moment early)) in
      (λ p. absurd (omega arith), λ p. absurd (let over = unreached hold h.moment moment p in omega arith))
  | inr due ↦
      let along : past_due hold moment next (h ∷ rest) ≡ past_due hold moment (h.number + 1) rest = cond-true _ _ _ (or_right (h.number == next) _ (le-leb (h.moment + hold) moment due)) in
      (λ p. reached hold h.moment moment fits due, λ p. omega (arith, along, past_due-up hold moment (h.number + 1) rest up.1, up.0))
]

pub gives_the_tick : GivesTheTick
gives_the_tick hold past moment fits =
    tells hold (max (order_of hold past).moment moment) (order_of hold past).next (order_of hold past).held (settled_of hold past).ascending fits
