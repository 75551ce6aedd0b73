-- However long a track continues, its numbers stay below 2^46, so the next number is at most 2^46.
use Rattle.std.proofs.Common.{◌≡◌, ℕ, ◌+◌, ◌-◌, ◌≤◌, ◌<◌, ◌^◌, max, ◌==◌, Bool, true, false, cond, nat_lt, nat_le, List, [], ◌∷◌, refl, arith}
use Rattle.std.specs.Prelude.{ℤ, pos, negsuc, Option, None, Some, Result, Ok, Err}
use Rattle.std.specs.List.{AllByRecursion}
use Rattle.std.proofs.lemmas.Bool.{cond_both, eqb-true, leb-false}
use Rattle.reorder_window.specs.declared.arrival.Arrival.{Arrival}
use Rattle.reorder_window.specs.declared.arrival.Arrival.TheVariants.{Spent, Late, Repeat}
use Rattle.reorder_window.specs.Events.{Event, Arrives, Ticks, Held}
use Rattle.reorder_window.specs.Items.{from_on}
use Rattle.reorder_window.specs.Order.{Order, after, arrived, first_next, holding, is_held, judged, judged_sequence, next_holding, next_ticked, number_of, order_of, packet_of as held_of, past_due, past_run, ticked}
use Rattle.track_core.proofs.TakenPieces.{all_filter, insert_all}

abbrev HasNumber : Held → Type 0
HasNumber h = h.number < 2 ^ 46

abbrev AreBounded : List Held → Type 0
AreBounded held = AllByRecursion HasNumber held

run_bounded : (next : ℕ) (held : List Held) → next ≤ 2 ^ 46 → AreBounded held → past_run next held ≤ 2 ^ 46
run_bounded next [] low all = low
run_bounded next (h ∷ rest) low all =
    cond_both (h.number == next) (past_run (next + 1) rest) next (λ n. n ≤ 2 ^ 46) (λ (e : (h.number == next) ≡ true). run_bounded (next + 1) rest (omega (arith, eqb-true h.number next e, all.0)) all.1) (λ e. low)

due_bounded : (hold moment next : ℕ) (held : List Held) → next ≤ 2 ^ 46 → AreBounded held → past_due hold moment next held ≤ 2 ^ 46
due_bounded hold moment next [] low all = low
due_bounded hold moment next (h ∷ rest) low all =
    cond_both _ (past_due hold moment (h.number + 1) rest) next (λ n. n ≤ 2 ^ 46) (λ e. due_bounded hold moment (h.number + 1) rest (omega (arith, all.0)) all.1) (λ e. low)

accepted_number : (order : Order) (z : ℤ) (n : ℕ) → judged order z ≡ Ok n → n < 2 ^ 46
accepted_number order (negsuc k) n e = cc
accepted_number order (pos k) n e = go (nat_le (2 ^ 46) k) (nat_lt k order.next) (is_held k order.held) refl e
  where
    go : (a b c : Bool) → nat_le (2 ^ 46) k ≡ a → cond a (Err Spent) (cond b (Err (Late order.next)) (cond c (Err Repeat) (Ok k))) ≡ Ok n → n < 2 ^ 46
    go true b c p e = cc
    go false true c p e = cc
    go false false true p e = cc
    go false false false p e = let same : k ≡ n = cc in let high = leb-false (2 ^ 46) k p in omega arith

first_bounded : (newest : Option ℕ) (next n : ℕ) → next ≤ 2 ^ 46 → n < 2 ^ 46 → first_next newest next n ≤ 2 ^ 46
first_bounded None next n low small = omega arith
first_bounded (Some newest) next n low small = low

record IsBounded (order : Order) : Type 0 where
  next : order.next ≤ 2 ^ 46
  held : AreBounded order.held

one_more : (hold : ℕ) (order : Order) (event : Event) → IsBounded order → IsBounded (after hold order event)
one_more hold order (Ticks moment) b =
    let now = ticked order moment in
    record {
      next = due_bounded hold now.moment order.next order.held b.next b.held;
      held = all_filter HasNumber (λ (h : Held). nat_le (next_ticked hold now) h.number) order.held b.held;
    }
one_more hold order (Arrives sequence moment bytes) b = go (judged_sequence order sequence) refl
  where
    go : (r : Result ℕ Arrival) → judged_sequence order sequence ≡ r → IsBounded (arrived order r moment bytes)
    go (Err why) e = b
    go (Ok n) e =
        let small = accepted_number order (number_of order.newest sequence) n e in
        let now = holding order (held_of order n moment bytes) in
        let all : AreBounded now.held = insert_all HasNumber (held_of order n moment bytes) order.held small b.held in
        let first : now.next ≤ 2 ^ 46 = first_bounded order.newest order.next n b.next small in
        let room : max now.next (n - 1023) ≤ 2 ^ 46 = omega (arith, first, small) in
        record {
          next = run_bounded (max now.next (n - 1023)) (from_on (max now.next (n - 1023)) now.held) room
              (all_filter HasNumber (λ (h : Held). nat_le (max now.next (n - 1023)) h.number) now.held all);
          held = all_filter HasNumber (λ (h : Held). nat_le (next_holding now n) h.number) now.held all;
        }

bounded_after : (hold : ℕ) (events : List Event) → IsBounded (order_of hold events)
bounded_after hold [] = record { next = omega arith; held = tt }
bounded_after hold (event ∷ past) = one_more hold (order_of hold past) event (bounded_after hold past)

pub next_bounded : (hold : ℕ) (events : List Event) → (order_of hold events).next ≤ 2 ^ 46
next_bounded hold events = (bounded_after hold events).next
