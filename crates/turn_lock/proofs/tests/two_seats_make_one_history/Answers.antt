use Rattle.std.proofs.Common.{◌≡◌, ◌+◌, ◌<◌, ℕ, List, [], ◌∷◌, ◌++◌, ap, sym, subst, ◌∙◌, arith}
use lib.ListN.{get_elem?}
use Rattle.turn_lock.specs.declared.history.Joined.{Joined}
use Rattle.turn_lock.specs.Known.{Known, AllJoinedIn}
use Rattle.turn_lock.proofs.tests.two_seats_make_one_history.Goals as goal

pub close-requires-clause-came : goal.close-requires-clause-came
close-requires-clause-came g c =
    let opened = c.in_ok-turns.ensures.opened in
    let split = c.split-other.ensures.old in
    let one = c.in_ok-one.ensures.ok.0 in
    let two = c.in_ok-two.ensures.ok.0 in
    let k = c.turn-2.new.seat in
    let l = c.turn.new.seat in
    let made : k.count ≡ 2 = two.3 ∙ (ap (λ (s : Known ℕ). s.count) split ∙ ap (λ (s : Known ℕ). s.count + 1) opened) in
    let empty : k.joined ≡ [] = two.4 ∙ (ap (λ (s : Known ℕ). s.joined) split ∙ ap (λ (s : Known ℕ). s.joined) opened) in
    let number : l.number ≡ 1 = one.2 ∙ (ap (λ (s : Known ℕ). s.number) c.split-other.ensures.new ∙ ap (λ (s : Known ℕ). s.count) opened) in
    let x : Joined ℕ = record { number = l.number; own = l.own } in
    subst (λ (s : Known ℕ). AllJoinedIn s) (sym c.join.ensures.joined)
    (λ n low high. let below : n < k.count = high in
    (0, x, ap (λ (xs : List (Joined ℕ)). get_elem? (xs ++ x ∷ []) 0) empty, omega arith))
