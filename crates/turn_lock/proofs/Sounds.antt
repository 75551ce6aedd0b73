-- The parts of a seat's view agree with each other after each step.
use Rattle.std.proofs.Common.{◌≡◌, ℕ, ◌+◌, ◌<◌, ◌≤◌, ◌^◌, Bool, true, false, cond, ltb, List, [], ◌∷◌, ◌++◌, length, refl, ap, sym, subst, ◌∙◌, arith, ltb-true, ltb-false, length-append}
use mathlib.Core.List.{IsPrefix}
use Rattle.turn_lock.specs.declared.history.Entry.{Entry}
use Rattle.turn_lock.specs.declared.view.View.{View}
use Rattle.turn_lock.specs.declared.view.Stage.{Stage}
use Rattle.atomic_table.specs.Seated.{TableId}
use Rattle.turn_lock.specs.declared.view.Stage.TheVariants.{Waiting, Holding}
use Rattle.turn_lock.specs.Known.{Fits, MakesTurn}
use Rattle.turn_lock.specs.Views.{known, seeing, Sound, finding, serving, counting, next_seat, joining}
use Rattle.turn_lock.proofs.Lists.{prefix_self, prefix_shorter}
use Rattle.turn_lock.proofs.Histories.{own_append, own_here, own_else, own_same, below_append, below_more, own_above, joined_also, joined_none}

module _ {C : Type 0} where
  pub sound_finding : (v : View C) (f : ℕ) (st : Stage) → f ≤ 2 ^ 63 → Sound v → Sound (finding v f st)
  sound_finding v f st low s = record { own = s.own; found = low; below = s.below; joined = s.joined; counts = s.counts }

  pub sound_serving : (v : View C) (e : Entry C) → e.seat ≡ v.number → Sound v → Sound (serving v (e ∷ []))
  sound_serving v e by s = record {
    own = own_append v.number v.seen (e ∷ []) ∙ (λ i. s.own i ++ own_here v.number e by i);
    found = s.found;
    below = λ z. let many = s.counts z in below_append v.count v.seen (e ∷ []) (s.below z) (omega arith, tt);
    joined = λ z. joined_also v.seen (v.seen ++ e ∷ []) v.joined (λ i x f pos own. own_same x.number v.seen (e ∷ []) x.own own (own_else x.number e (λ m. omega arith))) (s.joined z);
    counts = s.counts;
  }

  pub sound_counting : (v : View C) → Sound v → Sound (counting v)
  sound_counting v s = record { own = s.own; found = s.found; below = λ z. below_more v.count (v.count + 1) v.seen (omega arith) (s.below z); joined = s.joined; counts = λ z. omega arith }

  pub sound_next : (v : View C) → v.number ≡ 0 → Sound v → Sound (next_seat v)
  sound_next v z s = let many = s.counts z in record {
    own = own_above v.count v.seen (s.below z);
    found = omega arith;
    below = λ e. absurd (omega arith);
    joined = λ _. joined_none v.seen;
    counts = λ e. absurd (omega arith);
  }

  both : (b : Bool) (xs ys h : List (Entry C)) → ltb (length xs) (length ys) ≡ b → IsPrefix (cond b ys xs) h → IsPrefix (cond b xs ys) h → IsPrefix xs (cond b ys xs) × IsPrefix ys (cond b ys xs)
  both true xs ys h e p q = let le : length xs < length ys = ltb-true _ _ e in (prefix_shorter xs ys h q p (omega arith), prefix_self ys)
  both false xs ys h e p q = let le : length ys ≤ length xs = ltb-false _ _ e in (prefix_self xs, prefix_shorter ys xs h q p le)

  -- the prefix that each of two seats had seen is a prefix of the list that the first has seen after the join
  pub both_begin : (v w u : View C) → u ≡ joining v w → ((h : List (Entry C)) × IsPrefix u.seen h × IsPrefix u.beside h) → IsPrefix v.seen u.seen × IsPrefix w.seen u.seen
  both_begin v w u e t = let s = subst (λ (z : View C). (h : List (Entry C)) × IsPrefix z.seen h × IsPrefix z.beside h) e t in
      subst (λ (z : View C). IsPrefix v.seen z.seen × IsPrefix w.seen z.seen) (sym e) (both (ltb (length v.seen) (length w.seen)) v.seen w.seen s.0 refl s.1 s.2)

  -- what the invariant of a seat shows about its value in contracts
  pub fits : (z : TableId) (v : View C) → Sound v → Fits (known z v)
  fits z v s = record { own = s.own; found = s.found; below = s.below; joined = s.joined }

  -- the four steps of a turn, in the terms of its contract
  pub turned : (z z' : TableId) (v0 v1 v2 v3 : View C) (e : Entry C) (t place : ℕ) (P : List (Entry C) → Type 0) → z' ≡ z → v1 ≡ finding v0 v1.found (Waiting t) → v0.found ≤ v1.found → t ≤ v1.found
      → ((h : List (Entry C)) × IsPrefix v1.seen h × (v2 ≡ seeing v1 h (Holding t))) → place ≡ v2.base + length v2.seen → v2.base + length v2.seen ≡ t → v3 ≡ serving v2 (e ∷ []) → P v2.seen → MakesTurn (known z v0) (known z' v3) e place P
  turned z z' v0 v1 v2 v3 e t place P lock drew more tick look at there served given =
      let a : v2 ≡ seeing (finding v0 v1.found (Waiting t)) look.0 (Holding t) = look.2 ∙ ap (λ (v : View C). seeing v look.0 (Holding t)) drew in
      let b : v3 ≡ serving (seeing (finding v0 v1.found (Waiting t)) look.0 (Holding t)) (e ∷ []) = served ∙ ap (λ (v : View C). serving v (e ∷ [])) a in
      let pre : IsPrefix v0.seen look.0 = subst (λ (v : View C). IsPrefix v.seen look.0) drew look.1 in
      let long = length-append look.0 (e ∷ []) in
      let base : v2.base ≡ v0.base = ap (λ (v : View C). v.base) a in
      let seen : v2.seen ≡ look.0 = ap (λ (v : View C). v.seen) a in
      subst (λ (v : View C). MakesTurn (known z v0) (known z' v) e place P) (sym b) (
        (lock, refl, refl, refl, refl, more),
        (look.0, pre, refl, subst P seen given),
        refl,
        omega (arith, base, ap length seen),
        omega arith,
      )
