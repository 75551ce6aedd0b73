-- The greatest number of calls that a deed makes, if the datagrams that come fit buffers.
use Rattle.std.proofs.Common.{ℕ, ◌≤◌, ◌+◌, ◌-◌, List, [], ◌∷◌, length, subst, arith, Option}
use Rattle.session_steps.specs.Deeds.{Deed, Step, Listen, Ask, Post, Over, Heard, Said, Posted, Leads, received_of, said_of}
use Rattle.sfu_serve.specs.Doing.{AllFitBuffers, FitsBuffer}

module _ {C A D : Type 0} where
  -- for all receives and answers, at most this number of calls is made
  abbrev pub AsksAtMost : Deed C A D → ℕ → Type 0
  AsksAtMost (Listen f) n = (got : Option (List ℕ)) (moment : ℕ) → FitsBuffer got → AsksAtMost (f got moment) n
  AsksAtMost (Ask call f) n = (1 ≤ n) × ((answer : A) → AsksAtMost (f answer) (n - 1))
  AsksAtMost (Post what next) n = AsksAtMost next n
  AsksAtMost Over n = Unit {0}

  pub asks_more : (d : Deed C A D) (m n : ℕ) → m ≤ n → AsksAtMost d m → AsksAtMost d n
  asks_more (Listen f) m n le p = λ got moment fits. asks_more (f got moment) m n le (p got moment fits)
  asks_more (Ask call f) m n le p =
      let some = p.0 in
      let less : m - 1 ≤ n - 1 = omega (arith, le) in
      (omega (arith, le, some), λ answer. asks_more (f answer) (m - 1) (n - 1) less (p.1 answer))
  asks_more (Post what next) m n le p = asks_more next m n le p
  asks_more Over m n le p = tt

  -- one call before others
  pub asks_one : (call : C) (f : A → Deed C A D) (n : ℕ) → ((answer : A) → AsksAtMost (f answer) n) → AsksAtMost (Ask call f) (1 + n)
  asks_one call f n p =
      let same : n ≤ 1 + n - 1 = omega arith in
      (omega arith, λ answer. asks_more (f answer) n (1 + n - 1) same (p answer))

  -- steps of such a deed have at most this number of calls
  pub few_said : (IsOne : D → List ℕ → Type 0) (d : Deed C A D) (ss : List (Step C A)) (rest : Deed C A D) (n : ℕ) → Leads IsOne d ss rest → AllFitBuffers (received_of ss) → AsksAtMost d n → length (said_of ss) ≤ n
  few_said IsOne d [] rest n p short m = omega arith
  few_said IsOne (Listen f) (Heard got moment ∷ ss) rest n p short m =
      few_said IsOne p.0 ss rest n p.2 short.1 (subst (λ (e : Deed C A D). AsksAtMost e n) p.1 (m got moment short.0))
  few_said IsOne (Ask call f) (Said said answer ∷ ss) rest n p short m =
      let some = m.0 in
      let less = few_said IsOne p.0 ss rest (n - 1) p.2 short (subst (λ (e : Deed C A D). AsksAtMost e (n - 1)) p.1.1 (m.1 answer)) in
      omega (arith, some, less)
  few_said IsOne (Post what next) (Posted sent ∷ ss) rest n p short m =
      few_said IsOne p.0 ss rest n p.2 short (subst (λ (e : Deed C A D). AsksAtMost e n) p.1.1 m)
  few_said IsOne d (s ∷ ss) rest n p short m = absurd p.1
