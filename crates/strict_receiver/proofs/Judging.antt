-- The stored numbers judge each frame as all received numbers do.
use Rattle.std.proofs.Common.{◌≡◌, inl, inr, ℕ, ◌+◌, ◌-◌, ◌%◌, ◌<◌, ◌≤◌, Bool, true, false, cond, not, ◌&&◌, ◌||◌, List, [], ◌∷◌, Option, Some, None, refl, sym, ap, ap₂, subst, ◌∙◌, arith}
use Rattle.std.specs.Prelude.{is_some, nat_lt, pos}
use Rattle.std.specs.List.{AllByRecursion}
use Rattle.std.proofs.lemmas.Bool.{and_parts, cases_eq, cases_lt, eq-eqb, false≢true, ltb-true, ne_eqb}
use Rattle.sfu_base.specs.Frame.{IsDistance}
use Rattle.wrap_number.specs.Number.{ahead_of, is_above, number_above}
use Rattle.dd_descriptor.proofs.Items.{all_weaker}
use Rattle.forwarding_model.specs.Lists.{first_failing}
use Rattle.forwarding_model.specs.Receiver.{FrameHeader, Received, is_received, judge, judged, placed}
use Rattle.ref_window.specs.Numbers.{IsAboveAll, held_of}
use Rattle.strict_receiver.specs.Numbers.{AreKeptOf, ArePlacedAs, Judges}
use Rattle.strict_receiver.proofs.Distances.{all_filtered, from_further_up, held_in_reach, none_so_near}

-- ---- a frame gets its number

anew : (n : ℕ) → ArePlacedAs (record { newest = n; numbers = [] }) (record { newest = n; numbers = [] })
anew n = record { newest = refl; below = tt; before = tt; distances = λ d one near. refl }

placed_on : (kept received : Received) (ahead : ℕ) → AreKeptOf kept received → 0 < ahead
    → ArePlacedAs (record { newest = kept.newest + ahead; numbers = kept.numbers }) (record { newest = received.newest + ahead; numbers = received.numbers })
placed_on kept received ahead stands some = record {
  newest = (let e = stands.newest in omega arith);
  below = all_weaker (λ m. m ≤ kept.newest) (λ m. m < kept.newest + ahead) (λ m le. omega arith) kept.numbers stands.below;
  before = all_weaker (λ m. m ≤ received.newest) (λ m. m < received.newest + ahead) (λ m le. omega arith) received.numbers stands.before;
  distances = λ d one near. elim (cases_lt d ahead) [
    | inl close ↦
        none_so_near kept.numbers kept.newest (kept.newest + ahead) d stands.below (omega arith)
        ∙ sym (none_so_near received.numbers received.newest (received.newest + ahead) d stands.before (omega arith))
    | inr far ↦
        from_further_up kept.numbers kept.newest ahead d far
        ∙ stands.distances (d - ahead) (omega arith)
        ∙ sym (from_further_up received.numbers received.newest ahead d far)
  ];
}

pub placed_alike : (kept received : Received) (header : FrameHeader) → AreKeptOf kept received → ArePlacedAs (placed kept header) (placed received header)
placed_alike kept received header stands = by_key header.key
  where
    ahead : ℕ
    ahead = ahead_of (pos received.newest) header.number

    same_ahead : ahead_of (pos kept.newest) header.number ≡ ahead_of (pos received.newest) header.number
    same_ahead = ap (λ (r : ℕ). (header.number + 65536 - r) % 65536) stands.newest

    by_test : (b : Bool) → (nat_lt 0 (ahead_of (pos received.newest) header.number) && nat_lt (ahead_of (pos received.newest) header.number) 32768) ≡ b
        → ArePlacedAs
        (cond b (record { newest = kept.newest + ahead_of (pos received.newest) header.number; numbers = kept.numbers }) (record { newest = header.number; numbers = [] }))
        (cond b (record { newest = number_above received.newest header.number; numbers = received.numbers }) (record { newest = header.number; numbers = [] }))
    by_test true e =
        let parts = and_parts (nat_lt 0 (ahead_of (pos received.newest) header.number)) (nat_lt (ahead_of (pos received.newest) header.number) 32768) e in
        placed_on kept received (ahead_of (pos received.newest) header.number) stands (ltb-true 0 (ahead_of (pos received.newest) header.number) parts.0)
    by_test false e = anew header.number

    above : ArePlacedAs
        (cond (is_above kept.newest header.number) (record { newest = number_above kept.newest header.number; numbers = kept.numbers }) (record { newest = header.number; numbers = [] }))
        (cond (is_above received.newest header.number) (record { newest = number_above received.newest header.number; numbers = received.numbers }) (record { newest = header.number; numbers = [] }))
    above =
        subst (λ (a : ℕ). ArePlacedAs
        (cond (nat_lt 0 a && nat_lt a 32768) (record { newest = kept.newest + a; numbers = kept.numbers }) (record { newest = header.number; numbers = [] }))
        (cond (is_above received.newest header.number) (record { newest = number_above received.newest header.number; numbers = received.numbers }) (record { newest = header.number; numbers = [] })))
        (sym same_ahead) (by_test (is_above received.newest header.number) refl)

    by_key : (key : Bool) → ArePlacedAs (placed kept (record header { key = key })) (placed received (record header { key = key }))
    by_key true = anew header.number
    by_key false = above

-- ---- it counts as received

abbrev pub and_newest : Received → Received
and_newest placed = record { newest = placed.newest; numbers = placed.newest ∷ placed.numbers }

abbrev pub and_newest_held : Received → Received
and_newest_held kept = record { newest = kept.newest; numbers = held_of (kept.newest ∷ kept.numbers) }

accepted_alike : (kept placed : Received) → ArePlacedAs kept placed → AreKeptOf (and_newest_held kept) (and_newest placed)
accepted_alike kept placed stands = record {
  newest = stands.newest;
  below = (omega arith, all_filtered (λ m. m ≤ kept.newest) _ kept.numbers (weaker kept.newest kept.numbers stands.below));
  before = (omega arith, weaker placed.newest placed.numbers stands.before);
  distances = λ d near. held_in_reach kept.newest kept.newest d kept.numbers (omega arith) (omega arith) ∙ at d near;
}
  where
    weaker : (n : ℕ) (numbers : List ℕ) → AllByRecursion (λ m. m < n) numbers → AllByRecursion (λ m. m ≤ n) numbers
    weaker n numbers all = all_weaker (λ m. m < n) (λ m. m ≤ n) (λ m lt. omega arith) numbers all

    at : (d : ℕ) → d < 4096 → is_received (kept.newest ∷ kept.numbers) kept.newest d ≡ is_received (placed.newest ∷ placed.numbers) placed.newest d
    at d near = elim (cases_eq d 0) [
      | inl e ↦
          ap (λ (b : Bool). b || is_received kept.numbers kept.newest d) (eq-eqb (kept.newest + d) kept.newest (omega arith))
          ∙ sym (ap (λ (b : Bool). b || is_received placed.numbers placed.newest d) (eq-eqb (placed.newest + d) placed.newest (omega arith)))
      | inr ne ↦
          ap₂ (λ (a b : Bool). a || b)
          (ne_eqb (kept.newest + d) kept.newest (λ e. ne (omega arith)) ∙ sym (ne_eqb (placed.newest + d) placed.newest (λ e. ne (omega arith))))
          (stands.distances d (one ne) (omega arith))
    ]
      where
        one : (d ≡ 0 → ⊥) → 1 ≤ d
        one ne = omega arith

-- ---- its references

same_failing : (f g : ℕ → Bool) (distances : List ℕ) → AllByRecursion IsDistance distances → ((d : ℕ) → 1 ≤ d → d ≤ 4096 → f d ≡ g d)
    → first_failing f distances ≡ first_failing g distances
same_failing f g [] all same = refl
same_failing f g (d ∷ ds) all same = rw (same d all.0.back all.0.near, same_failing f g ds all.1 same) refl

pub judged_alike : (now kept received : Received) (header : FrameHeader) (result : Option ℕ) → ArePlacedAs kept (placed received header)
    → AllByRecursion IsDistance header.references → result ≡ first_failing (is_received kept.numbers kept.newest) header.references
    → (result ≡ None → now ≡ and_newest_held kept) → Judges now result (judge received header)
judged_alike now kept received header result stands all e accepted =
    go result (e ∙ same_failing _ _ header.references all stands.distances) accepted
  where
    go : (o : Option ℕ) → o ≡ first_failing (is_received (placed received header).numbers (placed received header).newest) header.references
        → (o ≡ None → now ≡ and_newest_held kept) → Judges now o (judge received header)
    go None f k =
        subst (λ (x : Option ℕ). Judges now None (judged (placed received header) x)) f
        (subst (λ (r : Received). AreKeptOf r (and_newest (placed received header))) (sym (k refl)) (accepted_alike kept (placed received header) stands))
    go (Some d) f k = subst (λ (x : Option ℕ). Judges now (Some d) (judged (placed received header) x)) f refl

-- ---- both ends of the code

module _ (before placed_kept received : Received) (header : FrameHeader) (result : Option ℕ) (stands : AreKeptOf before received) (all : AllByRecursion IsDistance header.references)
    (number : placed_kept ≡ placed before header) (failing : result ≡ first_failing (is_received placed_kept.numbers placed_kept.newest) header.references) where
  alike : ArePlacedAs placed_kept (placed received header)
  alike = subst (λ (r : Received). ArePlacedAs r (placed received header)) (sym number) (placed_alike before received header stands)

  -- a frame whose references were all received
  pub judged_complete : (window : List ℕ) → (IsAboveAll placed_kept.newest placed_kept.numbers → window ≡ held_of (placed_kept.newest ∷ placed_kept.numbers))
      → Judges (record { newest = placed_kept.newest; numbers = window }) result (judge received header)
  judged_complete window inserted =
      judged_alike (record { newest = placed_kept.newest; numbers = window }) placed_kept received header result alike all failing
      (λ none. ap (λ (w : List ℕ). record { newest = placed_kept.newest; numbers = w }) (inserted alike.below))

  -- a frame that lacks a reference
  pub judged_lacking : (r : Bool) → is_some result ≡ not r → r ≡ false → Judges placed_kept result (judge received header)
  judged_lacking r some isnt =
      judged_alike placed_kept placed_kept received header result alike all failing
      (λ none. absurd (false≢true (sym (ap is_some none) ∙ some ∙ ap not isnt)))
