-- The packets of a pool after one was taken out.
use Rattle.std.proofs.Common.{◌≡◌, ◌≢◌, inl, inr, set, ◌%◌, ◌+◌, ◌<◌, ℕ, zero, suc, arith, true, false, List, [], ◌∷◌, ◌++◌, refl, sym, ◌∙◌, ap, length}
use Rattle.std.specs.Prelude.{Option, None, Some, slice_get}
use Rattle.std.proofs.lemmas.Bool.{cases_eq, cond-false, eqb-true, ne_eqb}
use Rattle.std.proofs.lemmas.List.{length-set, length_push}
use Rattle.reorder_window.specs.declared.slot.Place.{Place}
use Rattle.reorder_window.specs.Numbers.{is_number}
use Rattle.reorder_window.specs.Slots.{kept_at, place_at, pool_at, modulo, entry_of, taken, IsPooled}
use Rattle.reorder_window.proofs.Slots.{get-set_same, get-set_other, get-push_cases, taken-less}

other_number : (o : Option ℕ) (number n : ℕ) → is_number o number ≡ true → n ≢ number → is_number o n ≡ false
other_number None number n is apart = cc
other_number (Some m) number n is apart = ne_eqb m n (λ e. apart (sym e ∙ eqb-true m number is))

-- the number's packet is in place i, and `place` is the value of that place afterwards
module _ (index : List (Option ℕ)) (places : List Place) (free : List ℕ) (i number : ℕ) (place : Place)
    (p : IsPooled index places free) (e : slice_get index (number % 1024) ≡ Some (Some i)) (left : place.number ≡ None) where
  named : entry_of (slice_get places i) ≡ Some (number % 1024)
  named = p.there (number % 1024) i e

  inside : i < length places
  inside = go places i (number % 1024) named
    where
      go : (places : List Place) (i entry : ℕ) → entry_of (slice_get places i) ≡ Some entry → i < length places
      go [] i entry e = cc
      go (place ∷ rest) zero entry e = omega arith
      go (place ∷ rest) (suc i) entry e = let p = go rest i entry e in omega arith

  closed : slice_get (set index (number % 1024) None) (number % 1024) ≡ Some None
  closed = get-set_same index (number % 1024) None (let f = p.full in omega arith)

  emptied : entry_of (slice_get (set places i place) i) ≡ None
  emptied = ap entry_of (get-set_same places i place inside) ∙ ap modulo left

  -- another entry points to another place
  elsewhere : (entry j : ℕ) → entry ≢ number % 1024 → entry_of (slice_get places j) ≡ Some entry → j ≢ i
  elsewhere entry j apart f same =
      let here : entry_of (slice_get places j) ≡ Some (number % 1024) = rw same named in
      apart cc

  take-there : (entry j : ℕ) → slice_get (set index (number % 1024) None) entry ≡ Some (Some j) → entry_of (slice_get (set places i place) j) ≡ Some entry
  take-there entry j h = elim (cases_eq entry (number % 1024)) [
    | inl same ↦ let none : slice_get (set index (number % 1024) None) entry ≡ Some None = rw same closed in absurd cc
    | inr other ↦
        let f = p.there entry j (sym (get-set_other index (number % 1024) entry None other) ∙ h) in
        ap entry_of (get-set_other places i j place (elsewhere entry j other f)) ∙ f
  ]

  take-back : (entry j : ℕ) → entry_of (slice_get (set places i place) j) ≡ Some entry → slice_get (set index (number % 1024) None) entry ≡ Some (Some j)
  take-back entry j h = elim (cases_eq j i) [
    | inl same ↦ let none : entry_of (slice_get (set places i place) j) ≡ None = rw same emptied in absurd cc
    | inr other ↦
        let before = p.back entry j (sym (ap entry_of (get-set_other places i j place other)) ∙ h) in
        get-set_other index (number % 1024) entry None (λ same. let here : slice_get index entry ≡ Some (Some i) = rw same e in other cc) ∙ before
  ]

  was-taken : (k : ℕ) → slice_get free k ≢ Some i
  was-taken k h = let none = p.empty k i h in let f = named in absurd cc

  take-apart : (j k m : ℕ) → slice_get (free ++ i ∷ []) j ≡ Some m → slice_get (free ++ i ∷ []) k ≡ Some m → j ≡ k
  take-apart j k m h h' = elim (get-push_cases free i j m h) [
    | inl there ↦ elim (get-push_cases free i k m h') [
      | inl there' ↦ p.apart j k m there there'
      | inr last ↦ absurd (was-taken j (there ∙ ap Some (sym last.1)))
    ]
    | inr last ↦ elim (get-push_cases free i k m h') [
      | inl there' ↦ absurd (was-taken k (there' ∙ ap Some (sym last.1)))
      | inr last' ↦ last.0 ∙ sym last'.0
    ]
  ]

  take-empty : (k j : ℕ) → slice_get (free ++ i ∷ []) k ≡ Some j → entry_of (slice_get (set places i place) j) ≡ None
  take-empty k j h = elim (cases_eq j i) [
    | inl same ↦ rw same emptied
    | inr other ↦ ap entry_of (get-set_other places i j place other) ∙ elim (get-push_cases free i k j h) [
      | inl there ↦ p.empty k j there
      | inr last ↦ absurd (other (sym last.1))
    ]
  ]

  take-made : (k j : ℕ) → slice_get (free ++ i ∷ []) k ≡ Some j → j < length (set places i place)
  take-made k j h = let long = length-set places i place in elim (get-push_cases free i k j h) [
    | inl there ↦ let under = p.made k j there in omega arith
    | inr last ↦ let here = last.1 in let under = inside in omega arith
  ]

  pub few-free : length free < 1024
  few-free = let c = p.count in let less = taken-less index (number % 1024) i e in let f = p.few in omega arith

  pub pooled-take : IsPooled (set index (number % 1024) None) (set places i place) (free ++ i ∷ [])
  pooled-take =
      let wide = length-set index (number % 1024) None in
      let long = length-set places i place in
      let more = length_push free i in
      record {
        full = wide ∙ p.full;
        there = take-there;
        back = take-back;
        empty = take-empty;
        made = take-made;
        apart = take-apart;
        count = let c = p.count in let less = taken-less index (number % 1024) i e in omega arith;
        few = let f = p.few in omega arith;
      }

  pub at-gone : pool_at (set index (number % 1024) None) (set places i place) number ≡ None
  at-gone = ap (λ (o : Option (Option ℕ)). kept_at (place_at o (set places i place)) number) closed

  pub at-others : (old : Place) → slice_get places i ≡ Some old → is_number old.number number ≡ true → (n : ℕ) → n ≢ number
      → pool_at (set index (number % 1024) None) (set places i place) n ≡ pool_at index places n
  at-others old f is n apart = elim (cases_eq (n % 1024) (number % 1024)) [
    | inl same ↦
        ap (λ (entry : ℕ). kept_at (place_at (slice_get (set index (number % 1024) None) entry) (set places i place)) n) same
        ∙ ap (λ (o : Option (Option ℕ)). kept_at (place_at o (set places i place)) n) closed
        ∙ sym (ap (λ (entry : ℕ). kept_at (place_at (slice_get index entry) places) n) same
        ∙ ap (λ (o : Option (Option ℕ)). kept_at (place_at o places) n) e
        ∙ ap (λ (s : Option Place). kept_at s n) f
        ∙ cond-false _ _ _ (other_number old.number number n is apart))
    | inr other ↦
        ap (λ (o : Option (Option ℕ)). kept_at (place_at o (set places i place)) n) (get-set_other index (number % 1024) (n % 1024) None other)
        ∙ go other (slice_get index (n % 1024)) refl
  ]
    where
      go : n % 1024 ≢ number % 1024 → (o : Option (Option ℕ)) → slice_get index (n % 1024) ≡ o → kept_at (place_at o (set places i place)) n ≡ kept_at (place_at o places) n
      go other None f = refl
      go other (Some None) f = refl
      go other (Some (Some j)) f =
          ap (λ (s : Option Place). kept_at s n) (get-set_other places i j place (elsewhere (n % 1024) j other (p.there (n % 1024) j f)))
