-- The packets of a pool after one was put in or taken out.
use Rattle.std.proofs.Common.{◌≡◌, ◌≢◌, inl, inr, ◌==◌, set, ◌%◌, ◌+◌, ◌<◌, ◌≤◌, ℕ, zero, suc, arith, true, false, List, [], ◌∷◌, ◌++◌, refl, sym, ◌∙◌, ap, subst, get_or, length}
use Rattle.std.specs.Prelude.{Option, None, Some, slice_get}
use Rattle.std.proofs.lemmas.Option.{slice_get_read}
use Rattle.std.specs.Option.{option_map}
use Rattle.std.proofs.lemmas.Bool.{cases_eq, cond-true, cond-false, eq-eqb, ne_eqb}
use Rattle.std.proofs.lemmas.List.{length-set, length_push}
use Rattle.reorder_window.specs.declared.slot.Place.{Place}
use Rattle.reorder_window.specs.Numbers.{is_number}
use Rattle.reorder_window.specs.Slots.{IsChosen, Reused, Made, Kept, kept_at, place_at, pool_at, modulo, entry_of, taken, with_kept, IsPooled}
use Rattle.reorder_window.specs.Steps.{Gives}
use Rattle.reorder_window.proofs.Slots.{get-set_same, get-set_other, get-within, get-push_before, get-push_last, taken-open, taken-more}

-- a place that keeps a number
pub record IsIn (place : Place) (number : ℕ) (kept : Kept) : Type 0 where
  pub number_is : place.number ≡ Some number
  pub moment_is : place.moment ≡ kept.moment
  pub bytes_are : place.packet ≡ kept.bytes

pub is_in : (place : Place) (number moment : ℕ) (bytes : List ℕ) → place.number ≡ Some number → place.moment ≡ moment → place.packet ≡ bytes
    → IsIn place number (record { moment = moment; bytes = bytes })
is_in place number moment bytes a b d = record { number_is = a; moment_is = b; bytes_are = d }

in_there : (place : Place) (number : ℕ) (kept : Kept) → IsIn place number kept → kept_at (Some place) number ≡ Some kept
in_there place number kept is = rw (is.number_is, is.moment_is, is.bytes_are) (cond-true (number == number) _ _ (eq-eqb number number refl))

in_elsewhere : (place : Place) (number n : ℕ) (kept : Kept) → IsIn place number kept → number ≢ n → kept_at (Some place) n ≡ None
in_elsewhere place number n kept is apart = rw (is.number_is) (cond-false (number == n) _ _ (ne_eqb number n apart))

entry_in : (place : Place) (number : ℕ) (kept : Kept) → IsIn place number kept → entry_of (Some place) ≡ Some (number % 1024)
entry_in place number kept is = ap modulo is.number_is

-- two entries that differ, or a free place, aren't one place
differ : (places : List Place) (i j : ℕ) (entry : ℕ) → entry_of (slice_get places i) ≡ None → entry_of (slice_get places j) ≡ Some entry → j ≢ i
differ places i j entry e f same = apart (ap (λ (k : ℕ). entry_of (slice_get places k)) (sym same) ∙ f) e
  where
    apart : {o : Option ℕ} → o ≡ Some entry → o ≡ None → ⊥
    apart p q = cc

-- ---- a place is chosen

-- place i has no packet and isn't among the free ones
pub record IsReady (index : List (Option ℕ)) (places : List Place) (free : List ℕ) (i : ℕ) : Type 0 where
  pub full : length index ≡ 1024
  pub there : (entry j : ℕ) → slice_get index entry ≡ Some (Some j) → entry_of (slice_get places j) ≡ Some entry
  pub back : (entry j : ℕ) → entry_of (slice_get places j) ≡ Some entry → slice_get index entry ≡ Some (Some j)
  pub empty : (k j : ℕ) → slice_get free k ≡ Some j → entry_of (slice_get places j) ≡ None
  pub made : (k j : ℕ) → slice_get free k ≡ Some j → j < length places
  pub apart : (j k m : ℕ) → slice_get free j ≡ Some m → slice_get free k ≡ Some m → j ≡ k
  pub unused : entry_of (slice_get places i) ≡ None
  pub within : i < length places
  pub other : (k : ℕ) → slice_get free k ≢ Some i
  pub count : length free + taken index + 1 ≡ length places
  pub few : length places ≤ 1024

pub ready-popped : (index : List (Option ℕ)) (places : List Place) (free rest : List ℕ) (i : ℕ) → IsPooled index places free → free ≡ rest ++ i ∷ []
    → IsReady index places rest i
ready-popped index places free rest i p e = go (subst (λ (f : List ℕ). IsPooled index places f) e p)
  where
    go : IsPooled index places (rest ++ i ∷ []) → IsReady index places rest i
    go p =
        let last = get-push_last rest i in
        let early : (k j : ℕ) → slice_get rest k ≡ Some j → slice_get (rest ++ i ∷ []) k ≡ Some j = λ k j h. get-push_before rest i k (get-within rest k j h) ∙ h in
        record {
          full = p.full;
          there = p.there;
          back = p.back;
          empty = λ k j h. p.empty k j (early k j h);
          made = λ k j h. p.made k j (early k j h);
          apart = λ j k m h h'. p.apart j k m (early j m h) (early k m h');
          unused = p.empty (length rest) i last;
          within = p.made (length rest) i last;
          other = λ k h. let under = get-within rest k i h in let same = p.apart k (length rest) i (early k i h) last in omega arith;
          count = let c = p.count in let l = length_push rest i in omega arith;
          few = p.few;
        }

made-same : (places : List Place) (place : Place) (j : ℕ) → entry_of (Some place) ≡ None → entry_of (slice_get (places ++ place ∷ []) j) ≡ entry_of (slice_get places j)
made-same [] place zero e = e
made-same [] place (suc j) e = refl
made-same (other ∷ rest) place zero e = refl
made-same (other ∷ rest) place (suc j) e = made-same rest place j e

pub ready-pushed : (index : List (Option ℕ)) (places : List Place) (free : List ℕ) (place : Place) → IsPooled index places free → place.number ≡ None
    → length places < 1024 → IsReady index (places ++ place ∷ []) free (length places)
ready-pushed index places free place p e few =
    let l = length_push places place in
    let none : entry_of (Some place) ≡ None = ap modulo e in
    let same : (j : ℕ) → entry_of (slice_get (places ++ place ∷ []) j) ≡ entry_of (slice_get places j) = λ j. made-same places place j none in
    record {
      full = p.full;
      there = λ entry j h. same j ∙ p.there entry j h;
      back = λ entry j h. p.back entry j (sym (same j) ∙ h);
      empty = λ k j h. same j ∙ p.empty k j h;
      made = λ k j h. let under = p.made k j h in omega arith;
      apart = p.apart;
      unused = ap entry_of (get-push_last places place) ∙ none;
      within = omega arith;
      other = λ k h. let under = p.made k (length places) h in omega arith;
      count = let c = p.count in omega arith;
      few = omega arith;
    }

pub few-made : (index : List (Option ℕ)) (places : List Place) (free : List ℕ) (number : ℕ) → IsPooled index places free
    → slice_get index (number % 1024) ≡ Some None → length free ≡ 0 → length places < 1024
few-made index places free number p vacant none = let under = taken-open index (number % 1024) vacant in let c = p.count in let f = p.full in omega arith

pub ready-chosen : (index : List (Option ℕ)) (places : List Place) (free : List ℕ) (places' : List Place) (free' : List ℕ) (i number : ℕ)
    → IsPooled index places free → slice_get index (number % 1024) ≡ Some None → IsChosen places free places' free' i → IsReady index places' free' i
ready-chosen index places free places' free' i number p vacant (Reused were same) = rw same (ready-popped index places free free' i p were)
ready-chosen index places free places' free' i number p vacant (Made place none same last blank now) =
    rw (now, same, last) (ready-pushed index places free place p blank (few-made index places free number p vacant none))

-- an entry of the index points into the list of places
entry-within : (places : List Place) (i entry : ℕ) → entry_of (slice_get places i) ≡ Some entry → i < length places
entry-within [] i entry e = cc
entry-within (place ∷ rest) zero entry e = omega arith
entry-within (place ∷ rest) (suc i) entry e = let p = entry-within rest i entry e in omega arith

pub at-pushed : (index : List (Option ℕ)) (places : List Place) (free : List ℕ) (place : Place) (n : ℕ) → IsPooled index places free
    → pool_at index (places ++ place ∷ []) n ≡ pool_at index places n
at-pushed index places free place n p = go (slice_get index (n % 1024)) refl
  where
    go : (o : Option (Option ℕ)) → slice_get index (n % 1024) ≡ o → kept_at (place_at o (places ++ place ∷ [])) n ≡ kept_at (place_at o places) n
    go None e = refl
    go (Some None) e = refl
    go (Some (Some i)) e =
        ap (λ (s : Option Place). kept_at s n) (get-push_before places place i (entry-within places i (n % 1024) (p.there (n % 1024) i e)))

pub at-chosen : (index : List (Option ℕ)) (places : List Place) (free : List ℕ) (places' : List Place) (free' : List ℕ) (i n : ℕ) → IsPooled index places free
    → IsChosen places free places' free' i → pool_at index places' n ≡ pool_at index places n
at-chosen index places free places' free' i n p (Reused were same) = rw same refl
at-chosen index places free places' free' i n p (Made place none same last blank now) = rw now (at-pushed index places free place n p)

-- ---- a place is read

pub read-entry : (index : List (Option ℕ)) (places : List Place) (free : List ℕ) (number i : ℕ) (o : Option ℕ) → IsPooled index places free
    → o ≡ get_or index (number % 1024) o → o ≡ Some i → slice_get index (number % 1024) ≡ Some (Some i)
read-entry index places free number i o p e f =
    slice_get_read index (length index) (number % 1024) o refl (let w = p.full in omega arith) e ∙ ap Some f

pub entry-made : (index : List (Option ℕ)) (places : List Place) (free : List ℕ) (entry i : ℕ) → IsPooled index places free
    → slice_get index entry ≡ Some (Some i) → i < length places
entry-made index places free entry i p e = entry-within places i entry (p.there entry i e)

pub read-place : (places : List Place) (i : ℕ) (place : Place) → i < length places → place ≡ get_or places i place → slice_get places i ≡ Some place
read-place places i place p e = slice_get_read places (length places) i place refl p e

-- the packet with this number, if the place to which its entry points has it
pub at-true : (index : List (Option ℕ)) (places : List Place) (number i : ℕ) (place : Place) → slice_get index (number % 1024) ≡ Some (Some i)
    → slice_get places i ≡ Some place → is_number place.number number ≡ true
    → pool_at index places number ≡ Some (record { moment = place.moment; bytes = place.packet })
at-true index places number i place e f is =
    ap (λ (o : Option (Option ℕ)). kept_at (place_at o places) number) e ∙ ap (λ (s : Option Place). kept_at s number) f ∙ cond-true _ _ _ is

pub at-false : (index : List (Option ℕ)) (places : List Place) (number i : ℕ) (place : Place) → slice_get index (number % 1024) ≡ Some (Some i)
    → slice_get places i ≡ Some place → is_number place.number number ≡ false → pool_at index places number ≡ None
at-false index places number i place e f is =
    ap (λ (o : Option (Option ℕ)). kept_at (place_at o places) number) e ∙ ap (λ (s : Option Place). kept_at s number) f ∙ cond-false _ _ _ is

pub moment-true : (o : Option Kept) (kept : Kept) → o ≡ Some kept → Some kept.moment ≡ option_map (λ (kept : Kept). kept.moment) o
moment-true o kept e = rw e refl

pub moment-false : (o : Option Kept) → o ≡ None → ◌≡◌ {A = Option ℕ} None (option_map (λ (kept : Kept). kept.moment) o)
moment-false o e = rw e refl

-- ---- a packet is put in

-- the entry of a number is vacant if the pool has no packet whose number is equal to it modulo 1,024
pub entry-open : (index : List (Option ℕ)) (places : List Place) (free : List ℕ) (number : ℕ) → IsPooled index places free
    → ((n : ℕ) → n % 1024 ≡ number % 1024 → pool_at index places n ≡ None) → slice_get index (number % 1024) ≡ Some None
entry-open index places free number p vacant = go (slice_get index (number % 1024)) refl
  where
    holds : (i : ℕ) (s : Option Place) → slice_get index (number % 1024) ≡ Some (Some i) → slice_get places i ≡ s → entry_of s ≡ Some (number % 1024) → ⊥
    holds i None e f g = cc
    holds i (Some place) e f g = named place.number refl g
      where
        named : (o : Option ℕ) → place.number ≡ o → modulo o ≡ Some (number % 1024) → ⊥
        named None q r = cc
        named (Some m) q r =
            let same : m % 1024 ≡ number % 1024 = cc in
            let here : pool_at index places m ≡ kept_at (Some place) m =
            ap (λ (entry : ℕ). kept_at (place_at (slice_get index entry) places) m) same
            ∙ ap (λ (o : Option (Option ℕ)). kept_at (place_at o places) m) e
            ∙ ap (λ (s : Option Place). kept_at s m) f in
            let some : kept_at (Some place) m ≡ Some (record { moment = place.moment; bytes = place.packet }) =
            rw q (cond-true (m == m) _ _ (eq-eqb m m refl)) in
            let none = vacant m same in
            cc

    missing : (xs : List (Option ℕ)) (i : ℕ) → i < length xs → slice_get xs i ≡ None → ⊥
    missing [] i q e = omega arith
    missing (x ∷ xs) zero q e = cc
    missing (x ∷ xs) (suc i) q e = missing xs i (omega arith) e

    go : (o : Option (Option ℕ)) → slice_get index (number % 1024) ≡ o → slice_get index (number % 1024) ≡ Some None
    go None e = absurd (missing index (number % 1024) (let f = p.full in omega arith) e)
    go (Some None) e = e
    go (Some (Some i)) e = absurd (holds i (slice_get places i) e refl (p.there (number % 1024) i e))

module _ (index : List (Option ℕ)) (places : List Place) (free : List ℕ) (i number : ℕ) (place : Place) (kept : Kept)
    (r : IsReady index places free i) (vacant : slice_get index (number % 1024) ≡ Some None) (is : IsIn place number kept) where
  indexed : slice_get (set index (number % 1024) (Some i)) (number % 1024) ≡ Some (Some i)
  indexed = get-set_same index (number % 1024) (Some i) (let f = r.full in omega arith)

  written : slice_get (set places i place) i ≡ Some place
  written = get-set_same places i place r.within

  put-there : (entry j : ℕ) → slice_get (set index (number % 1024) (Some i)) entry ≡ Some (Some j) → entry_of (slice_get (set places i place) j) ≡ Some entry
  put-there entry j h = elim (cases_eq entry (number % 1024)) [
    | inl same ↦
        let here : slice_get (set index (number % 1024) (Some i)) entry ≡ Some (Some i) = rw same indexed in
        let to : j ≡ i = cc in
        rw (to, same) (ap entry_of written ∙ entry_in place number kept is)
    | inr other ↦
        let before : slice_get index entry ≡ Some (Some j) = sym (get-set_other index (number % 1024) entry (Some i) other) ∙ h in
        let named = r.there entry j before in
        ap entry_of (get-set_other places i j place (differ places i j entry r.unused named)) ∙ named
  ]

  put-back : (entry j : ℕ) → entry_of (slice_get (set places i place) j) ≡ Some entry → slice_get (set index (number % 1024) (Some i)) entry ≡ Some (Some j)
  put-back entry j h = elim (cases_eq j i) [
    | inl same ↦
        let here : entry_of (slice_get (set places i place) j) ≡ Some (number % 1024) = rw same (ap entry_of written ∙ entry_in place number kept is) in
        let to : entry ≡ number % 1024 = cc in
        rw (to, same) indexed
    | inr other ↦
        let before = r.back entry j (sym (ap entry_of (get-set_other places i j place other)) ∙ h) in
        get-set_other index (number % 1024) entry (Some i) (λ same. let none : slice_get index entry ≡ Some None = rw same vacant in cc) ∙ before
  ]

  pub pooled-put : IsPooled (set index (number % 1024) (Some i)) (set places i place) free
  pooled-put =
      let wide = length-set index (number % 1024) (Some i) in
      let long = length-set places i place in
      record {
        full = wide ∙ r.full;
        there = put-there;
        back = put-back;
        empty = λ k j h. ap entry_of (get-set_other places i j place (λ same. r.other k (h ∙ ap Some same))) ∙ r.empty k j h;
        made = λ k j h. let under = r.made k j h in omega arith;
        apart = r.apart;
        count = let c = r.count in let more = taken-more index (number % 1024) i vacant in omega arith;
        few = let f = r.few in omega arith;
      }

  pub at-put : (n : ℕ) → pool_at (set index (number % 1024) (Some i)) (set places i place) n ≡ with_kept number kept (pool_at index places) n
  at-put n = elim (cases_eq (n % 1024) (number % 1024)) [
    | inl same ↦
        ap (λ (entry : ℕ). kept_at (place_at (slice_get (set index (number % 1024) (Some i)) entry) (set places i place)) n) same
        ∙ ap (λ (o : Option (Option ℕ)). kept_at (place_at o (set places i place)) n) indexed
        ∙ ap (λ (s : Option Place). kept_at s n) written
        ∙ elim (cases_eq number n) [
          | inl e ↦ rw (← e) (in_there place number kept is ∙ sym (cond-true (number == number) _ _ (eq-eqb number number refl)))
          | inr apart ↦ in_elsewhere place number n kept is apart ∙ sym (cond-false (number == n) _ _ (ne_eqb number n apart)
              ∙ ap (λ (entry : ℕ). kept_at (place_at (slice_get index entry) places) n) same ∙ ap (λ (o : Option (Option ℕ)). kept_at (place_at o places) n) vacant)
        ]
    | inr other ↦
        ap (λ (o : Option (Option ℕ)). kept_at (place_at o (set places i place)) n) (get-set_other index (number % 1024) (n % 1024) (Some i) other)
        ∙ go (slice_get index (n % 1024)) refl
        ∙ sym (cond-false (number == n) _ _ (ne_eqb number n (λ e. other (ap (λ (m : ℕ). m % 1024) (sym e)))))
  ]
    where
      go : (o : Option (Option ℕ)) → slice_get index (n % 1024) ≡ o → kept_at (place_at o (set places i place)) n ≡ kept_at (place_at o places) n
      go None e = refl
      go (Some None) e = refl
      go (Some (Some j)) e =
          ap (λ (s : Option Place). kept_at s n) (get-set_other places i j place (differ places i j (n % 1024) r.unused (r.there (n % 1024) j e)))

pub with-same : (number : ℕ) (kept : Kept) (f g : ℕ → Option Kept) (n : ℕ) → f n ≡ g n → with_kept number kept f n ≡ with_kept number kept g n
with-same number kept f g n e = rw e refl

-- ---- a packet is taken out

pub same-place : (places : List Place) (i : ℕ) (a b : Place) → slice_get places i ≡ Some a → slice_get places i ≡ Some b → a ≡ b
same-place places i a b e f = cc

pub gives-none : (o : Option Kept) (before : List ℕ) → o ≡ None → Gives o None before before
gives-none o before e = rw e (refl, refl)

pub gives-some : (o : Option Kept) (place old : Place) (moment : ℕ) (before now : List ℕ) → o ≡ Some (record { moment = place.moment; bytes = place.packet })
    → old ≡ place → moment ≡ old.moment → now ≡ old.packet → Gives o (Some moment) before now
gives-some o place old moment before now e same m b = rw e (ap Some (m ∙ ap (λ (p : Place). p.moment) same), b ∙ ap (λ (p : Place). p.packet) same)
