-- Each packet that is taken from the active leg is forwarded. So the last of them decides whether the last forwarded frame has ended.
use Rattle.std.proofs.Common.{◌≡◌, ◌+◌, ◌%◌, ◌<◌, ◌^◌, ℕ, arith, Bool, true, false, List, [], ◌∷◌, ◌++◌, refl, sym, ap, ap₂, ◌∙◌, cond, true≢false, ◌&&◌, ◌||◌, eqb}
use Rattle.std.specs.Prelude.{◌==◌}
use Rattle.std.proofs.lemmas.Bool.{eq-eqb, eqb-true}
use Rattle.std.specs.declared.option.Option.{Option}
use Rattle.std.specs.declared.option.Option.TheVariants.{None, Some}
use Rattle.leg_switch.specs.Marks.{Marks}
use Rattle.leg_switch.specs.Switching.{LegEvent, Standing, after_sent, goes_out, is_active, may_change, offset_for, standing, taken_from}
use Rattle.leg_switch.specs.Switching.LegEvent.{Chose, Took}

-- ---- the last element

pub last_is : {A : Type 0} (xs ys : List A) (x y : A) → xs ++ x ∷ [] ≡ ys ++ y ∷ [] → x ≡ y
last_is [] [] x y e = cc
last_is [] (v ∷ []) x y e = absurd cc
last_is [] (v ∷ w ∷ vs) x y e = absurd cc
last_is (v ∷ []) [] x y e = absurd cc
last_is (v ∷ w ∷ vs) [] x y e = absurd cc
last_is {A} (v ∷ xs) (w ∷ ys) x y e = last_is xs ys x y (let same : xs ++ x ∷ [] ≡ ys ++ y ∷ [] = cc in same)

-- ---- the invariant

module _ (marks : Marks) where
  -- the last of these packets ended its frame exactly if this flag is true
  abbrev Tells : Bool → List (List ℕ) → Type 0
  Tells ended packets = (front : List (List ℕ)) (last : List ℕ) → packets ≡ front ++ last ∷ [] → ended ≡ marks.end last

  abbrev Telling : Option ℕ → Bool → List LegEvent → Type 0
  Telling None ended events = true ≡ true
  Telling (Some leg) ended events = Tells ended (taken_from leg events)

  -- a packet of the active leg is forwarded
  sent_tells : (b : Bool) (taken : List (List ℕ)) (packet : List ℕ) → b ≡ true → Tells (marks.end packet) (cond b (taken ++ packet ∷ []) taken)
  sent_tells true taken packet e front last same = ap marks.end (last_is taken front packet last same)
  sent_tells false taken packet e front last same = absurd (true≢false (sym e))

  -- a packet of another leg that is dropped changes nothing
  kept : (b : Bool) (ended : Bool) (taken : List (List ℕ)) (packet : List ℕ) → b ≡ false → Tells ended taken → Tells ended (cond b (taken ++ packet ∷ []) taken)
  kept false ended taken packet e h = h
  kept true ended taken packet e h = absurd (true≢false e)

  or_false : (a b : Bool) → (a || b) ≡ false → a ≡ false
  or_false true b e = absurd (true≢false e)
  or_false false b e = refl

  swapped : (leg k : ℕ) (b : Bool) → eqb leg k ≡ b → eqb k leg ≡ false → b ≡ false
  swapped leg k false same e = refl
  swapped leg k true same e = absurd (true≢false (sym (eq-eqb k leg (sym (eqb-true leg k same))) ∙ e))

  dropped : (o : Option ℕ) (ended : Bool) (past : List LegEvent) (leg : ℕ) (packet : List ℕ) → is_active leg o ≡ false → Telling o ended past
      → Telling o ended (Took leg packet ∷ past)
  dropped None ended past leg packet e h = refl
  dropped (Some k) ended past leg packet e h = kept (eqb leg k) ended (taken_from k past) packet (swapped leg k (eqb leg k) refl e) h

  took : (s : Standing) (past : List LegEvent) (leg : ℕ) (packet : List ℕ) (b : Bool) → goes_out marks s leg packet ≡ b → Telling s.active s.ended past
      → Telling (cond b (after_sent marks s leg packet) s).active (cond b (after_sent marks s leg packet) s).ended (Took leg packet ∷ past)
  took s past leg packet true e h = sent_tells (eqb leg leg) (taken_from leg past) packet (eq-eqb leg leg refl)
  took s past leg packet false e h =
      dropped s.active s.ended past leg packet (or_false (is_active leg s.active) (s.chosen == leg && (may_change s.active s.ended && marks.key packet)) e) h

  telling : (events : List LegEvent) → Telling (standing marks events).active (standing marks events).ended events
  telling [] = refl
  telling (Chose leg ∷ past) = chosen (standing marks past).active (standing marks past).ended (telling past)
    where
      chosen : (o : Option ℕ) (ended : Bool) → Telling o ended past → Telling o ended (Chose leg ∷ past)
      chosen None ended h = refl
      chosen (Some k) ended h = h
  telling (Took leg packet ∷ past) =
      took (standing marks past) past leg packet (goes_out marks (standing marks past) leg packet) refl (telling past)

  -- ---- a packet of the active leg

  record HasLast (packets : List (List ℕ)) : Type 0 where
    pub front : List (List ℕ)
    pub last : List ℕ
    pub is : packets ≡ front ++ last ∷ []

  abbrev GaveOne : Option ℕ → List LegEvent → Type 0
  GaveOne None events = true ≡ true
  GaveOne (Some leg) events = HasLast (taken_from leg events)

  gave_more : (b : Bool) (taken : List (List ℕ)) (packet : List ℕ) → HasLast taken → HasLast (cond b (taken ++ packet ∷ []) taken)
  gave_more true taken packet h = record { front = taken; last = packet; is = refl }
  gave_more false taken packet h = h

  gives_now : (b : Bool) (taken : List (List ℕ)) (packet : List ℕ) → b ≡ true → HasLast (cond b (taken ++ packet ∷ []) taken)
  gives_now true taken packet e = record { front = taken; last = packet; is = refl }
  gives_now false taken packet e = absurd (true≢false (sym e))

  gave_on : (o : Option ℕ) (past : List LegEvent) (leg : ℕ) (packet : List ℕ) → GaveOne o past → GaveOne o (Took leg packet ∷ past)
  gave_on None past leg packet h = refl
  gave_on (Some k) past leg packet h = gave_more (eqb leg k) (taken_from k past) packet h

  gave_took : (s : Standing) (past : List LegEvent) (leg : ℕ) (packet : List ℕ) (b : Bool) → GaveOne s.active past
      → GaveOne (cond b (after_sent marks s leg packet) s).active (Took leg packet ∷ past)
  gave_took s past leg packet true h = gives_now (eqb leg leg) (taken_from leg past) packet (eq-eqb leg leg refl)
  gave_took s past leg packet false h = gave_on s.active past leg packet h

  gave_one : (events : List LegEvent) → GaveOne (standing marks events).active events
  gave_one [] = refl
  gave_one (Chose leg ∷ past) = chosen (standing marks past).active (gave_one past)
    where
      chosen : (o : Option ℕ) → GaveOne o past → GaveOne o (Chose leg ∷ past)
      chosen None h = refl
      chosen (Some k) h = h
  gave_one (Took leg packet ∷ past) = gave_took (standing marks past) past leg packet (goes_out marks (standing marks past) leg packet) (gave_one past)

  pub active_gave : (events : List LegEvent) (active : ℕ) → (standing marks events).active ≡ Some active
      → (front : List (List ℕ)) × (last : List ℕ) × (taken_from active events ≡ front ++ last ∷ [])
  active_gave events active e = by (standing marks events).active e (gave_one events)
    where
      by : (o : Option ℕ) → o ≡ Some active → GaveOne o events → (front : List (List ℕ)) × (last : List ℕ) × (taken_from active events ≡ front ++ last ∷ [])
      by None is h = absurd cc
      by (Some k) is h =
          let one : k ≡ active = cc in
          (h.front, h.last, ap (λ (n : ℕ). taken_from n events) (sym one) ∙ h.is)

  -- ---- a key start of the chosen leg

  pub goes : (s : Standing) (chosen : ℕ) (key : List ℕ) → s.chosen ≡ chosen → may_change s.active s.ended ≡ true → marks.key key ≡ true
      → goes_out marks s chosen key ≡ true
  goes s chosen key is may e = by (is_active chosen s.active) (ap₂ (λ (a b : Bool). a && b) (eq-eqb s.chosen chosen is) (ap₂ (λ (a b : Bool). a && b) may e))
    where
      by : (a : Bool) {b : Bool} → b ≡ true → (a || b) ≡ true
      by true same = refl
      by false same = same

  pub ended_by : (events : List LegEvent) (active : ℕ) (front : List (List ℕ)) (last : List ℕ) → (standing marks events).active ≡ Some active
      → taken_from active events ≡ front ++ last ∷ [] → (standing marks events).ended ≡ marks.end last
  ended_by events active front last e same = by (standing marks events).active (standing marks events).ended e (telling events)
    where
      by : (o : Option ℕ) (ended : Bool) → o ≡ Some active → Telling o ended events → ended ≡ marks.end last
      by None ended is h = absurd cc
      by (Some k) ended is h = h front last (ap (λ (n : ℕ). taken_from n events) (let one : k ≡ active = cc in one) ∙ same)

  pub key_starts_go_out : (events : List LegEvent) (active chosen : ℕ) (front : List (List ℕ)) (last key : List ℕ)
      → (standing marks events).active ≡ Some active → (standing marks events).chosen ≡ chosen
      → taken_from active events ≡ front ++ last ∷ [] → marks.end last ≡ true → marks.key key ≡ true
      → goes_out marks (standing marks events) chosen key ≡ true
  key_starts_go_out events active chosen front last key e is same ends key_is =
      goes (standing marks events) chosen key is (ap₂ may_change e (ended_by events active front last e same ∙ ends)) key_is

-- ---- the step of a timestamp

pub steps : (active last own : ℕ) → own < 2 ^ 32 → (own + offset_for (Some active) last own) % 2 ^ 32 ≡ (last + 3000) % 2 ^ 32
steps active last own small = omega arith
