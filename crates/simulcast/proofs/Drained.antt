-- After a whole pump each leg's queue is empty, or 512 packets of the bundle are queued.
use Rattle.std.proofs.Common.{◌≡◌, ◌≤◌, ◌<◌, ◌⊎◌, inl, inr, ℕ, zero, suc, Bool, true, false, cond, List, [], ◌∷◌, length, drop, refl, sym, ap, ap₂, subst, ◌∙◌, true≢false, Option, Some, None, arith, eqb}
use Rattle.std.specs.Prelude.{◌==◌, ◌||◌}
use Rattle.std.proofs.lemmas.Bool.{eqb-true}
use Rattle.std.proofs.lemmas.Option.{slice_get_within}
use Rattle.sfu_base.specs.Answer.{Answer}
use Rattle.sfu_base.specs.declared.call.Call.{Call}
use Rattle.sfu_base.specs.declared.call.Call.TheVariants as call
use Rattle.room_core.specs.History.{accepted, after}
use Rattle.room_core.specs.Live.{Joined, joined}
use Rattle.room_core.specs.WellFormed.{AreWellFormed}
use Rattle.room_core.proofs.Promising.{headline}
use Rattle.leg_switch.specs.Switching.{Standing, is_active}
use Rattle.simulcast.specs.Waiting.{waiting, waiting_for}
use Rattle.simulcast.specs.Made.{AreLegs, leg_at}
use Rattle.simulcast.specs.Pumping.{IsDrained, Pumping, and_took, called, drained, drained_from, drained_leg, is_full, order, other, pumped, unless}
use Rattle.simulcast.proofs.OneTake.{full_stays}
use Rattle.simulcast.proofs.Waiting.{IsLive, called_accepted, dry_answer, given_same, going_out_stays, next_answer, waits_less}

-- ---- one take

-- the packets queued for another subscriber are unchanged
waits_on : (past : List Call) (m n : ℕ) → eqb m n ≡ false → waiting n (call.Take m ∷ past) ≡ waiting n past
unfolding waiting
waits_on past m n e = go (joined n past)
  where
    go : (o : Option Joined) → waiting_for n o (call.Take m ∷ past) ≡ waiting_for n o past
    go None = refl
    go (Some j) = ap₂ (λ (given out : List (List ℕ)). drop (length given) out) (given_same past m n e) (going_out_stays m n j past)

is_live : (s : Pumping) (n : ℕ) (j : Joined) (queue : List (List ℕ)) → AreWellFormed (accepted s.history) → joined n (accepted s.history) ≡ Some j
    → waiting n (accepted s.history) ≡ queue → IsLive (accepted s.history) n j queue
is_live s n j queue formed live waits = record { live = live; numbered = (headline s.history formed).all n j live; waits = waits }

-- ---- one leg

-- nothing is queued for the subscriber, or the bundle's queue is full
abbrev pub IsDone : ℕ → Pumping → Type 0
IsDone n s = (is_full s.made ≡ true) ⊎ (waiting n (accepted s.history) ≡ [])

-- packets of subscriber n were taken until this holds
record Drains (n : ℕ) (s now : Pumping) : Type 0 where
  formed : AreWellFormed (accepted now.history)
  legs_are : now.made.legs ≡ s.made.legs
  joins : (l : ℕ) → joined l (accepted now.history) ≡ joined l (accepted s.history)
  others : (l : ℕ) → eqb n l ≡ false → waiting l (accepted now.history) ≡ waiting l (accepted s.history)
  ends : IsDone n now

full_drains : (n : ℕ) (s : Pumping) → AreWellFormed (accepted s.history) → is_full s.made ≡ true → Drains n s s
full_drains n s formed full = record { formed = formed; legs_are = refl; joins = λ l. refl; others = λ l e. refl; ends = inl full }

drain_ends : (k n : ℕ) (queue : List (List ℕ)) (s : Pumping) (j : Joined) → AreWellFormed (accepted s.history) → joined n (accepted s.history) ≡ Some j
    → waiting n (accepted s.history) ≡ queue → Drains n s (drained k n queue s)
drain_ends k n [] s j formed live waits = by (is_full s.made) refl
  where
    now : Pumping
    now = record { history = called false (call.Take n) s.history; made = s.made }

    past_is : accepted (called false (call.Take n) s.history) ≡ accepted s.history
    past_is =
        called_accepted s.history (call.Take n) false
        ∙ ap (λ (a : Answer). after a (call.Take n) (accepted s.history)) (dry_answer (accepted s.history) n j (is_live s n j [] formed live waits))

    by : (b : Bool) → is_full s.made ≡ b → Drains n s (cond b s (record { history = called false (call.Take n) s.history; made = s.made }))
    by true e = full_drains n s formed e
    by false e = record {
      formed = subst AreWellFormed (sym past_is) formed;
      legs_are = refl;
      joins = λ l. ap (joined l) past_is;
      others = λ l e. ap (waiting l) past_is;
      ends = inr (ap (waiting n) past_is ∙ waits);
    }
drain_ends k n (p ∷ queue) s j formed live waits =
    let next : Pumping = record { history = called false (call.Take n) s.history; made = and_took k p s.made } in
    let is = is_live s n j (p ∷ queue) formed live waits in
    let past_is : accepted next.history ≡ call.Take n ∷ accepted s.history =
    called_accepted s.history (call.Take n) false ∙ ap (λ (a : Answer). after a (call.Take n) (accepted s.history)) (next_answer (accepted s.history) n j p queue is) in
    let rest : Drains n next (drained k n queue next) =
    drain_ends k n queue next j (subst AreWellFormed (sym past_is) (tt, formed)) (ap (joined n) past_is ∙ live) (ap (waiting n) past_is ∙ waits_less (accepted s.history) n j p queue is) in
    by (is_full s.made) refl past_is rest
  where
    by : (b : Bool) → is_full s.made ≡ b → accepted (called false (call.Take n) s.history) ≡ call.Take n ∷ accepted s.history
        → Drains n (record { history = called false (call.Take n) s.history; made = and_took k p s.made })
        (drained k n queue (record { history = called false (call.Take n) s.history; made = and_took k p s.made }))
        → Drains n s (cond b s (drained k n queue (record { history = called false (call.Take n) s.history; made = and_took k p s.made })))
    by true e past_is rest = full_drains n s formed e
    by false e past_is rest = record {
      formed = rest.formed;
      legs_are = rest.legs_are;
      joins = λ l. rest.joins l ∙ ap (joined l) past_is;
      others = λ l e. rest.others l e ∙ ap (waiting l) past_is ∙ waits_on (accepted s.history) n l e;
      ends = rest.ends;
    }

-- ---- legs one after another

abbrev AreAlive : Pumping → Type 0
AreAlive s = (k n : ℕ) → leg_at k s.made.legs ≡ Some n → (j : Joined) × (joined n (accepted s.history) ≡ Some j)

-- a leg that was drained stays drained
record Pumps (s now : Pumping) : Type 0 where
  formed : AreWellFormed (accepted now.history)
  legs_are : now.made.legs ≡ s.made.legs
  alive : AreAlive now
  stays : (l : ℕ) → IsDone l s → IsDone l now

abbrev IsIn : Option ℕ → List (Option ℕ) → Type 0
IsIn leg [] = ⊥
IsIn leg (first ∷ legs) = (first ≡ leg) ⊎ IsIn leg legs

nothing_pumped : (s : Pumping) → AreWellFormed (accepted s.history) → AreAlive s → Pumps s s
nothing_pumped s formed alive = record { formed = formed; legs_are = refl; alive = alive; stays = λ l h. h }

drained_pumps : (k n : ℕ) (s : Pumping) → AreAlive s → Drains n s (drained k n (waiting n (accepted s.history)) s) → Pumps s (drained k n (waiting n (accepted s.history)) s)
drained_pumps k n s alive d = record {
  formed = d.formed;
  legs_are = d.legs_are;
  alive = λ i l e. (let a = alive i l (ap (leg_at i) (sym d.legs_are) ∙ e) in (a.0, d.joins l ∙ a.1));
  stays = stays;
}
  where
    now : Pumping
    now = drained k n (waiting n (accepted s.history)) s

    apart : (l : ℕ) (b : Bool) → eqb n l ≡ b → waiting l (accepted s.history) ≡ [] → IsDone l (drained k n (waiting n (accepted s.history)) s)
    apart l true e none = subst (λ (x : ℕ). IsDone x (drained k n (waiting n (accepted s.history)) s)) (eqb-true n l e) d.ends
    apart l false e none = inr (d.others l e ∙ none)

    stays : (l : ℕ) → IsDone l s → IsDone l (drained k n (waiting n (accepted s.history)) s)
    stays l (inl full) = inl (ap (λ (x : Pumping). is_full x.made) (full_stays k n (waiting n (accepted s.history)) s full) ∙ full)
    stays l (inr none) = apart l (eqb n l) refl none

record LegPumps (leg : Option ℕ) (s now : Pumping) : Type 0 where
  pumps : Pumps s now
  ends : (k n : ℕ) → leg ≡ Some k → leg_at k s.made.legs ≡ Some n → IsDone n now

leg_pumps : (leg : Option ℕ) (s : Pumping) → AreWellFormed (accepted s.history) → AreAlive s → LegPumps leg s (drained_leg leg s)
leg_pumps None s formed alive = record { pumps = nothing_pumped s formed alive; ends = λ k n e at. absurd cc }
leg_pumps (Some k) s formed alive = go (leg_at k s.made.legs) refl
  where
    go : (o : Option ℕ) → leg_at k s.made.legs ≡ o → LegPumps (Some k) s (drained_from k o s)
    go None at = record {
      pumps = nothing_pumped s formed alive;
      ends = λ i n e here. (let same : k ≡ i = cc in let both : None ≡ Some n = sym at ∙ ap (λ (x : ℕ). leg_at x s.made.legs) same ∙ here in absurd cc);
    }
    go (Some n) at =
        let j = alive k n at in
        let d = drain_ends k n (waiting n (accepted s.history)) s j.0 formed j.1 refl in
        record {
          pumps = drained_pumps k n s alive d;
          ends = λ i l e here. (let same : k ≡ i = cc in let both : Some n ≡ Some l = sym at ∙ ap (λ (x : ℕ). leg_at x s.made.legs) same ∙ here in
              let one : n ≡ l = cc in subst (λ (x : ℕ). IsDone x (drained k n (waiting n (accepted s.history)) s)) one d.ends);
        }

record AllPump (legs : List (Option ℕ)) (s now : Pumping) : Type 0 where
  pumps : Pumps s now
  ends : (k n : ℕ) → IsIn (Some k) legs → leg_at k s.made.legs ≡ Some n → IsDone n now

all_pump : (legs : List (Option ℕ)) (s : Pumping) → AreWellFormed (accepted s.history) → AreAlive s → AllPump legs s (pumped legs s)
all_pump [] s formed alive = record { pumps = nothing_pumped s formed alive; ends = λ k n none at. absurd none }
all_pump (leg ∷ legs) s formed alive =
    let one = leg_pumps leg s formed alive in
    let more = all_pump legs (drained_leg leg s) one.pumps.formed one.pumps.alive in
    record {
      pumps = record {
        formed = more.pumps.formed;
        legs_are = more.pumps.legs_are ∙ one.pumps.legs_are;
        alive = more.pumps.alive;
        stays = λ l h. more.pumps.stays l (one.pumps.stays l h);
      };
      ends = λ k n is at. by k n at one more is;
    }
  where
    by : (k n : ℕ) → leg_at k s.made.legs ≡ Some n → LegPumps leg s (drained_leg leg s) → AllPump legs (drained_leg leg s) (pumped legs (drained_leg leg s))
        → (leg ≡ Some k) ⊎ IsIn (Some k) legs → IsDone n (pumped legs (drained_leg leg s))
    by k n at one more (inl e) = more.pumps.stays n (one.ends k n e at)
    by k n at one more (inr later) = more.ends k n later (ap (leg_at k) one.pumps.legs_are ∙ at)

-- ---- the order has each leg

abbrev IsOneOfThree : ℕ → Type 0
IsOneOfThree k = (k ≡ 1) ⊎ (k ≡ 2) ⊎ (k ≡ 3)

one_of_three : (legs : List ℕ) (k n : ℕ) → length legs ≤ 3 → leg_at k legs ≡ Some n → IsOneOfThree k
one_of_three legs zero n few at = absurd (let none : None ≡ Some n = at in cc)
one_of_three legs (suc zero) n few at = inl refl
one_of_three legs (suc (suc zero)) n few at = inr (inl refl)
one_of_three legs (suc (suc (suc zero))) n few at = inr (inr refl)
one_of_three legs (suc (suc (suc (suc i)))) n few at =
    let within : suc (suc (suc i)) < length legs = slice_get_within legs (suc (suc (suc i))) n at in absurd (omega arith)

other_is : (s : Standing) (k : ℕ) → is_active k s.active ≡ false → (s.chosen == k) ≡ false → other s k ≡ Some k
other_is s k idle unchosen = ap₂ (λ (a c : Bool). unless (a || c) k) idle unchosen

active_is : (o : Option ℕ) (k : ℕ) → is_active k o ≡ true → o ≡ Some k
active_is None k e = absurd (true≢false (sym e))
active_is (Some a) k e = ap Some (eqb-true a k e)

order_has : (s : Standing) (k : ℕ) → IsOneOfThree k → IsIn (Some k) (order s)
order_has s k one = go (is_active k s.active) refl (s.chosen == k) refl
  where
    last : is_active k s.active ≡ false → (s.chosen == k) ≡ false → IsOneOfThree k → IsIn (Some k) (order s)
    last idle unchosen (inl e) = inr (inr (inl (ap (other s) (sym e) ∙ other_is s k idle unchosen)))
    last idle unchosen (inr (inl e)) = inr (inr (inr (inl (ap (other s) (sym e) ∙ other_is s k idle unchosen))))
    last idle unchosen (inr (inr e)) = inr (inr (inr (inr (inl (ap (other s) (sym e) ∙ other_is s k idle unchosen)))))

    go : (a : Bool) → is_active k s.active ≡ a → (c : Bool) → (s.chosen == k) ≡ c → IsIn (Some k) (order s)
    go true active c e = inl (active_is s.active k active)
    go false idle true e =
        let is : s.chosen ≡ k = eqb-true s.chosen k e in
        inr (inl (ap₂ (λ (b : Bool) (l : ℕ). unless b l) (ap (λ (l : ℕ). is_active l s.active) is ∙ idle) is))
    go false idle false e = last idle e one

-- ---- all of it

swapped : {A B : Type 0} → A ⊎ B → B ⊎ A
swapped (inl a) = inr a
swapped (inr b) = inl b

pub pump_drains : (s : Pumping) (standing : Standing) → AreWellFormed (accepted s.history) → AreLegs (accepted s.history) s.made → length s.made.legs ≤ 3
    → IsDrained (pumped (order standing) s)
pump_drains s standing formed legs few k n at =
    let all = all_pump (order standing) s formed (λ i l e. (let leg = legs i l e in (leg.subscriber, leg.live))) in
    let here : leg_at k s.made.legs ≡ Some n = ap (leg_at k) (sym all.pumps.legs_are) ∙ at in
    swapped (all.ends k n (order_has standing k (one_of_three s.made.legs k n few here)) here)
