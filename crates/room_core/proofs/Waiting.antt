-- Whether a subscriber of a track waits for a target, in the table and in the history.
use Rattle.std.proofs.Common.{◌≡◌, ◌<◌, ◌≤◌, ℕ, zero, suc, ◌+◌, Bool, true, false, cond, ◌&&◌, ◌||◌, List, [], ◌∷◌, length, refl, sym, ap, subst, ◌∙◌, arith, Option, Some, None, slice_get, eqb, nat_eq}
use Rattle.std.proofs.lemmas.Bool.{eqb-true, eq-eqb}
use Rattle.std.specs.List.{list_any}
use Rattle.std.specs.Map.{lookup}
use Rattle.indexmap.specs.IndexMap.{get}
use Rattle.sfu_base.specs.declared.call.Call.{Call}
use Rattle.sfu_base.specs.declared.call.Call.TheVariants as call
use Rattle.room_core.specs.declared.content.Content.{Content}
use Rattle.room_core.specs.declared.live.LiveSubscriber.{LiveSubscriber}
use Rattle.room_core.specs.Live.{Joined, all_subscribers, joined, kind_of}
use Rattle.room_core.specs.Targets.{has_no_target}
use Rattle.room_core.specs.Views.{events_for, has_waiting, standing_of, subscriber_by, waits_on}
use Rattle.room_core.specs.Follows.{HasNoTarget}
use Rattle.room_core.specs.Passing.{Both, WaitsIn, WaitsOne}
use Rattle.room_core.specs.Tables.{AllFirst}
use Rattle.room_core.specs.Content.{IsAfter, IsSubscriberAfter}

-- ---- one subscriber

pub waits_by : (number : ℕ) (s : LiveSubscriber) (none : Bool) → s.track ≡ number → HasNoTarget s.feed.value none → WaitsOne none number s
waits_by number s true same h = (same, h)
waits_by number s false same h = λ on. h

-- ---- the loop

module _ {V : Type 0} (P : V → Type 0) where
  all_suc : (i : ℕ) (es : List (ℕ × V)) (e : ℕ × V) → AllFirst P i es → slice_get es i ≡ Some e → P e.1 → AllFirst P (suc i) es
  all_suc zero [] e h at p = tt
  all_suc zero (f ∷ es) e h at p = let same : f ≡ e = cc in (subst (λ (x : ℕ × V). P x.1) (sym same) p, tt)
  all_suc (suc i) [] e h at p = tt
  all_suc (suc i) (f ∷ es) e h at p = (h.0, all_suc i es e h.1 at p)

  pub all_next : (i : ℕ) (es : List (ℕ × V)) (e : ℕ × V) → AllFirst P i es → slice_get es i ≡ Some e → P e.1 → AllFirst P (i + 1) es
  all_next i es e h at p = subst (λ (k : ℕ). AllFirst P k es) (let e : suc i ≡ i + 1 = omega arith in e) (all_suc i es e h at p)

  -- entries for which it is true anyway
  pub all_gap : (i p : ℕ) (es : List (ℕ × V)) → AllFirst P i es → i ≤ p → ((q : ℕ) (e : ℕ × V) → i ≤ q → q < p → slice_get es q ≡ Some e → P e.1) → AllFirst P p es
  all_gap i zero es h le own = tt
  all_gap i (suc p) [] h le own = tt
  all_gap zero (suc p) (e ∷ es) h le own = (own 0 e (omega arith) (omega arith) refl, all_gap zero p es tt (omega arith) (λ q d above below at. own (suc q) d (omega arith) (omega (arith, below)) at))
  all_gap (suc i) (suc p) (e ∷ es) h le own =
      (h.0, all_gap i p es h.1 (omega (arith, le)) (λ q d above below at. own (suc q) d (omega (arith, above)) (omega (arith, below)) at))

  found_by : (b : Bool) (v s : V) (o : Option V) → P v → (o ≡ Some s → P s) → cond b (Some v) o ≡ Some s → P s
  found_by true v s o p rest e = let same : v ≡ s = cc in subst P same p
  found_by false v s o p rest e = rest e

  pub all_found : (i : ℕ) (es : List (ℕ × V)) → AllFirst P i es → length es ≤ i → (n : ℕ) (s : V) → lookup (nat_eq n) es ≡ Some s → P s
  all_found zero [] h le n s e = absurd (let none : None ≡ Some s = e in cc)
  all_found zero (f ∷ es) h le n s e = absurd (let none : ⊥ = omega (arith, le) in none)
  all_found (suc i) [] h le n s e = absurd (let none : None ≡ Some s = e in cc)
  all_found (suc i) (f ∷ es) h le n s e = found_by (nat_eq n f.0) f.1 s (lookup (nat_eq n) es) h.0 (all_found i es h.1 (omega (arith, le)) n s) e

-- ---- the history

or_true : (a b : Bool) → b ≡ true → (a || b) ≡ true
or_true true b e = refl
or_true false b e = e

any_joined : (P : ℕ → Bool) (past : List Call) (n : ℕ) (j : Joined) → joined n past ≡ Some j → P n ≡ true → list_any P (all_subscribers past) ≡ true
any_joined P [] n j e p = absurd (let none : None ≡ Some j = e in cc)
any_joined P (call.Join subscriber track ssrc first wish ∷ past) n j e p = go (eqb subscriber n) refl (any_joined P past n j)
  where
    go : (b : Bool) → eqb subscriber n ≡ b → (joined n past ≡ Some j → P n ≡ true → list_any P (all_subscribers past) ≡ true) → (P subscriber || list_any P (all_subscribers past)) ≡ true
    go true t rest = ap (λ (b : Bool). b || list_any P (all_subscribers past)) (ap P (eqb-true subscriber n t) ∙ p)
    go false t rest =
        let q : Joined = record { track = track; ssrc = ssrc; first = first; wish = wish } in
        or_true (P subscriber) (list_any P (all_subscribers past)) (rest (sym (ap (λ (b : Bool). cond b (Some q) (joined n past)) t) ∙ e) p)
any_joined P (call.Leave subscriber ∷ past) n j e p = go (eqb subscriber n) refl (any_joined P past n j)
  where
    go : (b : Bool) → eqb subscriber n ≡ b → (joined n past ≡ Some j → P n ≡ true → list_any P (all_subscribers past) ≡ true) → list_any P (all_subscribers past) ≡ true
    go true t rest = absurd (let none : None ≡ Some j = sym (ap (λ (b : Bool). cond b None (joined n past)) t) ∙ e in cc)
    go false t rest = rest (sym (ap (λ (b : Bool). cond b None (joined n past)) t) ∙ e) p
any_joined P (call.Publish track kind ssrc hold ∷ past) n j e p = any_joined P past n j e p
any_joined P (call.Unpublish track ∷ past) n j e p = any_joined P past n j e p
any_joined P (call.Packet track moment bytes ∷ past) n j e p = any_joined P past n j e p
any_joined P (call.Tick track moment ∷ past) n j e p = any_joined P past n j e p
any_joined P (call.Aim subscriber wish ∷ past) n j e p = any_joined P past n j e p
any_joined P (call.Take subscriber ∷ past) n j e p = any_joined P past n j e p
any_joined P (call.Resend subscriber sequence ∷ past) n j e p = any_joined P past n j e p
any_joined P (call.Missing track ∷ past) n j e p = any_joined P past n j e p
any_joined P (call.KeyWanted track ∷ past) n j e p = any_joined P past n j e p
any_joined P (call.Plead subscriber ∷ past) n j e p = any_joined P past n j e p
any_joined P (call.Why subscriber number ∷ past) n j e p = any_joined P past n j e p

none_any : (P : ℕ → Bool) (xs : List ℕ) → ((n : ℕ) → P n ≡ false) → list_any P xs ≡ false
none_any P [] h = refl
none_any P (x ∷ xs) h = ap (λ (b : Bool). b || list_any P xs) (h x) ∙ none_any P xs h

some_joined : (past : List Call) (n : ℕ) (s : LiveSubscriber) (o : Option Joined) → Both (IsSubscriberAfter past n) (Some s) o → (j : Joined) × (o ≡ Some j) × IsSubscriberAfter past n s j
some_joined past n s None h = absurd h
some_joined past n s (Some j) h = (j, refl, h)

waits_false : (track : ℕ) (past : List Call) (n : ℕ) (o : Option LiveSubscriber) (p : Option Joined) → Both (IsSubscriberAfter past n) o p
    → ((s : LiveSubscriber) → o ≡ Some s → WaitsOne false track s) → waits_on track n p past ≡ false
waits_false track past n None None h w = refl
waits_false track past n None (Some j) h w = absurd h
waits_false track past n (Some s) None h w = absurd h
waits_false track past n (Some s) (Some j) h w = go (eqb j.track track) refl
  where
    go : (b : Bool) → eqb j.track track ≡ b → (eqb j.track track && has_no_target (standing_of n j past).target) ≡ false
    go true e =
        ap (λ (b : Bool). b && has_no_target (standing_of n j past).target) e
        ∙ sym (w s refl (h.track_is ∙ eqb-true j.track track e) (kind_of j.track past) (subscriber_by j) (events_for n j past) h.follows)
    go false e = ap (λ (b : Bool). b && has_no_target (standing_of n j past).target) e

pub waiting_is : (content : Content) (past : List Call) (track : ℕ) (result : Bool) → IsAfter content past → WaitsIn result track (get nat_eq content.subscribers) → result ≡ has_waiting track past
waiting_is content past track true h (n, s, at, w) =
    let there = some_joined past n s (joined n past) (subst (λ (o : Option LiveSubscriber). Both (IsSubscriberAfter past n) o (joined n past)) at (h.subscribers n)) in
    let j : Joined = there.0 in
    let on : eqb j.track track ≡ true = eq-eqb j.track track (sym there.2.track_is ∙ w.0) in
    let none : has_no_target (standing_of n j past).target ≡ true = sym (w.1 (kind_of j.track past) (subscriber_by j) (events_for n j past) there.2.follows) in
    let one : waits_on track n (joined n past) past ≡ true =
    ap (λ (o : Option Joined). waits_on track n o past) there.1 ∙ ap (λ (b : Bool). b && has_no_target (standing_of n j past).target) on ∙ none in
    sym (any_joined (λ number. waits_on track number (joined number past) past) past n j there.1 one)
waiting_is content past track false h w =
    sym (none_any (λ number. waits_on track number (joined number past) past) (all_subscribers past)
    (λ n. waits_false track past n (get nat_eq content.subscribers n) (joined n past) (h.subscribers n) (λ s at. w n s at)))
