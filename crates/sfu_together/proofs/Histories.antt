-- Histories of seats: which seat has which entries.
use Rattle.std.proofs.Common.{◌≡◌, ℕ, zero, suc, ◌+◌, ◌<◌, ◌≤◌, Bool, true, false, cond, eqb, List, [], ◌∷◌, length, map, refl, ap, sym, ◌∙◌, arith, eq-eqb}
use Rattle.std.specs.List.{All}
use Rattle.std.specs.Prelude.{sum_by}
use Rattle.std.proofs.lemmas.List.Elements.{All-cons}
use Rattle.std.proofs.lemmas.List.Sums.{sum_by-cons}
use mathlib.Core.Option.{some, some-injective, some-ne-none}
use mathlib.Core.Logic.{dite}
use native.Mathlib.Decide.{ℕ_discrete}
use lib.ListN.{get_elem?}
use Rattle.sfu_base.specs.declared.call.Call.{Call}
use Rattle.room_core.specs.History.{Entry as RoomEntry}
use Rattle.turn_lock.specs.declared.history.Entry.{Entry}
use Rattle.turn_lock.specs.History.{AllBelow, own_of}
use Rattle.sfu_together.specs.Turns.{entries_of, entry_of}
use Rattle.sfu_together.specs.History.{made_by, own}
use Rattle.sfu_together.specs.Acting.{turn_of}

-- a history with only seat 0 is that seat's own list
pub own_whole : (h : List (Entry Call)) → AllBelow 1 h → own_of 0 h ≡ h
own_whole [] low = refl
own_whole (e ∷ es) low = let k = low.0 in let z : e.seat ≡ 0 = omega arith in ap (λ (b : Bool). cond b (e ∷ own_of 0 es) (own_of 0 es)) (eq-eqb e.seat 0 z) ∙ ap (λ (l : List (Entry Call)). e ∷ l) (own_whole es low.1)

none_tail : (b : Bool) (e : Entry Call) (os : List (Entry Call)) → cond b (e ∷ os) os ≡ [] → os ≡ []
none_tail true e os h = absurd (cc h)
none_tail false e os h = h

not_its : (b : Bool) (e : Entry Call) (os : List (Entry Call)) → b ≡ true → cond b (e ∷ os) os ≡ [] → ⊥
not_its true e os t h = cc h
not_its false e os t h = cc t

-- a history in which no other seat has entries has only those of seat 0
pub only_first : (n : ℕ) (h : List (Entry Call)) → AllBelow n h → ((k : ℕ) → 0 < k → k < n → own_of k h ≡ []) → AllBelow 1 h
only_first n [] low none = tt
only_first n (e ∷ es) low none = (
  dite (ℕ_discrete e.seat 0)
      (λ z. let q : e.seat < 1 = omega arith in q)
      (λ ne. absurd (not_its (eqb e.seat e.seat) e (own_of e.seat es) (eq-eqb e.seat e.seat refl) (none e.seat (omega arith) low.0))),
  only_first n es low.1 (λ k pos lt. none_tail (eqb e.seat k) e (own_of k es) (none k pos lt)),
)

-- if seat 0 has no entry, all entries are of other seats
pub no_first : (n : ℕ) (h : List (Entry Call)) → AllBelow (n + 1) h → own_of 0 h ≡ [] → All (λ e. (0 < e.seat) × (e.seat ≤ n)) (entries_of h)
no_first n [] low none = λ k d lt. absurd (omega arith)
no_first n (e ∷ es) low none =
    let pos : 0 < e.seat = dite (ℕ_discrete e.seat 0)
    (λ z. absurd (not_its (eqb e.seat 0) e (own_of 0 es) (eq-eqb e.seat 0 z) none))
    (λ ne. let q : 0 < e.seat = omega arith in q) in
    All-cons (λ x. (0 < x.seat) × (x.seat ≤ n)) (entry_of e) (entries_of es) (pos, let q = low.0 in omega arith) (no_first n es low.1 (none_tail (eqb e.seat 0) e (own_of 0 es) none))

-- ---- the same as entries of the room's history

cond_entries : (b : Bool) (e : Entry Call) (xs : List (Entry Call)) → cond b (entry_of e ∷ entries_of xs) (entries_of xs) ≡ entries_of (cond b (e ∷ xs) xs)
cond_entries true e xs = refl
cond_entries false e xs = refl

pub own_entries : (n : ℕ) (h : List (Entry Call)) → own n (entries_of h) ≡ entries_of (own_of n h)
own_entries n [] = refl
own_entries n (e ∷ es) = ap (λ (l : List RoomEntry). cond (eqb e.seat n) (entry_of e ∷ l) l) (own_entries n es) ∙ cond_entries (eqb e.seat n) e (own_of n es)

pub made_entries : (n : ℕ) (calls : List Call) → entries_of (map (turn_of n) calls) ≡ map (made_by n) calls
made_entries n [] = refl
made_entries n (c ∷ cs) = ap (λ (l : List RoomEntry). made_by n c ∷ l) (made_entries n cs)

-- a list is no longer than all lists together
pub no_longer : (lists : List (List Call)) (i : ℕ) (calls : List Call) → get_elem? lists i ≡ some calls → length calls ≤ sum_by length lists
no_longer [] i calls e = absurd (some-ne-none calls (sym e))
no_longer (l ∷ ls) zero calls e = let k : length l ≡ length calls = ap length (some-injective l calls e) in let s = sum_by-cons length l ls in omega arith
no_longer (l ∷ ls) (suc i) calls e = let k = no_longer ls i calls e in let s = sum_by-cons length l ls in omega arith
