-- The stored entries of a seat's turns, while the history grows.
use Rattle.std.proofs.Common.{◌≡◌, ℕ, ◌+◌, Bool, true, false, cond, eqb, List, [], ◌∷◌, ◌++◌, length, map, refl, ap, sym, ◌∙◌, arith, append-nil, append_assoc, eq-eqb, length-append}
use Rattle.std.proofs.lemmas.List.{append_cancel_right, map-append}
use mathlib.Core.List.{IsPrefix}
use Rattle.sfu_base.specs.declared.call.Call.{Call}
use Rattle.script_texts.specs.declared.journal.Entry as journal
use Rattle.room_core.specs.History.{Entry as RoomEntry}
use Rattle.turn_lock.specs.declared.history.Entry.{Entry}
use Rattle.turn_lock.specs.History.{AllBelow, own_of}
use Rattle.turn_lock.proofs.Histories.{own_append, own_here}
use Rattle.sfu_together.specs.Turns.{entries_of, entry_of}
use Rattle.port_config.specs.declared.actors.turns.Placed.{Placed}
use Rattle.sfu_together.specs.History.{journal_from, journal_entry_of}
use Rattle.port_config.proofs.Sorting.{AreBelow}
use Rattle.sfu_together.specs.Acting.{placed, placed_at, placed_from}
use Rattle.port_config.specs.actors.Places.{AtPlaces, mine}

pushed : (b : Bool) (p : Placed) (xs ys : List Placed) → cond b (p ∷ xs ++ ys) (xs ++ ys) ≡ cond b (p ∷ xs) xs ++ ys
pushed true p xs ys = refl
pushed false p xs ys = refl

pub mine_append : (n : ℕ) (xs ys : List Placed) → mine n (xs ++ ys) ≡ mine n xs ++ mine n ys
mine_append n [] ys = refl
mine_append n (x ∷ xs) ys = ap (λ (l : List Placed). cond (eqb x.entry.actor n) (x ∷ l) l) (mine_append n xs ys) ∙ pushed (eqb x.entry.actor n) x (mine n xs) (mine n ys)

pub placed_append : (past xs ys : List (Entry Call)) → placed_from past (xs ++ ys) ≡ placed_from past xs ++ placed_from (past ++ xs) ys
placed_append past [] ys = ap (λ (l : List (Entry Call)). placed_from l ys) (sym (append-nil past))
placed_append past (x ∷ xs) ys =
    ap (λ (l : List Placed). placed_at past x ∷ l) (placed_append (past ++ x ∷ []) xs ys ∙ ap (λ (l : List (Entry Call)). placed_from (past ++ x ∷ []) xs ++ placed_from l ys) (append_assoc past (x ∷ []) xs))

none_if : (b : Bool) (p : Placed) (e : Entry Call) (xs : List Placed) (os : List (Entry Call)) → cond b (e ∷ os) os ≡ [] → (os ≡ [] → xs ≡ []) → cond b (p ∷ xs) xs ≡ []
none_if true p e xs os h f = absurd (cc h)
none_if false p e xs os h f = f h

-- if a seat has no entry, nothing is stored for it
pub mine_none : (past : List (Entry Call)) (n : ℕ) (h : List (Entry Call)) → own_of n h ≡ [] → mine n (placed_from past h) ≡ []
mine_none past n [] e = refl
mine_none past n (x ∷ h) e = none_if (eqb x.seat n) (placed_at past x) x (mine n (placed_from (past ++ x ∷ []) h)) (own_of n h) e (mine_none (past ++ x ∷ []) n h)

pub nothing : {A : Type 0} (o b : List A) → o ++ b ≡ o → b ≡ []
nothing [] b e = e
nothing (x ∷ o) b e = nothing o b (cc e)

-- the entries stored for a seat are unchanged by the others' turns
pub mine_same : (n : ℕ) (a b : List (Entry Call)) → IsPrefix a b → own_of n b ≡ own_of n a → mine n (placed b) ≡ mine n (placed a)
mine_same n a b pre same =
    let rest : own_of n pre.0 ≡ [] = nothing (own_of n a) (own_of n pre.0) (sym (own_append n a pre.0) ∙ (ap (own_of n) pre.1 ∙ same)) in
    ap (λ (l : List (Entry Call)). mine n (placed l)) (sym pre.1)
    ∙ (ap (mine n) (placed_append [] a pre.0) ∙ (mine_append n (placed a) (placed_from a pre.0) ∙ (ap (λ (l : List Placed). mine n (placed a) ++ l) (mine_none a n pre.0 rest) ∙ append-nil (mine n (placed a)))))

-- a turn adds an entry to those stored for a seat
pub mine_turn : (n : ℕ) (seen h seen' : List (Entry Call)) (e : Entry Call) (own : List (Entry Call)) → IsPrefix seen h → seen' ≡ h ++ e ∷ [] → e.seat ≡ n → own_of n seen ≡ own → own_of n seen' ≡ own ++ e ∷ []
    → mine n (placed seen') ≡ mine n (placed seen) ++ placed_at h e ∷ []
mine_turn n seen h seen' e own pre is by had has =
    let split : own_of n h ++ e ∷ [] ≡ own ++ e ∷ [] = ap (λ (l : List (Entry Call)). own_of n h ++ l) (sym (own_here n e by)) ∙ (sym (own_append n h (e ∷ [])) ∙ (ap (own_of n) (sym is) ∙ has)) in
    let before : own_of n h ≡ own_of n seen = append_cancel_right (own_of n h) own (e ∷ []) split ∙ sym had in
    let last : mine n (placed_at h e ∷ []) ≡ placed_at h e ∷ [] = ap (λ (b : Bool). cond b (placed_at h e ∷ []) []) (eq-eqb e.seat n by) in
    ap (λ (l : List (Entry Call)). mine n (placed l)) is
    ∙ (ap (mine n) (placed_append [] h (e ∷ [])) ∙ (mine_append n (placed h) (placed_at h e ∷ []) ∙ (λ i. mine_same n seen h pre before i ++ last i)))

-- ---- the journal

pub journal_placed : (past h : List (Entry Call)) → map (λ p. p.entry) (placed_from past h) ≡ journal_from (entries_of past) (entries_of h)
journal_placed past [] = refl
journal_placed past (e ∷ h) =
    ap (λ (l : List journal.Entry). journal_entry_of (entries_of past) e.seat e.call ∷ l) (journal_placed (past ++ e ∷ []) h ∙ ap (λ (l : List RoomEntry). journal_from l (entries_of h)) (map-append entry_of past (e ∷ [])))

-- ---- places

at_places : (past h : List (Entry Call)) (n : ℕ) → length past ≡ n → AtPlaces n (placed_from past h)
at_places past [] n is = tt
at_places past (e ∷ h) n is = (is, at_places (past ++ e ∷ []) h (n + 1) (let k = length-append past (e ∷ []) in omega arith))

-- the places of a history's turns count up from 0
pub all_at_places : (h : List (Entry Call)) → AtPlaces 0 (placed h)
all_at_places h = at_places [] h 0 refl

pub placed_below : (past h : List (Entry Call)) → AllBelow 9 h → AreBelow 9 (placed_from past h)
placed_below past [] low = tt
placed_below past (e ∷ h) low = (low.0, placed_below (past ++ e ∷ []) h low.1)
