-- The packets of a track's events are packets that it accepts, and so are those of the pieces of its order. There are no more pieces than numbers.
use Rattle.std.proofs.Common.{◌≡◌, ℕ, zero, suc, ◌+◌, ◌-◌, ◌≤◌, Bool, true, false, cond, nat_lt, nat_le, List, [], ◌∷◌, ◌++◌, length, refl, ap, arith, length-append}
use Rattle.std.specs.Prelude.{Option, None, Some, Result, Ok, Err, filter}
use Rattle.std.specs.List.{AllByRecursion}
use Rattle.std.proofs.lemmas.Bool.{ltb-true}
use Rattle.reorder_window.specs.declared.arrival.Arrival.{Arrival}
use Rattle.reorder_window.specs.Events.{Event, Arrives, Ticks, Held, Got, Gone}
use Rattle.reorder_window.specs.Items.{below, counted, gap, named, numbers, pieces}
use Rattle.reorder_window.specs.Laws.{first_number, numbers_from}
use Rattle.reorder_window.specs.Order.{Order, added, after, arrived, arrived_pieces, holding, insert, items_of as order_items, judged_sequence, next_holding, next_ticked, order_of, packet_of as held_of, ticked}
use Rattle.reorder_window.proofs.Once.{each_once}
use Rattle.reorder_window.proofs.Pieces.{named-append}
use Rattle.track_core.specs.Pieces.{IsTaken, IsTakenIn, IsTakenPiece}

-- ---- lists

pub all_append : {A : Type 0} (P : A → Type 0) (xs ys : List A) → AllByRecursion P xs → AllByRecursion P ys → AllByRecursion P (xs ++ ys)
all_append P [] ys a b = b
all_append P (x ∷ xs) ys a b = (a.0, all_append P xs ys a.1 b)

pub all_behind : {A : Type 0} (P : A → Type 0) (xs ys : List A) → AllByRecursion P (xs ++ ys) → AllByRecursion P ys
all_behind P [] ys a = a
all_behind P (x ∷ xs) ys a = all_behind P xs ys a.1

pub all_front : {A : Type 0} (P : A → Type 0) (xs ys : List A) → AllByRecursion P (xs ++ ys) → AllByRecursion P xs
all_front P [] ys all = tt
all_front P (x ∷ xs) ys all = (all.0, all_front P xs ys all.1)

pub all_filter : {A : Type 0} (P : A → Type 0) (test : A → Bool) (xs : List A) → AllByRecursion P xs → AllByRecursion P (filter test xs)
all_filter P test [] a = tt
all_filter P test (x ∷ xs) a = go (all_filter P test xs a.1) (test x)
  where
    go : AllByRecursion P (filter test xs) → (b : Bool) → AllByRecursion P (cond b (x ∷ filter test xs) (filter test xs))
    go rest true = (a.0, rest)
    go rest false = rest

-- ---- held packets and pieces

abbrev HeldTaken : List Held → Type 0
HeldTaken held = AllByRecursion (λ h. IsTaken h.bytes) held

pub insert_all : (P : Held → Type 0) (h : Held) (held : List Held) → P h → AllByRecursion P held → AllByRecursion P (insert h held)
insert_all P h [] one all = (one, tt)
insert_all P h (other ∷ rest) one all = go (insert_all P h rest one all.1) (nat_lt h.number other.number)
  where
    go : AllByRecursion P (insert h rest) → (b : Bool) → AllByRecursion P (cond b (h ∷ other ∷ rest) (other ∷ insert h rest))
    go later true = (one, (all.0, all.1))
    go later false = (all.0, later)

gap_taken : (from end : ℕ) → AllByRecursion IsTakenPiece (gap from end)
gap_taken from end = go (nat_lt from end)
  where
    go : (b : Bool) → AllByRecursion IsTakenPiece (cond b (Gone from (end - 1) ∷ []) [])
    go true = (tt, tt)
    go false = tt

pieces_taken : (from end : ℕ) (held : List Held) → HeldTaken held → AllByRecursion IsTakenPiece (pieces from held end)
pieces_taken from end [] all = gap_taken from end
pieces_taken from end (h ∷ rest) all =
    all_append IsTakenPiece (gap from h.number) (Got h ∷ pieces (h.number + 1) rest end) (gap_taken from h.number) (all.0, pieces_taken (h.number + 1) end rest all.1)

-- ---- events

record IsTakenOrder (hold : ℕ) (events : List Event) : Type 0 where
  held : HeldTaken (order_of hold events).held
  items : AllByRecursion IsTakenPiece (order_items hold events)

one_more : (hold : ℕ) (order : Order) (event : Event) → HeldTaken order.held → IsTakenIn event → HeldTaken (after hold order event).held × AllByRecursion IsTakenPiece (added hold order event)
one_more hold order (Ticks moment) held one =
    let now = ticked order moment in
    let to = next_ticked hold now in (
      all_filter (λ (h : Held). IsTaken h.bytes) (λ (h : Held). nat_le to h.number) order.held held,
      pieces_taken now.next to (below to order.held) (all_filter (λ (h : Held). IsTaken h.bytes) (λ (h : Held). nat_lt h.number to) order.held held),
    )
one_more hold order (Arrives sequence moment bytes) held one = go (judged_sequence order sequence)
  where
    go : (r : Result ℕ Arrival) → HeldTaken (arrived order r moment bytes).held × AllByRecursion IsTakenPiece (arrived_pieces order r moment bytes)
    go (Err why) = (held, tt)
    go (Ok n) =
        let now = holding order (held_of order n moment bytes) in
        let to = next_holding now n in
        let all = insert_all (λ h. IsTaken h.bytes) (held_of order n moment bytes) order.held one held in (
          all_filter (λ (h : Held). IsTaken h.bytes) (λ (h : Held). nat_le to h.number) now.held all,
          pieces_taken now.next to (below to now.held) (all_filter (λ (h : Held). IsTaken h.bytes) (λ (h : Held). nat_lt h.number to) now.held all),
        )

order_taken : (hold : ℕ) (events : List Event) → AllByRecursion IsTakenIn events → IsTakenOrder hold events
order_taken hold [] all = record { held = tt; items = tt }
order_taken hold (event ∷ past) all =
    let before = order_taken hold past all.1 in
    let now = one_more hold (order_of hold past) event before.held all.0 in
    record { held = now.0; items = all_append IsTakenPiece (order_items hold past) (added hold (order_of hold past) event) before.items now.1 }

pub items_taken : (hold : ℕ) (events : List Event) → AllByRecursion IsTakenIn events → AllByRecursion IsTakenPiece (order_items hold events)
items_taken hold events all = (order_taken hold events all).items

-- ---- how many pieces there are

pub length-counted : (n k : ℕ) → length (counted n k) ≡ k
length-counted n zero = refl
length-counted n (suc k) = ap suc (length-counted (n + 1) k)

gap_long : (from end : ℕ) → length (gap from end) ≤ length (named (gap from end))
gap_long from end = go (nat_lt from end) refl
  where
    go : (b : Bool) → nat_lt from end ≡ b → length (cond b (Gone from (end - 1) ∷ []) []) ≤ length (named (cond b (Gone from (end - 1) ∷ []) []))
    go true e = omega (arith, ltb-true from end e, length-append (numbers from (end - 1 + 1)) [], length-counted from (end - 1 + 1 - from))
    go false e = omega arith

pieces_long : (from end : ℕ) (held : List Held) → length (pieces from held end) ≤ length (named (pieces from held end))
pieces_long from end [] = gap_long from end
pieces_long from end (h ∷ rest) =
    let a = gap_long from h.number in
    let b = pieces_long (h.number + 1) end rest in
    let c = length-append (gap from h.number) (Got h ∷ pieces (h.number + 1) rest end) in
    let d = ap length (named-append (gap from h.number) (Got h ∷ pieces (h.number + 1) rest end)) in
    let e = length-append (named (gap from h.number)) (h.number ∷ named (pieces (h.number + 1) rest end)) in
    omega (arith, a, b, c, d, e)

added_long : (hold : ℕ) (order : Order) (event : Event) → length (added hold order event) ≤ length (named (added hold order event))
added_long hold order (Ticks moment) = (let now = ticked order moment in pieces_long now.next (next_ticked hold now) (below (next_ticked hold now) now.held))
added_long hold order (Arrives sequence moment bytes) = go (judged_sequence order sequence)
  where
    go : (r : Result ℕ Arrival) → length (arrived_pieces order r moment bytes) ≤ length (named (arrived_pieces order r moment bytes))
    go (Err why) = omega arith
    go (Ok n) = (let now = holding order (held_of order n moment bytes) in pieces_long now.next (next_holding now n) (below (next_holding now n) now.held))

items_long : (hold : ℕ) (events : List Event) → length (order_items hold events) ≤ length (named (order_items hold events))
items_long hold [] = omega arith
items_long hold (event ∷ past) =
    let a = items_long hold past in
    let b = added_long hold (order_of hold past) event in
    let c = length-append (order_items hold past) (added hold (order_of hold past) event) in
    let d = ap length (named-append (order_items hold past) (added hold (order_of hold past) event)) in
    let e = length-append (named (order_items hold past)) (named (added hold (order_of hold past) event)) in
    omega (arith, a, b, c, d, e)

pub numbers_few : (first : Option ℕ) (end : ℕ) → length (numbers_from first end) ≤ end
numbers_few None end = omega arith
numbers_few (Some first) end = omega (arith, length-counted first (end - first))

-- there are no more pieces than numbers below the next one
pub few_pieces : (hold : ℕ) (events : List Event) → length (order_items hold events) ≤ (order_of hold events).next
few_pieces hold events =
    let a = items_long hold events in
    let b = ap length (each_once.each_once hold events) in
    let c = numbers_few (first_number hold events) (order_of hold events).next in
    omega (arith, a, b, c)
