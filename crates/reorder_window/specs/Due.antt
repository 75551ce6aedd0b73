-- When a tick gives up a gap.
use Rattle.std.specs.Prelude.{ℕ, ◌+◌, ◌<◌, ◌≤◌, ◌^◌, ◌↔◌, max, if◌then◌else◌, nat_lt, List, [], ◌∷◌, Option, None, Some}
use Rattle.reorder_window.specs.Events.{Event, Held}
use Rattle.reorder_window.specs.Order.{Order, order_of, ticked, next_ticked}

-- the moment of the lowest of packets in ascending order
abbrev pub lowest_moment : List Held → Option ℕ
lowest_moment [] = None
lowest_moment (h ∷ rest) = Some h.moment

-- the lowest buffered packet's moment plus the hold time, if there is a packet and the sum is below 2^64
abbrev pub due_after : ℕ → Option ℕ → Option ℕ
due_after hold None = None
due_after hold (Some moment) = if nat_lt (moment + hold) (2 ^ 64) then Some (moment + hold) else None

-- The earliest moment at which a tick gives up a gap: the moment of the lowest buffered packet plus the hold time. Own rule.
abbrev pub due_of : ℕ → Order → Option ℕ
due_of hold order = due_after hold (lowest_moment order.held)

-- there is a due moment, and `moment` has reached it
abbrev pub IsReached : Option ℕ → ℕ → Type 0
IsReached None moment = ⊥
IsReached (Some due) moment = due ≤ moment

-- After any list of events, a tick raises `next` exactly if the track's moment after the tick has reached the due moment. The track's moment is below 2^64.
abbrev pub GivesTheTick : Type 0
GivesTheTick = (hold : ℕ) (past : List Event) (moment : ℕ) → max (order_of hold past).moment moment < 2 ^ 64
    → ((order_of hold past).next < next_ticked hold (ticked (order_of hold past) moment))
    ↔ IsReached (due_of hold (order_of hold past)) (max (order_of hold past).moment moment)
