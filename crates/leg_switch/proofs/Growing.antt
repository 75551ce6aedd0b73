-- The forwarded packets are a prefix of the packets forwarded later.
use Rattle.std.proofs.Common.{◌≡◌, ◌+◌, ℕ, Bool, true, false, List, [], ◌∷◌, ◌++◌, sym, ap, ◌∙◌, cond, length, map}
use Rattle.std.proofs.lemmas.List.{append-nil, append_assoc, map-append}
use Rattle.out_ring.specs.Ring.{Pushed, Sent}
use Rattle.out_ring.specs.History.{numbered}
use Rattle.out_ring.proofs.Numbers.{numbered-append}
use Rattle.leg_switch.specs.FrameNumbers.{after_forwarded, numbering, outgoing_renumbered, passed_renumbered, renumbered}
use Rattle.leg_switch.specs.Marks.{Marks}
use Rattle.leg_switch.specs.Switching.{LegEvent, goes_out, outgoing, passed, stamped, standing, timestamp_at}
use Rattle.leg_switch.specs.Switching.LegEvent.{Chose, Took}

abbrev Grows : List Pushed → List Pushed → Type 0
Grows now before = (more : List Pushed) × (now ≡ before ++ more)

one_more : (b : Bool) (before now : List Pushed) (packet : Pushed) → Grows now before → Grows (cond b (now ++ packet ∷ []) now) before
one_more false before now packet h = h
one_more true before now packet h = (h.0 ++ packet ∷ [], ap (λ (l : List Pushed). l ++ packet ∷ []) h.1 ∙ append_assoc before h.0 (packet ∷ []))

pub passed_grows : (marks : Marks) (later events : List LegEvent) → Grows (passed marks (later ++ events)) (passed marks events)
passed_grows marks [] events = ([], sym (append-nil (passed marks events)))
passed_grows marks (Chose leg ∷ later) events = passed_grows marks later events
passed_grows marks (Took leg packet ∷ later) events =
    one_more (goes_out marks (standing marks (later ++ events)) leg packet) (passed marks events) (passed marks (later ++ events))
    (stamped (timestamp_at (standing marks (later ++ events)) leg packet) packet) (passed_grows marks later events)

pub renumbered_grows : (marks : Marks) (id : ℕ) (later events : List LegEvent) → Grows (passed_renumbered marks id (later ++ events)) (passed_renumbered marks id events)
renumbered_grows marks id [] events = ([], sym (append-nil (passed_renumbered marks id events)))
renumbered_grows marks id (Chose leg ∷ later) events = renumbered_grows marks id later events
renumbered_grows marks id (Took leg packet ∷ later) events =
    one_more (goes_out marks (standing marks (later ++ events)) leg packet) (passed_renumbered marks id events) (passed_renumbered marks id (later ++ events))
    (stamped (timestamp_at (standing marks (later ++ events)) leg packet)
    (renumbered id (after_forwarded id (standing marks (later ++ events)).active (numbering marks id (later ++ events)) leg packet).last packet))
    (renumbered_grows marks id later events)

-- the packets with their numbers
sent_grows : (first ssrc : ℕ) (before now : List Pushed) → Grows now before
    → (more : List (List ℕ)) × (map (λ (p : Sent). p.bytes) (numbered first ssrc now) ≡ map (λ (p : Sent). p.bytes) (numbered first ssrc before) ++ more)
sent_grows first ssrc before now g = (
  map (λ (p : Sent). p.bytes) (numbered (first + length before) ssrc g.0),
  ap (λ (l : List Pushed). map (λ (p : Sent). p.bytes) (numbered first ssrc l)) g.1
      ∙ ap (map (λ (p : Sent). p.bytes)) (numbered-append first ssrc before g.0)
      ∙ map-append (λ (p : Sent). p.bytes) (numbered first ssrc before) (numbered (first + length before) ssrc g.0),
)

pub outgoing_grows : (marks : Marks) (first ssrc : ℕ) (later events : List LegEvent)
    → (more : List (List ℕ)) × (outgoing marks first ssrc (later ++ events) ≡ outgoing marks first ssrc events ++ more)
outgoing_grows marks first ssrc later events = sent_grows first ssrc (passed marks events) (passed marks (later ++ events)) (passed_grows marks later events)

pub outgoing_renumbered_grows : (marks : Marks) (id first ssrc : ℕ) (later events : List LegEvent)
    → (more : List (List ℕ)) × (outgoing_renumbered marks id first ssrc (later ++ events) ≡ outgoing_renumbered marks id first ssrc events ++ more)
outgoing_renumbered_grows marks id first ssrc later events =
    sent_grows first ssrc (passed_renumbered marks id events) (passed_renumbered marks id (later ++ events)) (renumbered_grows marks id later events)
