-- The events of a packet's turn, by its fate and by the packet that waits to be sent (own rule).
use Rattle.std.specs.Prelude.{ℕ, if◌then◌else◌, List, [], ◌∷◌, ◌++◌, map, Option, Some, None}
use Rattle.std.specs.Option.{option_to_list}
use Rattle.stream_maker.specs.declared.place.Place.{Place}
use Rattle.stream_maker.specs.declared.counts.Counts.{Counts}
use Rattle.stream_maker.specs.declared.event.Event.{Event}
use Rattle.stream_maker.specs.declared.event.Event.TheVariants.{Packet, Tick}
use Rattle.stream_maker.specs.declared.fate.Fate.{Fate}
use Rattle.stream_maker.specs.declared.fate.Fate.TheVariants.{Lost, Twice, Held, Once}
use Rattle.stream_maker.specs.Packets.{moment_of}
use Rattle.stream_maker.specs.Order.{ends_stream, tick_due}

-- an event, the packet that it sends, and the counts of what was made by then
pub record Given : Type 0 where
  pub event : Event
  pub place : Option Place
  pub counts : Counts

-- A packet is sent once or twice, and directly after it the packet that is held back. A lost packet
-- sends nothing. Nor does a packet that is held back; this happens only if no other packet is.
abbrev pub sent : Fate → Option Place → Place → List Place
sent Lost waiting p = []
sent Twice waiting p = p ∷ p ∷ option_to_list waiting
sent Once waiting p = p ∷ option_to_list waiting
sent Held None p = []
sent Held (Some q) p = p ∷ q ∷ []

-- a packet is sent with the moment of its own unit
abbrev pub sent_event : Counts → Place → Given
sent_event counts p = record { event = Packet (moment_of p.frame); place = Some p; counts = counts }

abbrev pub tick_event : Counts → ℕ → Given
tick_event counts moment = record { event = Tick moment; place = None; counts = counts }

-- the events of p's turn; at the end of the stream also the packet that is still held back; then the tick of a unit that ends
unfoldable pub turn : ℕ → Fate → Option Place → Option Place → Counts → Place → List Given
turn frames fate waiting waits_then counts p =
    map (sent_event counts) (sent fate waiting p ++ (if ends_stream frames p then option_to_list waits_then else []))
    ++ map (tick_event counts) (option_to_list (tick_due frames p))
