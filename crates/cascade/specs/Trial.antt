-- The command `trial`: a generated stream is sent through a room to three subscribers, each with its own strict receiver. Own rule.
-- The code has a room and three receivers. The definitions have the calls, and the packets taken, which follow from the calls.
use Rattle.std.specs.Prelude.{◌≡◌, ◌⊎◌, ◌+◌, ℕ, zero, suc, fold, List, [], ◌∷◌, ◌++◌, length, Option, Some, None}
use Rattle.std.specs.Io.KnownBytes.{Appends}
use Rattle.sfu_base.specs.Faults.{Rose}
use Rattle.sfu_base.specs.declared.call.Call.{Call}
use Rattle.sfu_base.specs.declared.call.Call.TheVariants as call
use Rattle.sfu_base.specs.declared.call.Kind.TheVariants.{Layered}
use Rattle.sfu_base.specs.declared.frame.Wish.{Wish}
use Rattle.forwarding_model.specs.forwarding.Outgoing.{queue}
use Rattle.room_core.specs.Given.{given_to}
use Rattle.room_core.specs.Live.{Joined, joined, kind_of, published}
use Rattle.room_core.specs.Sent.{sent}
use Rattle.room_core.specs.SentBytes.{taken_bytes}
use Rattle.room_core.specs.Views.{events_for, subscriber_by}
use Rattle.stream_maker.specs.declared.counts.Counts.{Counts}
use Rattle.stream_maker.specs.declared.event.Event.{Event}
use Rattle.stream_maker.specs.declared.event.Event.TheVariants as event
use Rattle.stream_maker.specs.declared.place.Place.{Place}
use Rattle.stream_maker.specs.Bytes.{packet_bytes}
use Rattle.stream_maker.specs.Stream.{Stream, events}
use Rattle.stream_maker.specs.Summary.{made, made_text}
use Rattle.stream_maker.specs.Turn.{Given}
use Rattle.strict_receiver.specs.Receivers.{complaint_over}
use Rattle.cascade.specs.Calls.{and_call, wish_for}
use Rattle.cascade.specs.Summary.{subscriber_text}
use Rattle.sfu_driver.specs.Drive.{WritesPart}
use Rattle.sfu_driver.specs.Statuses.{FirstFault}

-- ---- calls; in lists of accepted calls the newest call comes first

-- Before the stream there is a layered track, whose descriptors have id 4 and whose hold is 50 milliseconds. One
-- subscriber wishes for all layers, one for only the lower temporal layer, and one for only the lower layers.
abbrev pub opening : List Call
opening =
    call.Publish 1 (Layered 4) 0x11111111 50
    ∷ call.Join 1 1 0x22222222 0 (wish_for 1 1)
    ∷ call.Join 2 1 0x22222223 0 (wish_for 1 0)
    ∷ call.Join 3 1 0x22222224 0 (wish_for 0 0)
    ∷ []

abbrev pub opened : List Call
opened = fold and_call [] opening

-- the number of packets queued for a subscriber that joined as j
abbrev pub queued_by : ℕ → Option Joined → List Call → ℕ
queued_by n None past = 0
queued_by n (Some j) past = length (queue (sent (kind_of j.track past)) (subscriber_by j) (events_for n j past))

unfoldable pub queued_for : ℕ → List Call → ℕ
queued_for n past = queued_by n (joined n past) past

-- `count` takes of a subscriber, one after another
unfoldable pub takes : ℕ → ℕ → List Call → List Call
takes zero n past = past
takes (suc count) n past = and_call (takes count n past) (call.Take n)

-- a subscriber takes all its queued packets, and then once more from the empty queue
unfoldable pub after_takes : ℕ → List Call → List Call
after_takes n past = takes (queued_for n past + 1) n past

-- The calls after an event of the stream. A packet is fed to the track. A tick is followed by takes of each subscriber until its queue is empty.
unfoldable pub after_event : List Call → Event → Option Place → List Call
after_event past (event.Packet moment) None = past
after_event past (event.Packet moment) (Some p) = and_call past (call.Packet 1 moment (packet_bytes p))
after_event past (event.Tick moment) place = after_takes 3 (after_takes 2 (after_takes 1 (and_call past (call.Tick 1 moment))))
after_event past event.End place = past

abbrev pub after_given : List Call → Given → List Call
after_given past given = after_event past given.event given.place

-- all accepted calls of a trial
unfoldable pub trial_calls : Stream → List Call
trial_calls s = fold after_given opened (events s)

-- ---- packets that were taken

abbrev pub taken_by : ℕ → Option Joined → List Call → List (List ℕ)
taken_by n None past = []
taken_by n (Some j) past = taken_bytes (kind_of j.track past) (subscriber_by j) (events_for n j past)

-- the bytes of the packets that a subscriber took, the oldest first
unfoldable pub received : ℕ → List Call → List (List ℕ)
received n past = taken_by n (joined n past) past

abbrev pub joined_as : ℕ → Wish → Joined
joined_as ssrc wish = record { track = 1; ssrc = ssrc; first = 0; wish = wish }

-- The track is published, and each subscriber has joined it with its own values: no call of the opening was refused.
pub record HaveJoined (past : List Call) : Type 0 where
  pub track : published 1 past ≡ Some (record { kind = Layered 4; ssrc = 0x11111111; hold = 50 })
  pub first : joined 1 past ≡ Some (joined_as 0x22222222 (wish_for 1 1))
  pub second : joined 2 past ≡ Some (joined_as 0x22222223 (wish_for 1 0))
  pub third : joined 3 past ≡ Some (joined_as 0x22222224 (wish_for 0 0))

-- The packets that each subscriber took are those that its takes returned, in the same order.
pub record AreGiven (past : List Call) : Type 0 where
  pub first : received 1 past ≡ given_to 1 past
  pub second : received 2 past ≡ given_to 2 past
  pub third : received 3 past ≡ given_to 3 past

-- A strict receiver has no complaint about the packets that each subscriber took.
pub record ArePleased (past : List Call) : Type 0 where
  pub first : complaint_over 4 (received 1 past) ≡ None
  pub second : complaint_over 4 (received 2 past) ≡ None
  pub third : complaint_over 4 (received 3 past) ≡ None

-- ---- the summary

unfoldable pub summary_of : Counts → List Call → List ℕ
summary_of counts past =
    made_text counts ++ (subscriber_text 1 (received 1 past) ++ (subscriber_text 2 (received 2 past) ++ subscriber_text 3 (received 3 past)))

unfoldable pub trial_text : Stream → List ℕ
trial_text s = summary_of (made s) (trial_calls s)

-- ---- statuses

-- The summary was written; or the sink failed before all of it was written; or memory ran out, and nothing was written.
pub record ShowsTrial (s : Stream) (written written' : Option (List ℕ)) (writes writes' status : ℕ) : Type 0 where
  pub done : status ≡ 0 → Appends written written' (trial_text s)
  pub sink : status ≡ 4 → Rose writes writes'
  pub unwritten : status ≡ 4 → WritesPart written written' (trial_text s)
  pub memory : status ≡ 6 → Appends written written' []
  pub only : (status ≡ 0) ⊎ (status ≡ 4) ⊎ (status ≡ 6)
  pub first_fault : FirstFault 0 0 writes writes' status
  pub joined : HaveJoined (trial_calls s)
  pub given : AreGiven (trial_calls s)
  pub pleased : ArePleased (trial_calls s)

-- `trial`: nothing is read.
pub record Tries {S : Type 0} (source source' : S) (s : Stream) (written written' : Option (List ℕ)) (writes writes' status : ℕ) : Type 0 where
  pub unread : source' ≡ source
  pub shows : ShowsTrial s written written' writes writes' status
