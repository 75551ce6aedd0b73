-- Facts about feeds and takes until a call is refused, and about the calls of every cascade. Own statements.
use Rattle.std.specs.Prelude.{◌≡◌, ◌≤◌, ◌+◌, ℕ, List, None, Some}
use Rattle.sfu_base.specs.declared.call.Kind.TheVariants.{Layered, Plain}
use Rattle.sfu_base.specs.declared.frame.Wish.{Wish}
use Rattle.stream_maker.specs.Stream.{Stream}
use Rattle.strict_receiver.specs.Receivers.{complaint_over}
use Rattle.room_core.specs.Given.{given_to}
use Rattle.room_core.specs.History.{Entry, accepted}
use Rattle.room_core.specs.Live.{Joined, joined, published}
use Rattle.cascade.specs.Calls.{Both, all_fed, all_taken, fed_on, taken_on, wish_for}
use Rattle.cascade.specs.Fed.{IsFed}
use Rattle.cascade.specs.Summary.{cascade_calls}

-- ---- the limits are high enough: a call was refused before, so a greater limit changes nothing

abbrev pub TakesAreEnough : Type 0
TakesAreEnough = (h : List Entry) (n more : ℕ) → taken_on (513 + more) n (accepted h) ≡ all_taken n (accepted h)

abbrev pub FeedsAreEnough : Type 0
FeedsAreEnough = (h1 h2 : List Entry) (s t moment more : ℕ)
    → fed_on (513 + more) s t moment (record { first = accepted h1; second = accepted h2 })
    ≡ all_fed s t moment (record { first = accepted h1; second = accepted h2 })

-- ---- every cascade

abbrev pub joined_as : ℕ → ℕ → Wish → Joined
joined_as track ssrc wish = record { track = track; ssrc = ssrc; first = 0; wish = wish }

-- The tracks are published, and each subscriber has joined with its own values: no call of the opening was refused.
pub record HaveJoined (both : Both) : Type 0 where
  pub source : published 1 both.first ≡ Some (record { kind = Layered 4; ssrc = 0x11111111; hold = 50 })
  pub to_layered : joined 1 both.first ≡ Some (joined_as 1 0x22222222 (wish_for 1 1))
  pub to_plain : joined 2 both.first ≡ Some (joined_as 1 0x22222223 (wish_for 1 1))
  pub layered : published 1 both.second ≡ Some (record { kind = Layered 4; ssrc = 0x22222222; hold = 50 })
  pub plain : published 2 both.second ≡ Some (record { kind = Plain; ssrc = 0x22222223; hold = 50 })
  pub one : joined 1 both.second ≡ Some (joined_as 1 0x33333333 (wish_for 1 1))
  pub two : joined 2 both.second ≡ Some (joined_as 1 0x33333334 (wish_for 0 0))
  pub three : joined 3 both.second ≡ Some (joined_as 2 0x33333335 (wish_for 0 0))

-- A strict receiver has no complaint about the packets that each subscriber of the layered track took.
pub record ArePleased (both : Both) : Type 0 where
  pub one : complaint_over 4 (given_to 1 both.second) ≡ None
  pub two : complaint_over 4 (given_to 2 both.second) ≡ None

pub record HoldsOf (both : Both) : Type 0 where
  pub joined : HaveJoined both
  pub pleased : ArePleased both

abbrev pub CascadesHold : Type 0
CascadesHold = (s : Stream) → HoldsOf (cascade_calls s)

-- Each track of the second room was fed with the packets of its subscriber of the first room, so no packet of a feed was refused.
pub record AreFed (both : Both) : Type 0 where
  pub layered : IsFed both.first 1 (joined_as 1 0x22222222 (wish_for 1 1)) both.second 1 (record { kind = Layered 4; ssrc = 0x22222222; hold = 50 })
  pub plain : IsFed both.first 2 (joined_as 1 0x22222223 (wish_for 1 1)) both.second 2 (record { kind = Plain; ssrc = 0x22222223; hold = 50 })

-- Both tracks are fed, and a strict receiver has no complaint about the packets of the third subscriber, which has the plain track.
pub record FeedsAll (both : Both) : Type 0 where
  pub fed : AreFed both
  pub third : complaint_over 4 (given_to 3 both.second) ≡ None

-- for each stream of at most 1,000,000 frames
abbrev pub CascadesFeed : Type 0
CascadesFeed = (s : Stream) → s.frames ≤ 1000000 → FeedsAll (cascade_calls s)
