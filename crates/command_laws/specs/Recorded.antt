-- The end of `record` for packets that a subscriber took. Own statements. A strict receiver has no complaint about the packets sent
-- to a subscriber of a layered track. So a recorder with the track's extension id has none either, and `record` doesn't end with 8.
use Rattle.std.specs.Prelude.{◌≡◌, ℕ, List, ◌++◌, Some}
use Rattle.sfu_base.specs.declared.call.Kind.TheVariants.{Layered}
use Rattle.room_core.specs.History.{Entry, accepted}
use Rattle.room_core.specs.Live.{Joined, joined, kind_of}
use Rattle.room_core.specs.SentBytes.{going_out}
use Rattle.room_core.specs.WellFormed.{AreWellFormed}
use Rattle.sfu_driver.specs.declared.halt.Ending.TheVariants as ending
use Rattle.sfu_driver.specs.Exchange.{Exchange}
use Rattle.sfu_driver.specs.Outcome.{End}
use Rattle.sfu_commands.specs.Check.{bytes_in}
use Rattle.sfu_commands.specs.PacketScript.{PacketScript, packets_in}
use Rattle.sfu_commands.specs.Record.{Records, record_end}

-- In a history that a room may represent, these packets are a prefix of the packets sent to a live subscriber
-- of a layered track with this extension id. The packets that the subscriber took are such a prefix.
pub record IsSentTo (id : ℕ) (sends : List (List ℕ)) : Type 0 where
  pub history : List Entry
  pub well_formed : AreWellFormed (accepted history)
  pub subscriber : ℕ
  pub joined_is : Joined
  pub live : joined subscriber (accepted history) ≡ Some joined_is
  pub kind_is : kind_of joined_is.track (accepted history) ≡ Layered id
  pub queued : List (List ℕ)
  pub begins : sends ++ queued ≡ going_out subscriber joined_is (accepted history)

-- For lines with such packets, `record` never ends with a complaint.
abbrev pub TakenPacketsArentComplainedOf : Type 0
TakenPacketsArentComplainedOf = (id : ℕ) (script : PacketScript) → IsSentTo id (bytes_in script.packets) → (end : End) → record_end id script ≡ Some end
    → end.why ≡ ending.Complaint → ⊥

-- For such packets `record` can't end with status 8.
abbrev pub TakenPacketsDontEndWith8 : Type 0
TakenPacketsDontEndWith8 = (id : ℕ) (bytes : List ℕ) → IsSentTo id (bytes_in (packets_in bytes).packets) → (x : Exchange) → x.left ≡ Some bytes → Records id x 8 → ⊥
