-- Facts about each call that a room accepted, without a history: a packet is valid RTP, and an SSRC has 32 bits.
use Rattle.std.specs.Prelude.{◌≡◌, ◌<◌, ◌^◌, List, None}
use Rattle.std.specs.List.{AllByRecursion}
use Rattle.sfu_base.specs.declared.call.Call.{Call}
use Rattle.sfu_base.specs.declared.call.Call.TheVariants.{Join, Packet}
use Rattle.rtp_packet.specs.Faults.{first_fault}

abbrev pub IsWellFormed : Call → Type 0
IsWellFormed (Packet track moment bytes) = first_fault bytes ≡ None
IsWellFormed (Join subscriber track ssrc first wish) = ssrc < 2 ^ 32
IsWellFormed other = Unit {0}

abbrev pub AreWellFormed : List Call → Type 0
AreWellFormed calls = AllByRecursion IsWellFormed calls

-- a fact about each call that the code can receive
abbrev pub IsValue : Call → Type 0
IsValue (Join subscriber track ssrc first wish) = ssrc < 2 ^ 32
IsValue other = Unit {0}
