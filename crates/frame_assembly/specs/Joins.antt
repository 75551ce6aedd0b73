-- The parts of a frame join exactly when their packets do by their flags (RTP Payload Format For AV1, section 4.4).
use Rattle.std.specs.Prelude.{◌↔◌, false, List, map}
use Rattle.obu_element.specs.Joins.{Flags, AreJoined, Join as PacketsJoin}
use Rattle.forwarding_model.specs.frames.Cuts.{Part, Join, JoinSoFar}

-- Z and Y of a part
abbrev pub flags_of : {X : Type 0} → Part X → Flags
flags_of part = record { continues = part.continues; carries = part.carries }

abbrev pub PartsJoinAsPackets : Type 0 → Type 0
PartsJoinAsPackets X = (parts : List (Part X)) → Join false parts ↔ PacketsJoin (map flags_of parts)

-- the same if an element may be open at the end
abbrev pub PartsJoinSoFarAsPackets : Type 0 → Type 0
PartsJoinSoFarAsPackets X = (parts : List (Part X)) → JoinSoFar false parts ↔ AreJoined (map flags_of parts)
