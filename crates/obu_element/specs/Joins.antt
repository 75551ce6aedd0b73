-- How elements continue from packet to packet (RTP Payload Format For AV1, section 4.4). Lists of
-- packets have the oldest first. The code stores the last Y.
use Rattle.std.specs.Prelude.{◌≡◌, Bool, false, List, [], ◌∷◌, ◌++◌}

-- Z: the packet's first element continues the last element of the previous packet. Y: its last element continues in the next packet.
pub record Flags : Type 0 where
  pub continues : Bool
  pub carries : Bool

-- no element is unfinished before the first packet, and each packet has Z set exactly if the previous packet has Y set
pub record AreJoined (packets : List Flags) : Type 0 where
  pub first : (p : Flags) (more : List Flags) → packets ≡ p ∷ more → p.continues ≡ false
  pub next : (front more : List Flags) (p q : Flags) → packets ≡ front ++ p ∷ q ∷ more → q.continues ≡ p.carries

-- whether the last packet's last element is unfinished; false before the first packet
pub record EndsWith (carries : Bool) (packets : List Flags) : Type 0 where
  pub none : packets ≡ [] → carries ≡ false
  pub last : (front : List Flags) (p : Flags) → packets ≡ front ++ p ∷ [] → p.carries ≡ carries

-- the elements of these packets join, and the flag says whether an element is unfinished after them
pub record IsAfter (carries : Bool) (packets : List Flags) : Type 0 where
  pub joined : AreJoined packets
  pub last : EndsWith carries packets

-- the elements of these packets join, and none is unfinished at the end
pub record Join (packets : List Flags) : Type 0 where
  pub joined : AreJoined packets
  pub closed : EndsWith false packets
