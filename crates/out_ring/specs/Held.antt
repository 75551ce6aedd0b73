-- The values that the fields of the heads, of the slots and of a ring represent.
use Rattle.std.specs.Prelude.{◌≡◌, ◌≤◌, ◌<◌, ◌+◌, ◌-◌, ◌++◌, ℕ, List, length, map, take, drop}
use Rattle.std.specs.Vec.{vec_capacity}
use Rattle.out_ring.specs.declared.heads.Head.{Head}
use Rattle.out_ring.specs.declared.heads.Heads.TheInside as heads
use Rattle.out_ring.specs.declared.ring.OutRing.TheInside.{Inside}
use Rattle.out_ring.specs.Ring.{Pushed, Ring}
use Rattle.out_ring.specs.History.{numbered}
use Rattle.out_ring.specs.Slots.{AreHeld, packets_of, padded}

-- the items from this place on, followed by those before it
abbrev pub turned : {X : Type 0} → ℕ → List X → List X
turned place xs = drop place xs ++ take place xs

abbrev pub heads_of : heads.Inside → List Head
heads_of a = turned a.oldest (padded a.ring.items)

pub record AreHeads (a : heads.Inside) : Type 0 where
  pub few : length a.ring.items ≤ 1536
  pub capacity : 1536 ≤ vec_capacity a.ring
  pub oldest : a.oldest < 1536
  pub put : length a.ring.items < 1536 → a.oldest ≡ length a.ring.items

-- the packets that are kept or queued, the oldest first
abbrev pub held : Inside → List Pushed
held a = drop (1536 - a.queued - a.kept) (packets_of a.slots)

abbrev pub seen : Inside → Ring
seen a = record {
  ssrc = a.ssrc;
  next = a.next;
  queued = map (λ packet. packet.bytes) (numbered a.next a.ssrc (drop a.kept (held a)));
  kept = numbered (a.next + 65536 - a.kept) a.ssrc (take a.kept (held a));
}

pub record IsFull (a : Inside) : Type 0 where
  pub placed : AreHeld a.slots (a.queued + a.kept)
  pub next : a.next < 65536
  pub queued : a.queued ≤ 512
  pub kept : a.kept ≤ 1024
  pub spent : a.queued + a.kept + a.spent ≤ 1536
