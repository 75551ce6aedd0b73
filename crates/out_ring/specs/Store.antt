-- The value that a packet shared by rings represents.
use Rattle.std.specs.Prelude.{ℕ, List}
use Rattle.std.specs.Arc.{arc_value}
use Rattle.out_ring.specs.declared.store.SharedPacket.TheInside.{Inside}

abbrev pub bytes_of : Inside → List ℕ
bytes_of shared = arc_value shared.packet
