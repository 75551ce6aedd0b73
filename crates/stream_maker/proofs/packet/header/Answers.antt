use Rattle.std.proofs.Common.{refl}
use Rattle.stream_maker.specs.Bytes.{header}
use Rattle.stream_maker.proofs.packet.header.Goals as goal

pub returns : goal.returns
unfolding header
returns c =
    rw (c.to_be_bytes-2.ensures, c.to_be_bytes.ensures, c.bit-marker.ensures.value, c.is_marked.ensures) refl
