use Rattle.std.proofs.Common.{append_assoc}
use Rattle.stream_maker.specs.Bytes.{long_extension}
use Rattle.stream_maker.proofs.packet.write_long_descriptor.Goals as goal

pub returns-clause-bytes : goal.returns-clause-bytes
unfolding long_extension
returns-clause-bytes c =
    rw (c.append-2.ensures, c.append.ensures, c.to_be_bytes.ensures) (simp append_assoc)
