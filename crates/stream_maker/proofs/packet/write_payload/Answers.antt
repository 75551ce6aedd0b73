use Rattle.std.proofs.Common.{append_assoc}
use Rattle.stream_maker.specs.Bytes.{payload}
use Rattle.stream_maker.proofs.packet.write_payload.Goals as goal

pub returns : goal.returns
unfolding payload
returns c =
    rw (c.append-2.ensures, c.append.ensures, c.bit-continues.ensures.value, c.bit-goes_on.ensures.value, c.ends_frame.ensures, c.bit-key.ensures.value, c.starts_key_frame.ensures, c.element_byte-element.ensures) (simp append_assoc)
