use Rattle.std.proofs.Common.{refl}
use Rattle.stream_maker.specs.Bytes.{short_extension}
use Rattle.stream_maker.proofs.packet.write_short_descriptor.Goals as goal

pub returns-clause-bytes : goal.returns-clause-bytes
unfolding short_extension
returns-clause-bytes c =
    rw (c.append.ensures, c.to_be_bytes.ensures, c.bit.ensures.value, c.bit-2.ensures.value, c.ends_frame.ensures, c.template_of-template.ensures.value) refl
