use Rattle.std.proofs.Common.{arith}
use Rattle.script_records.proofs.writer.append_packet.Goals as goal

pub returns-clause-within : goal.returns-clause-within
returns-clause-within c =
    (tt, (c.ranges.track.fits, (c.ranges.moment.fits, ((c.requires.some, c.requires.few, λ i. omega (arith, c.type_inv.packet i)), tt))))
