use Rattle.std.proofs.Common.{◌∙◌, ap, sym}
use Rattle.leg_switch.specs.FrameNumbers.{number_place}
use Rattle.leg_switch.proofs.Overwriting.{overwritten_reads}
use Rattle.leg_switch.proofs.frame_numbers.FrameNumbers.renumber.Goals as goal

pub returns-clause-reads : goal.returns-clause-reads
returns-clause-reads c =
    overwritten_reads c.args.id c.in-Some.place _ c.args.packet.now _ _ c.requires
    (ap (number_place c.args.id) (sym c.bytes.ensures.bytes) ∙ sym c.in-Some.ensures.place) c.write_u16.ensures c.overwrite.ensures
