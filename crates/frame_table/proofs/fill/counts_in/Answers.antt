use Rattle.std.proofs.Common.{◌+◌, ◌-◌, arith}
use Rattle.frame_table.proofs.Fronts.{says_which}
use Rattle.frame_table.proofs.fill.counts_in.Goals as goal

pub returns : goal.returns
returns c =
    says_which c.args.row.now (32 - c.from.result + c.from-2.result) c.args.place c.args.count c.requires.row c.requires.place c.requires.count
    (omega (arith, c.from.ensures, c.from-2.ensures, c.requires.count))
