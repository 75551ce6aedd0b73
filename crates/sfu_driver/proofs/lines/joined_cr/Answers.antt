use Rattle.std.proofs.Common.{◌<◌, ◌∙◌, length, rules, arith, sym}
use Rattle.sfu_driver.proofs.LineScans.{cr_joined}
use Rattle.sfu_driver.proofs.lines.joined_cr.Goals as goal

pub returns : goal.returns
returns c =
    let some : 0 < length c.args.came.now = search (rules, arith) in
    c.has_cr-2.ensures ∙ sym (cr_joined c.args.kept.now c.args.came.now some)
