use Rattle.std.proofs.Common.{rules, ◌≡◌, arith}
use Rattle.std.specs.Prelude.{codes}
use Rattle.std.proofs.lemmas.Slice.Eq.{text_from_reads}
use Rattle.sfu_script.proofs.lines.publish.of_kind.Goals as goal

pub returns-in-layered : goal.returns-in-layered
returns-in-layered c =
    let is : c.args.kind.now ≡ codes "layered" = text_from_reads c.args.kind.now (codes "layered") (omega arith) (search rules) in
    rw is c.layered.ensures
