use Rattle.std.proofs.Common.{rules, ◌≡◌, refl, arith}
use Rattle.std.specs.Prelude.{codes}
use Rattle.std.proofs.lemmas.Slice.Eq.{text_from_reads}
use Rattle.sfu_script.proofs.commands.subscriber_command.Goals as goal

pub returns-in-resend : goal.returns-in-resend
returns-in-resend c =
    let is : c.args.word.now ≡ codes "resend" = text_from_reads c.args.word.now (codes "resend") (omega arith) (search rules) in
    rw is refl
