use Rattle.std.proofs.Common.{rules, ◌≡◌, arith}
use Rattle.std.specs.Prelude.{codes}
use Rattle.std.proofs.lemmas.Slice.Eq.{text_from_reads}
use Rattle.sfu_script.proofs.ports.named_role.Goals as goal

pub returns-in-publisher : goal.returns-in-publisher
returns-in-publisher c =
    let is : c.args.word.now ≡ codes "publisher" = text_from_reads c.args.word.now (codes "publisher") (omega arith) (search rules) in
    rw is c.publisher.ensures

pub returns-in-subscriber : goal.returns-in-subscriber
returns-in-subscriber c =
    let is : c.args.word.now ≡ codes "subscriber" = text_from_reads c.args.word.now (codes "subscriber") (omega arith) (search rules) in
    rw is c.subscriber.ensures
