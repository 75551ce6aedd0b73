use Rattle.std.proofs.Common.{rules, ◌≡◌, refl, arith}
use Rattle.std.specs.Prelude.{codes}
use Rattle.std.proofs.lemmas.Slice.Eq.{text_from_reads}
use Rattle.sfu_script.proofs.commands.track_command.Goals as goal

pub returns-in-packet : goal.returns-in-packet
returns-in-packet c =
    let is : c.args.word.now ≡ codes "packet" = text_from_reads c.args.word.now (codes "packet") (omega arith) (search rules) in
    rw is refl

pub returns-in-publish : goal.returns-in-publish
returns-in-publish c =
    let is : c.args.word.now ≡ codes "publish" = text_from_reads c.args.word.now (codes "publish") (omega arith) (search rules) in
    rw is refl

pub returns-in-missing : goal.returns-in-missing
returns-in-missing c =
    let is : c.args.word.now ≡ codes "missing" = text_from_reads c.args.word.now (codes "missing") (omega arith) (search rules) in
    rw is refl

pub returns-in-unpublish : goal.returns-in-unpublish
returns-in-unpublish c =
    let is : c.args.word.now ≡ codes "unpublish" = text_from_reads c.args.word.now (codes "unpublish") (omega arith) (search rules) in
    rw is refl
