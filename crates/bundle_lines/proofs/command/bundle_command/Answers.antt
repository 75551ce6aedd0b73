use Rattle.std.proofs.Common.{rules, ◌≡◌, refl, arith}
use Rattle.std.specs.Prelude.{codes}
use Rattle.std.proofs.lemmas.Slice.Eq.{text_from_reads}
use Rattle.bundle_lines.proofs.command.bundle_command.Goals as goal

pub returns-in-bundle : goal.returns-in-bundle
returns-in-bundle c =
    let is : c.args.word.now ≡ codes "bundle" = text_from_reads c.args.word.now (codes "bundle") (omega arith) (search rules) in
    rw is refl

pub returns-in-choose : goal.returns-in-choose
returns-in-choose c =
    let is : c.args.word.now ≡ codes "choose" = text_from_reads c.args.word.now (codes "choose") (omega arith) (search rules) in
    rw is refl

pub returns-in-redraw : goal.returns-in-redraw
returns-in-redraw c =
    let is : c.args.word.now ≡ codes "redraw" = text_from_reads c.args.word.now (codes "redraw") (omega arith) (search rules) in
    rw is refl
