use Rattle.bundle_lines.specs.Lines.{IsBundleLine}
use Rattle.bundle_lines.specs.ReadLines.{line_of}
use Rattle.bundle_lines.specs.declared.line.BundleLine.{BundleLine}
use Rattle.sfu_script.proofs.Outcomes.{read_is, none_is}
use Rattle.bundle_lines.proofs.BundleLaws.{line_found, line_again}
use Rattle.bundle_lines.proofs.reader.read_bundle_line.Goals as goal

pub returns-clause-ok : goal.returns-clause-ok
returns-clause-ok c =
    read_is (λ (said : BundleLine). IsBundleLine said c.args.line.now) c.said.result (line_of c.args.line.now) (λ said e. line_found c.args.line.now said e) c.said.ensures

pub returns-clause-err : goal.returns-clause-err
returns-clause-err c =
    none_is (λ (said : BundleLine). IsBundleLine said c.args.line.now) c.said.result (line_of c.args.line.now) (λ said h. line_again said c.args.line.now h) c.said.ensures
