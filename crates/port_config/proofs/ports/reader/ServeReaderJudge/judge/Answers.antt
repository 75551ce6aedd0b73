use Rattle.std.proofs.Common.{◌++◌, ap, sym, ◌∙◌, append-nil}
use Rattle.sfu_driver.specs.Outcome.{Outcome}
use Rattle.port_config.specs.ports.Reader.{meaning_of}
use Rattle.port_config.specs.ports.Script.{Setup, and_said}
use Rattle.port_config.proofs.PortsJudging.{line_goes_on}
use Rattle.port_config.proofs.ports.reader.ServeReaderJudge.judge.Goals as goal

pub returns-then-may_follow-clause-judges : goal.returns-then-may_follow-clause-judges
returns-then-may_follow-clause-judges c = λ setup holds.
    let x = meaning_of c.in-Ok.said in
    let due = line_goes_on setup c.args.number c.args.line.now x (sym c.is_skipped.ensures.value ∙ c.if-is_skipped.false) c.in-Ok.ensures (sym (c.may_follow.ensures setup holds) ∙ c.if-may_follow.true) in
    (and_said setup x, ap (λ (o : Outcome Setup). o.result) due, c.in_ok-add.ensures setup holds, sym (append-nil c.args.ready.now) ∙ ap (λ (o : Outcome Setup). c.args.ready.now ++ o.text) (sym due))
