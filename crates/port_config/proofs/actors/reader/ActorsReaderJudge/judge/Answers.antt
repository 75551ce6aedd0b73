use Rattle.std.proofs.Common.{◌≡◌, ◌∷◌, ◌++◌, [], List, le-leb, ◌≤◌, ap, sym, ◌∙◌, append-nil}
use Rattle.std.proofs.lemmas.Bool.{lt-leb}
use Rattle.sfu_driver.specs.Outcome.{Outcome}
use Rattle.script_texts.specs.WholeLines.{fault_line}
use Rattle.port_config.specs.actors.Reader.{fault_at, judged_line}
use Rattle.port_config.specs.actors.Script.{Said}
use Rattle.port_config.proofs.Parts.{said}
use Rattle.port_config.proofs.ActorsJudging.{line_behind_the_closing_part, line_goes_on, line_says_nothing, line_too_many}
use Rattle.port_config.proofs.actors.reader.ActorsReaderJudge.judge.Goals.{then-number-le-MOST_LINES+else-is_skipped+in-Ok+else-may_follow, then-number-le-MOST_LINES+else-is_skipped+in_default, else-number-le-MOST_LINES}
use Rattle.port_config.proofs.actors.reader.ActorsReaderJudge.judge.Goals as goal

pub returns-then-may_follow-clause-judges : goal.returns-then-may_follow-clause-judges
returns-then-may_follow-clause-judges c = λ past holds.
    let x = said c.in-Ok.actor c.in-Ok.call in
    let few : c.args.number ≤ 100000 = c.if-number-le-MOST_LINES.true in
    let due = line_goes_on past c.args.number c.args.line.now x (le-leb c.args.number 100000 few) (sym c.is_skipped.ensures.value ∙ c.if-is_skipped.false) c.in-Ok.ensures.value (sym (c.may_follow.ensures past holds c.in-Ok.call) ∙ c.if-may_follow.true) in
    (past ++ x ∷ [], ap (λ (o : Outcome (List Said)). o.result) due, c.in_ok-add.ensures past holds, sym (append-nil c.args.ready.now) ∙ ap (λ (o : Outcome (List Said)). c.args.ready.now ++ o.text) (sym due))

pub returns-clause-judges : goal.returns-clause-judges
returns-clause-judges c = λ past holds.
    let due : judged_line past c.args.number c.args.line.now ≡ fault_at c.args.number = elim c.if-number-le-MOST_LINES.branch [
      | then-number-le-MOST_LINES+else-is_skipped+in-Ok+else-may_follow w ↦ line_behind_the_closing_part past c.args.number c.args.line.now (said w.in-Ok.actor w.in-Ok.call) (le-leb c.args.number 100000 w.if-number-le-MOST_LINES.true) (sym w.is_skipped.ensures.value ∙ w.if-is_skipped.false) w.in-Ok.ensures.value (sym (w.may_follow.ensures past holds w.in-Ok.call) ∙ w.if-may_follow.false)
      | then-number-le-MOST_LINES+else-is_skipped+in_default w ↦ line_says_nothing past c.args.number c.args.line.now (le-leb c.args.number 100000 w.if-number-le-MOST_LINES.true) (sym w.is_skipped.ensures.value ∙ w.if-is_skipped.false) w.in_default.ensures.value
      | else-number-le-MOST_LINES w ↦ line_too_many past c.args.number c.args.line.now (lt-leb c.args.number 100000 w.if-number-le-MOST_LINES.false)
    ] in
    (fault_line c.args.number, due, c.in_ok-add_fault.ensures.ok ∙ ap (λ n. c.args.ready.now ++ fault_line n) c.from.ensures)
