use Rattle.std.proofs.Common.{[], take}
use Rattle.sfu_driver.specs.Outcome.{takes}
use Rattle.sfu_driver.specs.Point.{byte, due}
use Rattle.sfu_driver.specs.Statuses.{due_of, number_of}
use Rattle.sfu_driver.proofs.Cutting.{at}
use Rattle.sfu_driver.proofs.Meanings.{behind_same}
use Rattle.script_records.specs.declared.form.Form.TheVariants.{Lines}
use Rattle.script_run.specs.Run.{due_in, part_in}
use Rattle.script_run.proofs.Replies.{line_rule, lines_are_due, lines_are_part}
use Rattle.script_run.proofs.command.run_lines.Goals as goal

pub returns : goal.returns
returns g c left reads from later =
    behind_same (take c.args.first c.args.piece.now) (λ bytes. due_of (due line_rule (at [] 1 []) bytes)) (λ taken. due_of (takes (byte line_rule) (at [] 1 []) taken)) (due_in Lines) (part_in Lines)
    left (g.S.Source.left c.answer_behind.new.source) (g.K.Sink.written c.args.sink.now) (g.K.Sink.written c.answer_behind.new.sink) reads (g.S.Source.faults c.answer_behind.new.source)
    (g.K.Sink.faults c.args.sink.now) (g.K.Sink.faults c.answer_behind.new.sink) (number_of c.answer_behind.result) lines_are_due lines_are_part
    (c.answer_behind.ensures left reads (at [] 1 []) from later (record { state = rw c.new-units.ensures.judge c.new.ensures; number = c.new-units.ensures.number; kept = c.new-units.ensures.kept }))
