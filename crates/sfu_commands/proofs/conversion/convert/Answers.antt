use Rattle.std.proofs.Common.{[], ℕ, List, refl}
use Rattle.sfu_driver.specs.Outcome.{takes}
use Rattle.sfu_driver.specs.Point.{byte, due}
use Rattle.sfu_driver.specs.Statuses.{due_of, number_of}
use Rattle.sfu_driver.proofs.Cutting.{at}
use Rattle.sfu_driver.proofs.Meanings.{statuses_same}
use Rattle.script_records.specs.declared.form.Form.TheVariants.{Lines}
use Rattle.script_records.specs.RecordCut.{header}
use Rattle.script_records.specs.Script.{judged_in, script_in}
use Rattle.sfu_commands.specs.Convert.{records_due}
use Rattle.script_records.proofs.Alike.{failed_before, statuses_behind}
use Rattle.sfu_commands.proofs.Converting.{convert_is_due, convert_is_part, convert_rule, convert_statuses}
use Rattle.sfu_commands.proofs.conversion.convert.Goals as goal

pub returns-in-Err-clause-converts : goal.returns-in-Err-clause-converts
returns-in-Err-clause-converts g c =
    let left = g.S.Source.left c.args.source.now in
    let w = g.K.Sink.written c.args.sink.now in
    let w' = g.K.Sink.written c.write_all.new.sink in
    let r = g.S.Source.faults c.args.source.now in
    let f = g.K.Sink.faults c.args.sink.now in
    let f' = g.K.Sink.faults c.write_all.new.sink in
    failed_before header (λ bytes. records_due (script_in Lines bytes)) (λ bytes. records_due (judged_in Lines bytes)) left w w' r f f' refl c.in-Err.ensures.counts c.in-Err.ensures.part

pub returns-in-Ok-clause-converts : goal.returns-in-Ok-clause-converts
returns-in-Ok-clause-converts g c =
    let left = g.S.Source.left c.args.source.now in
    let left' = g.S.Source.left c.answer.new.source in
    let w0 = g.K.Sink.written c.args.sink.now in
    let w1 = g.K.Sink.written c.write_all.new.sink in
    let w' = g.K.Sink.written c.answer.new.sink in
    let r = g.S.Source.faults c.args.source.now in
    let r' = g.S.Source.faults c.answer.new.source in
    let f0 = g.K.Sink.faults c.args.sink.now in
    let f1 = g.K.Sink.faults c.write_all.new.sink in
    let f' = g.K.Sink.faults c.answer.new.sink in
    let whole = λ (bytes : List ℕ). records_due (script_in Lines bytes) in
    let part = λ (bytes : List ℕ). records_due (judged_in Lines bytes) in
    statuses_behind header whole part left left' w0 w1 w' r r' f0 f1 f' (number_of c.answer.result) c.in-Ok.ensures.counts c.in-Ok.ensures.ok
    (statuses_same (λ bytes. due_of (due convert_rule (at tt 1 []) bytes)) (λ taken. due_of (takes (byte convert_rule) (at tt 1 []) taken)) whole part
    left left' w1 w' r r' f1 f' (number_of c.answer.result) convert_is_due convert_is_part
    (c.answer.ensures (at tt 1 []) (record { state = tt; number = c.new-units.ensures.number; kept = c.new-units.ensures.kept })))

pub returns-in-Ok-clause-only : goal.returns-in-Ok-clause-only
returns-in-Ok-clause-only g c = let converts = returns-in-Ok-clause-converts g c in convert_statuses (number_of c.answer.result) converts.only
