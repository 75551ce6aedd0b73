use Rattle.std.proofs.Common.{◌≡◌, refl, take, rules, arith}
use Rattle.script_records.specs.declared.form.Form.TheVariants.{Lines, Records}
use Rattle.script_run.specs.Run.{run_due, run_part}
use Rattle.script_records.specs.Script.{form_of}
use Rattle.script_records.proofs.Alike.{failed_at_once}
use Rattle.script_run.proofs.Histories.{are_served}
use Rattle.script_run.proofs.Replies.{form_known, run_only, runs_in}
use Rattle.script_run.proofs.command.run.Goals as goal
use Rattle.sfu_driver.specs.Statuses.{number_of}

pub returns-in_default-clause-runs : goal.returns-in_default-clause-runs
returns-in_default-clause-runs g c =
    let left = g.S.Source.left c.args.source.now in
    let w = g.K.Sink.written c.args.sink.now in
    let f = g.K.Sink.faults c.args.sink.now in
    failed_at_once run_due run_part left (g.S.Source.left c.read.new.self) w (g.S.Source.faults c.args.source.now) (g.S.Source.faults c.read.new.self) f refl
    c.in_default.ensures.cause.counts c.in_default.ensures.bytes

pub returns-in_default-clause-headline : goal.returns-in_default-clause-headline
returns-in_default-clause-headline g c = are_served

pub returns-in-Lines-clause-runs : goal.returns-in-Lines-clause-runs
returns-in-Lines-clause-runs g c =
    let left = g.S.Source.left c.args.source.now in
    let piece = take c.in-Ok.first c.read.new.buf in
    let is : form_of piece ≡ Lines = search rules in
    runs_in Lines piece left (g.S.Source.left c.run_lines.new.source) (g.K.Sink.written c.args.sink.now) (g.K.Sink.written c.run_lines.new.sink) (g.S.Source.faults c.args.source.now) (g.S.Source.faults c.run_lines.new.source)
    (g.K.Sink.faults c.args.sink.now) (g.K.Sink.faults c.run_lines.new.sink) (number_of c.run_lines.result)
    is (form_known Lines piece left (g.S.Source.left c.read.new.self) is c.in-Ok.ensures.bytes.0 (λ none. search (rules, arith)))
    (c.run_lines.ensures left (g.S.Source.faults c.args.source.now) c.in-Ok.ensures.bytes.0 c.in-Ok.ensures.cause.counts)

pub returns-in-Lines-clause-headline : goal.returns-in-Lines-clause-headline
returns-in-Lines-clause-headline g c = are_served

pub returns-in-Lines-clause-only : goal.returns-in-Lines-clause-only
returns-in-Lines-clause-only g c = let runs = returns-in-Lines-clause-runs g c in run_only (number_of c.run_lines.result) runs.only

pub returns-in-Records-clause-runs : goal.returns-in-Records-clause-runs
returns-in-Records-clause-runs g c =
    let left = g.S.Source.left c.args.source.now in
    let piece = take c.in-Ok.first c.read.new.buf in
    let is : form_of piece ≡ Records = search rules in
    runs_in Records piece left (g.S.Source.left c.run_records.new.source) (g.K.Sink.written c.args.sink.now) (g.K.Sink.written c.run_records.new.sink) (g.S.Source.faults c.args.source.now) (g.S.Source.faults c.run_records.new.source)
    (g.K.Sink.faults c.args.sink.now) (g.K.Sink.faults c.run_records.new.sink) (number_of c.run_records.result)
    is (form_known Records piece left (g.S.Source.left c.read.new.self) is c.in-Ok.ensures.bytes.0 (λ none. search (rules, arith)))
    (c.run_records.ensures left (g.S.Source.faults c.args.source.now) c.in-Ok.ensures.bytes.0 c.in-Ok.ensures.cause.counts)

pub returns-in-Records-clause-headline : goal.returns-in-Records-clause-headline
returns-in-Records-clause-headline g c = are_served

pub returns-in-Records-clause-only : goal.returns-in-Records-clause-only
returns-in-Records-clause-only g c = let runs = returns-in-Records-clause-runs g c in run_only (number_of c.run_records.result) runs.only
