use Rattle.std.proofs.Common.{[], sym, subst, List, ℕ}
use Rattle.sfu_driver.specs.Outcome.{takes}
use Rattle.sfu_driver.specs.Point.{byte, due, ends}
use Rattle.sfu_driver.specs.Statuses.{Statuses, due_of}
use Rattle.sfu_driver.specs.Units.{JudgeStands}
use Rattle.sfu_driver.proofs.Answering.{statuses}
use Rattle.sfu_driver.proofs.Cutting.{at}
use Rattle.sfu_driver.proofs.Meanings.{statuses_same}
use Rattle.port_config.specs.actors.Script.{AreActors, Said, together_script}
use Rattle.port_config.specs.actors.Reader.{Holds}
use Rattle.port_config.specs.declared.actors.reader.ActorsReader.{ActorsReader}
use Rattle.port_config.specs.actors.Reading.{ReadsNone, read_due, read_part}
use Rattle.port_config.proofs.Calls.{bytes_calls, few_calls}
use Rattle.port_config.proofs.ActorsDue.{none_written, ok_status, read_is_due, read_is_part, read_ok, read_only, read_rule}
use Rattle.port_config.proofs.actors.reading.read_actors.Goals as goal

pub returns-in-Err-clause-err : goal.returns-in-Err-clause-err
returns-in-Err-clause-err g c =
    let d = c.in-Err.ensures.drove [] c.new.ensures in
    subst (λ (n : ℕ). ReadsNone (g.S.Source.left c.args.source.now) (g.S.Source.left c.read_all.new.source) (g.K.Sink.written c.args.sink.now) (g.K.Sink.written c.read_all.new.sink)
    (g.S.Source.faults c.args.source.now) (g.S.Source.faults c.read_all.new.source) (g.K.Sink.faults c.args.sink.now) (g.K.Sink.faults c.read_all.new.sink) n)
    (sym d.gives.1)
    (let all = statuses_same (λ bytes. due_of (due read_rule (at [] 1 []) bytes)) (λ taken. due_of (takes (byte read_rule) (at [] 1 []) taken)) read_due read_part
    (g.S.Source.left c.args.source.now) (g.S.Source.left c.read_all.new.source) (g.K.Sink.written c.args.sink.now) (g.K.Sink.written c.read_all.new.sink)
    (g.S.Source.faults c.args.source.now) (g.S.Source.faults c.read_all.new.source) (g.K.Sink.faults c.args.sink.now) (g.K.Sink.faults c.read_all.new.sink) _
    read_is_due read_is_part
    (statuses (JudgeStands Holds) (byte read_rule) (ends read_rule) (at [] 1 []) d.units (g.S.Source.left c.args.source.now) (g.S.Source.left c.read_all.new.source)
    (g.K.Sink.written c.args.sink.now) (g.K.Sink.written c.read_all.new.sink) (g.S.Source.faults c.args.source.now) (g.S.Source.faults c.read_all.new.source)
    (g.K.Sink.faults c.args.sink.now) (g.K.Sink.faults c.read_all.new.sink) d.came_out d.cause d.drove) in record {
      statuses = all;
      only = read_only (JudgeStands Holds) d.units (g.S.Source.left c.args.source.now) (g.S.Source.left c.read_all.new.source)
          (g.K.Sink.written c.args.sink.now) (g.K.Sink.written c.read_all.new.sink) (g.K.Sink.faults c.args.sink.now) (g.K.Sink.faults c.read_all.new.sink) d.came_out d.gives.0 d.drove;
      unwritten = none_written _ _ _ _ _ _ _ _ _ all;
    })

pub returns-in-Ok-clause-ok : goal.returns-in-Ok-clause-ok
returns-in-Ok-clause-ok g c =
    let d = c.in-Ok.ensures.drove [] c.new.ensures in
    let r = read_ok (JudgeStands Holds) d.units (g.S.Source.left c.args.source.now) (g.S.Source.left c.read_all.new.source)
    (g.K.Sink.written c.args.sink.now) (g.K.Sink.written c.read_all.new.sink) (g.K.Sink.faults c.args.sink.now) (g.K.Sink.faults c.read_all.new.sink) d.came_out d.gives.0 d.drove in
    let parts : AreActors (together_script r.0).said c.into_actors.result = subst (λ (xs : List Said). AreActors xs c.into_actors.result) (sym r.5) (c.into_actors.ensures r.1 (subst (λ (x : ActorsReader). Holds x r.1) (sym d.gives.1) r.6)) in
    record {
      bytes = r.0;
      consumed = r.2;
      at_end = r.3;
      whole = r.4;
      parts = parts;
      unwritten = r.7;
      statuses = subst (λ (n : ℕ). Statuses read_due read_part (g.S.Source.left c.args.source.now) (g.S.Source.left c.read_all.new.source) (g.K.Sink.written c.args.sink.now) (g.K.Sink.written c.read_all.new.sink)
          (g.S.Source.faults c.args.source.now) (g.S.Source.faults c.read_all.new.source) (g.K.Sink.faults c.args.sink.now) (g.K.Sink.faults c.read_all.new.sink) n)
          (ok_status d.came_out d.gives.0)
          (statuses_same (λ bytes. due_of (due read_rule (at [] 1 []) bytes)) (λ taken. due_of (takes (byte read_rule) (at [] 1 []) taken)) read_due read_part
          (g.S.Source.left c.args.source.now) (g.S.Source.left c.read_all.new.source) (g.K.Sink.written c.args.sink.now) (g.K.Sink.written c.read_all.new.sink)
          (g.S.Source.faults c.args.source.now) (g.S.Source.faults c.read_all.new.source) (g.K.Sink.faults c.args.sink.now) (g.K.Sink.faults c.read_all.new.sink) _
          read_is_due read_is_part
          (statuses (JudgeStands Holds) (byte read_rule) (ends read_rule) (at [] 1 []) d.units (g.S.Source.left c.args.source.now) (g.S.Source.left c.read_all.new.source)
          (g.K.Sink.written c.args.sink.now) (g.K.Sink.written c.read_all.new.sink) (g.S.Source.faults c.args.source.now) (g.S.Source.faults c.read_all.new.source)
          (g.K.Sink.faults c.args.sink.now) (g.K.Sink.faults c.read_all.new.sink) d.came_out d.cause d.drove));
      few = few_calls r.0 c.into_actors.result parts;
      lines = bytes_calls r.0 c.into_actors.result parts;
    }
