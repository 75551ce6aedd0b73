use Rattle.std.proofs.Common.{[], sym, subst, ℕ}
use Rattle.sfu_driver.specs.Outcome.{takes}
use Rattle.sfu_driver.specs.Point.{byte, due, ends}
use Rattle.sfu_driver.specs.Statuses.{due_of}
use Rattle.sfu_driver.specs.Units.{JudgeStands}
use Rattle.sfu_driver.proofs.Answering.{statuses}
use Rattle.sfu_driver.proofs.Counting.{quiet_of}
use Rattle.sfu_driver.proofs.Cutting.{at}
use Rattle.sfu_driver.proofs.Meanings.{statuses_same}
use Rattle.port_config.specs.ports.Script.{Setup, nothing_said}
use Rattle.port_config.specs.ports.Reader.{Holds, IsSetup}
use Rattle.port_config.specs.declared.ports.reader.ServeReader.{ServeReader}
use Rattle.port_config.specs.ports.Reading.{ReadsNoSetup, read_due, read_part}
use Rattle.port_config.proofs.PortsDue.{none_written, read_is_due, read_is_part, read_ok, read_only, read_rule}
use Rattle.port_config.proofs.ports.reading.read_served.Goals as goal

pub returns-in-Err-clause-err : goal.returns-in-Err-clause-err
returns-in-Err-clause-err g c =
    let d = c.in-Err.ensures.drove nothing_said c.new.ensures in
    subst (λ (n : ℕ). ReadsNoSetup (g.S.Source.left c.args.source.now) (g.S.Source.left c.read_all.new.source) (g.K.Sink.written c.args.sink.now) (g.K.Sink.written c.read_all.new.sink)
    (g.S.Source.faults c.args.source.now) (g.S.Source.faults c.read_all.new.source) (g.K.Sink.faults c.args.sink.now) (g.K.Sink.faults c.read_all.new.sink) n)
    (sym d.gives.1)
    (let all = statuses_same (λ bytes. due_of (due read_rule (at nothing_said 1 []) bytes)) (λ taken. due_of (takes (byte read_rule) (at nothing_said 1 []) taken)) read_due read_part
    (g.S.Source.left c.args.source.now) (g.S.Source.left c.read_all.new.source) (g.K.Sink.written c.args.sink.now) (g.K.Sink.written c.read_all.new.sink)
    (g.S.Source.faults c.args.source.now) (g.S.Source.faults c.read_all.new.source) (g.K.Sink.faults c.args.sink.now) (g.K.Sink.faults c.read_all.new.sink) _
    read_is_due read_is_part
    (statuses (JudgeStands Holds) (byte read_rule) (ends read_rule) (at nothing_said 1 []) d.units (g.S.Source.left c.args.source.now) (g.S.Source.left c.read_all.new.source)
    (g.K.Sink.written c.args.sink.now) (g.K.Sink.written c.read_all.new.sink) (g.S.Source.faults c.args.source.now) (g.S.Source.faults c.read_all.new.source)
    (g.K.Sink.faults c.args.sink.now) (g.K.Sink.faults c.read_all.new.sink) d.came_out d.cause d.drove) in record {
      statuses = all;
      only = read_only (JudgeStands Holds) d.units (g.S.Source.left c.args.source.now) (g.S.Source.left c.read_all.new.source)
          (g.K.Sink.written c.args.sink.now) (g.K.Sink.written c.read_all.new.sink) (g.K.Sink.faults c.args.sink.now) (g.K.Sink.faults c.read_all.new.sink) d.came_out d.gives.0 d.drove;
      unwritten = none_written _ _ _ _ _ _ _ _ _ all;
    })

pub returns-in-Ok-clause-ok : goal.returns-in-Ok-clause-ok
returns-in-Ok-clause-ok g c =
    let d = c.in-Ok.ensures.drove nothing_said c.new.ensures in
    let r = read_ok (JudgeStands Holds) d.units (g.S.Source.left c.args.source.now) (g.S.Source.left c.read_all.new.source)
    (g.K.Sink.written c.args.sink.now) (g.K.Sink.written c.read_all.new.sink) (g.K.Sink.faults c.args.sink.now) (g.K.Sink.faults c.read_all.new.sink) d.came_out d.gives.0 d.drove in
    record {
      bytes = r.0;
      consumed = r.2;
      at_end = r.3;
      whole = r.4;
      setup = subst (λ (x : Setup). IsSetup x c.into_served.result) (sym r.5) (c.into_served.ensures r.1 (subst (λ (x : ServeReader). Holds x r.1) (sym d.gives.1) r.6));
      unwritten = r.7;
    }

pub returns-in-Ok-clause-kept : goal.returns-in-Ok-clause-kept
returns-in-Ok-clause-kept g c = let d = c.in-Ok.ensures.drove nothing_said c.new.ensures in quiet_of d.came_out (g.S.Source.faults c.args.source.now) (g.S.Source.faults c.read_all.new.source) (g.K.Sink.faults c.args.sink.now) (g.K.Sink.faults c.read_all.new.sink)
    d.gives.0 d.cause
