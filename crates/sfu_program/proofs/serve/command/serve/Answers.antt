use Rattle.std.proofs.Common.{inr, List, length, ap, sym, subst, arith}
use Rattle.std.specs.Prelude.{IsTrue}
use Rattle.sfu_base.specs.declared.call.Call.{Call}
use Rattle.sfu_script.specs.declared.ports.PortLine.{PortLine}
use Rattle.sfu_program.specs.Serve.{Acts}
use Rattle.sfu_program.specs.ServePorts.{seen_ports}
use Rattle.port_config.specs.ports.Script.{all_apart, configuration_of}
use Rattle.sfu_program.proofs.ServeActing.{acts_before, acts_complete, acts_only}
use Rattle.port_config.proofs.Apart.{apart_ports}
use Rattle.port_config.proofs.Counts.{few_calls, few_ports}
use Rattle.sfu_program.proofs.serve.command.serve.Goals as goal
use Rattle.sfu_driver.specs.Statuses.{number_of}
use Rattle.sfu_driver.proofs.Answering.{with_reads}

pub act-requires-clause-calls : goal.act-requires-clause-calls
act-requires-clause-calls g c κs within =
    let read = c.in-Ok.ensures.ok in
    let few = few_calls read.bytes in
    let same = ap length read.setup.calls in
    omega arith

pub act-requires-clause-few : goal.act-requires-clause-few
act-requires-clause-few g c κs within =
    let read = c.in-Ok.ensures.ok in
    let few = few_ports read.bytes in
    let same = ap length read.setup.ports in
    let count = c.in-Ok.served.ports.ok.0 in
    omega arith

pub act-requires-clause-apart : goal.act-requires-clause-apart
act-requires-clause-apart g c κs within =
    let read = c.in-Ok.ensures.ok in
    subst (λ (lines : List PortLine). IsTrue (all_apart lines)) (sym read.setup.ports) (apart_ports read.bytes)

pub returns-in-Ok : goal.returns-in-Ok
returns-in-Ok g c =
    let read = c.in-Ok.ensures.ok in
    let acts = c.act.ensures.acts in
    let traffic = g.P.Port.Link.traffic in
    let faults = g.P.Port.Link.faults in
    let name = g.P.Port.Link.name in
    let setup = (configuration_of read.bytes).setup in
    let old = seen_ports (g.P.Ports.bound c.args.ports.now) (g.P.Ports.back_count c.args.ports.now) (g.P.Ports.returned c.args.ports.now) (g.P.Ports.faults c.args.ports.now) in
    let new = seen_ports (g.P.Ports.bound c.act.new.ports) (g.P.Ports.back_count c.act.new.ports) (g.P.Ports.returned c.act.new.ports) (g.P.Ports.faults c.act.new.ports) in
    let w = g.K.Sink.written c.args.sink.now in
    let w1 = g.K.Sink.written c.read_served.new.sink in
    let w' = g.K.Sink.written c.act.new.sink in
    let f = g.K.Sink.faults c.args.sink.now in
    let f1 = g.K.Sink.faults c.read_served.new.sink in
    let f' = g.K.Sink.faults c.act.new.sink in
    let status = (number_of c.act.result) in
    let said : Acts traffic faults name c.args.limit setup.calls setup.ports w1 w' f1 f' old new status =
    subst (λ (calls : List Call). Acts traffic faults name c.args.limit calls setup.ports w1 w' f1 f' old new status) read.setup.calls
    (subst (λ (lines : List PortLine). Acts traffic faults name c.args.limit c.in-Ok.served.calls lines w1 w' f1 f' old new status) read.setup.ports acts) in
    let all = acts_before traffic faults name c.args.limit setup.calls setup.ports w w1 w' f f1 f' old new status c.in-Ok.ensures.kept.1 read.unwritten said in
    record {
      came = inr (record { bytes = read.bytes; consumed = read.consumed; at_end = read.at_end; whole = read.whole; acts = all });
      first_fault = with_reads (g.S.Source.faults c.args.source.now) (g.S.Source.faults c.read_served.new.source) f f' status c.in-Ok.ensures.kept.0 all.first_fault;
      calm = all.calm;
      only = acts_only status all.only;
      complete = λ read calm quiet. acts_complete status f f' old.faults new.faults all.sink all.ports all.only calm quiet;
    }
