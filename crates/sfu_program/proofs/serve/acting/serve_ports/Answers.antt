use Rattle.std.proofs.Common.{List, length, map, ap, subst, ◌∙◌, arith}
use Rattle.sfu_script.specs.declared.ports.PortLine.{PortLine}
use Rattle.sfu_program.specs.ServePorts.{AreFresh, after_backs, befores, seen_ports}
use Rattle.sfu_program.proofs.ServeBacks.{named_as}
use Rattle.sfu_program.proofs.ServeActing.{all_unworn, ended_count, ends_served, rose_then}
use Rattle.sfu_program.proofs.ServeRoles.{can_all}
use Rattle.sfu_program.proofs.serve.acting.serve_ports.Goals as goal
use Rattle.sfu_driver.specs.Statuses.{number_of}

pub run_all-requires-clause-roles : goal.run_all-requires-clause-roles
run_all-requires-clause-roles g c κs within =
    can_all g.P.Port.Link.traffic g.P.Port.Link.faults c.args.served.now.ports.items c.in-Ok.jobs.items
    (subst (λ (ls : List PortLine). AreFresh ls (befores g.P.Port.Link.traffic g.P.Port.Link.faults c.in-Ok.jobs.items)) c.as_slice.ensures.value c.in-Ok.ensures.fresh) c.requires.apart

pub end_all-requires-clause-capacity : goal.end_all-requires-clause-capacity
end_all-requires-clause-capacity g c κs within =
    let served = c.in-Ok-run_all.ensures.served c.args.served.now.calls c.requires.made c.requires.calls in
    let count = ended_count g.P.Port.Link.traffic g.P.Port.Link.faults c.args.limit c.args.served.now.calls c.in-Ok.jobs.items c.in-Ok-run_all.ended.items served in
    let jobs = c.in-Ok.jobs.ok.0 in
    let ended = c.in-Ok-run_all.ended.ok.0 in
    let bound = c.in-Ok.ensures.bound in
    let none = c.in-Ok.ensures.none_came in
    omega arith

pub end_all-requires-clause-few : goal.end_all-requires-clause-few
end_all-requires-clause-few g c κs within =
    let served = c.in-Ok-run_all.ensures.served c.args.served.now.calls c.requires.made c.requires.calls in
    let count = ended_count g.P.Port.Link.traffic g.P.Port.Link.faults c.args.limit c.args.served.now.calls c.in-Ok.jobs.items c.in-Ok-run_all.ended.items served in
    let jobs = c.in-Ok.jobs.ok.0 in
    let ended = c.in-Ok-run_all.ended.ok.0 in
    let all = c.in-Ok.ensures.all in
    let few = c.requires.few in
    let same = ap length c.as_slice.ensures.value in
    let ports = c.as_slice.ensures.len in
    omega arith

pub end_all-requires-clause-unworn : goal.end_all-requires-clause-unworn
end_all-requires-clause-unworn g c κs within =
    all_unworn g.P.Port.Link.traffic g.P.Port.Link.faults c.args.limit c.args.served.now.calls (befores g.P.Port.Link.traffic g.P.Port.Link.faults c.in-Ok.jobs.items) c.in-Ok-run_all.ended.items
    (c.in-Ok-run_all.ensures.served c.args.served.now.calls c.requires.made c.requires.calls)

pub returns-clause-ends : goal.returns-clause-ends
returns-clause-ends g c =
    let traffic = g.P.Port.Link.traffic in
    let faults = g.P.Port.Link.faults in
    let calls = c.args.served.now.calls in
    let lines = c.args.served.now.ports.items in
    let ended = c.in-Ok-run_all.ended.items in
    let served = c.in-Ok-run_all.ensures.served calls c.requires.made c.requires.calls in
    let same = c.as_slice.ensures.value in
    let all = c.in-Ok.ensures.all ∙ ap length same in
    let count = ended_count traffic faults c.args.limit calls c.in-Ok.jobs.items ended served in
    ends_served traffic faults g.P.Port.Link.name c.args.limit calls lines (g.K.Sink.written c.args.sink.now) (g.K.Sink.written c.end_all.new.sink) (g.K.Sink.faults c.args.sink.now) (g.K.Sink.faults c.end_all.new.sink)
    (seen_ports (g.P.Ports.bound c.args.ports.now) (g.P.Ports.back_count c.args.ports.now) (g.P.Ports.returned c.args.ports.now) (g.P.Ports.faults c.args.ports.now))
    (seen_ports (g.P.Ports.bound c.end_all.new.ports) (g.P.Ports.back_count c.end_all.new.ports) (g.P.Ports.returned c.end_all.new.ports) (g.P.Ports.faults c.end_all.new.ports))
    (number_of c.end_all.result) ended
    (record {
      jobs = befores traffic faults c.in-Ok.jobs.items;
      fresh = subst (λ (ls : List PortLine). AreFresh ls (befores traffic faults c.in-Ok.jobs.items)) same c.in-Ok.ensures.fresh;
      served = served;
      names = named_as g.P.Port.Link.name (λ job. job.link) (λ session. session.link) 0 c.in-Ok.jobs.items ended c.in-Ok-run_all.ensures.names c.in-Ok.ensures.names;
      bound = c.end_all.ensures.bound ∙ (c.in-Ok.ensures.bound ∙ all);
      back = (let jobs = c.in-Ok.jobs.ok.0 in let others = c.in-Ok-run_all.ended.ok.0 in let back = c.end_all.ensures.back_count in let none = c.in-Ok.ensures.none_came in omega arith);
      returned = c.end_all.ensures.returned ∙ ap (after_backs (map (λ session. session.link) ended)) c.in-Ok.ensures.returned;
    })
    (λ some. rose_then (g.P.Ports.faults c.args.ports.now) (g.P.Ports.faults c.bind_all.new.ports) (g.P.Ports.faults c.end_all.new.ports) c.bind_all.ensures.never_falls (c.end_all.ensures.rose some))
    (λ none. c.end_all.ensures.calm none ∙ c.in-Ok.ensures.kept)
    c.end_all.ensures.ends
