use Rattle.std.proofs.Common.{◌≡◌, ◌≤◌, length, map, take, vec_len}
use Rattle.std.specs.Vec.{vec_capacity}
use Rattle.sfu_program.specs.ServePorts.{AreFresh, AreNamedFrom, befores}
use Rattle.sfu_program.proofs.serve.ports.bind_each.Given as goal

abbrev pub invariant-loop-line : goal.invariant-loop-line
invariant-loop-line g l = record {
  count : vec_len l.jobs ≡ l.line-index;
  capacity : length l.lines ≤ vec_capacity l.jobs;
  fresh : AreFresh (take l.line-index l.lines) (befores g.P.Port.Link.traffic g.P.Port.Link.faults l.jobs.items);
  names : AreNamedFrom g.P.Port.Link.name 0 (map (λ job. job.link) l.jobs.items);
  bound : g.P.Ports.bound l.ports ≡ l.line-index;
  back_count : g.P.Ports.back_count l.ports ≡ g.P.Ports.back_count l.initial.ports;
  returned : g.P.Ports.returned l.ports ≡ g.P.Ports.returned l.initial.ports;
  kept : g.P.Ports.faults l.ports ≡ g.P.Ports.faults l.initial.ports;
  never_falls : g.P.Ports.faults l.initial.ports ≤ g.P.Ports.faults l.ports;
}
