use Rattle.std.proofs.Common.{◌≡◌, ◌+◌, ◌≤◌, length, map}
use Rattle.sfu_program.specs.ServePorts.{NoFault, after_backs}
use Rattle.sfu_program.proofs.serve.ports.release.Given as goal

abbrev pub invariant-loop-job : goal.invariant-loop-job
invariant-loop-job g l = record {
  can : (goal.iterator-loop-job g).can_next l.job-iterator;
  finite : (goal.iterator-loop-job g).is_finite l.job-iterator;
  bound : g.P.Ports.bound l.ports ≡ g.P.Ports.bound l.initial.ports;
  back_count : g.P.Ports.back_count l.ports ≡ g.P.Ports.back_count l.initial.ports + length l.yielded;
  returned : g.P.Ports.returned l.ports ≡ after_backs (map (λ job. job.link) l.yielded) (g.P.Ports.returned l.initial.ports);
  calm : NoFault g.P.Port.Link.faults (map (λ job. job.link) l.yielded) → g.P.Ports.faults l.ports ≡ g.P.Ports.faults l.initial.ports;
  never_falls : g.P.Ports.faults l.initial.ports ≤ g.P.Ports.faults l.ports;
}
