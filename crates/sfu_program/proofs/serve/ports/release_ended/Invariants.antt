use Rattle.std.proofs.Common.{◌≡◌, ◌+◌, ◌≤◌, length, map}
use Rattle.sfu_base.specs.Faults.{Rose}
use Rattle.sfu_program.specs.ServePorts.{NoFault, SomeFault, after_backs}
use Rattle.sfu_program.proofs.serve.ports.release_ended.Given as goal

abbrev pub invariant-loop-session : goal.invariant-loop-session
invariant-loop-session g l = record {
  can : (goal.iterator-loop-session g).can_next l.session-iterator;
  finite : (goal.iterator-loop-session g).is_finite l.session-iterator;
  bound : g.P.Ports.bound l.ports ≡ g.P.Ports.bound l.initial.ports;
  back_count : g.P.Ports.back_count l.ports ≡ g.P.Ports.back_count l.initial.ports + length l.yielded;
  returned : g.P.Ports.returned l.ports ≡ after_backs (map (λ e. e.link) l.yielded) (g.P.Ports.returned l.initial.ports);
  never_falls : g.P.Ports.faults l.initial.ports ≤ g.P.Ports.faults l.ports;
  calm : NoFault g.P.Port.Link.faults (map (λ e. e.link) l.yielded) → g.P.Ports.faults l.ports ≡ g.P.Ports.faults l.initial.ports;
  rose : SomeFault g.P.Port.Link.faults (map (λ e. e.link) l.yielded) → Rose (g.P.Ports.faults l.initial.ports) (g.P.Ports.faults l.ports);
}
