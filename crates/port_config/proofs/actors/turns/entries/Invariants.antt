use Rattle.std.proofs.Common.{◌≡◌, map}
use Rattle.port_config.proofs.actors.turns.entries.Given as goal

abbrev pub invariant-loop-turn : goal.invariant-loop-turn
invariant-loop-turn l = l.entries.items ≡ map (λ turn. turn.entry) l.yielded
