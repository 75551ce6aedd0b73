use Rattle.std.proofs.Common.{[], ◌∷◌}
use Rattle.turn_lock.specs.History.{entry}
use Rattle.turn_lock.proofs.lock.Turns.serve.Given as goal

abbrev pub ghosts-release : goal.ghosts-release
ghosts-release g a = record { adds = entry a.inner.now.me.0.number a.call.now (g.H.Held.starves a.reply.now) ∷ [] }
