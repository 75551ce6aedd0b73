use Rattle.std.proofs.Common.{length}
use Rattle.cascade.proofs.TrialEvents.{IsPlaying}
use Rattle.cascade.proofs.stream_trial.play.Given as goal

abbrev pub invariant-events : goal.invariant-events
invariant-events l = IsPlaying l.stage l.maker.left l.maker.counts (record { frames = l.fn.frames; start = l.fn.start; loss = l.fn.loss })

abbrev pub decreases-events : goal.decreases-events
decreases-events l = length l.maker.left
