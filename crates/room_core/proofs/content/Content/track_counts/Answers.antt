use Rattle.std.proofs.Common.{sym}
use Rattle.room_core.proofs.CountedTracks.{counts_reported}
use Rattle.room_core.proofs.content.Content.track_counts.Goals as goal

pub returns-in-Some : goal.returns-in-Some
returns-in-Some c past after =
    counts_reported c.args.self.now c.args.track c.in-Some.known.now c.deref.result.now c.counts.result past (sym c.in-Some.ensures.value) c.deref.ensures
    c.in-Some.known.now.idle c.counts.ensures after
