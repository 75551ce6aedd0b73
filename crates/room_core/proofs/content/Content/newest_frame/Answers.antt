use Rattle.std.proofs.Common.{sym}
use Rattle.room_core.proofs.NewestFrame.{newest_reported}
use Rattle.room_core.proofs.content.Content.newest_frame.Goals as goal

pub returns-in-Some : goal.returns-in-Some
returns-in-Some c past after =
    newest_reported c.args.self.now c.args.track c.in-Some.known.now c.deref.result.now c.newest_frame.result past (sym c.in-Some.ensures.value) c.deref.ensures
    c.newest_frame.ensures after
