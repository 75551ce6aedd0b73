use Rattle.room_core.proofs.Listing.{ready_reported}
use Rattle.room_core.proofs.content.Content.ready.Goals as goal

pub returns-clause-ready : goal.returns-clause-ready
returns-clause-ready c past after =
    ready_reported c.args.self.now past c.args.track _ _ after c.list_ready.ensures.unique c.list_ready.ensures.lists
