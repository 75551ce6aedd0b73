use Rattle.room_core.proofs.Listing.{IsListed}
use Rattle.room_core.proofs.ready.list_ready.Given as goal

abbrev pub invariant-loop-place : goal.invariant-loop-place
invariant-loop-place l = IsListed l.track l.place l.subscribers.entries l.fn.numbers l.numbers l.count
