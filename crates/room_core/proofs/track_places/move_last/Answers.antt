use Rattle.std.proofs.Common.{arith, nat_eq, sym, true≢false}
use Rattle.indexmap.specs.IndexMap.{get}
use Rattle.room_core.specs.Indexed.{tracks_of}
use Rattle.room_core.proofs.Indexed.{track_at}
use Rattle.room_core.proofs.Reindexed.{moved_all, none_moved, within_tracks}
use Rattle.room_core.proofs.track_places.move_last.Goals as goal

pub returns-in-Some-clause-all : goal.returns-in-Some-clause-all
returns-in-Some-clause-all c =
    moved_all (get nat_eq c.args.tracks.now) (get nat_eq c.take_place.new.tracks) (get nat_eq c.put_place.new.tracks) (tracks_of c.args.subscribers.now.entries)
    c.in-Some.moved.now.track c.args.place c.len.result
    (track_at c.args.subscribers.now.entries c.args.place _ (sym c.in-Some.ensures.entry))
    (λ q n at. let within = within_tracks c.args.subscribers.now.entries q n at in let len = c.len.ensures.len in omega (arith, within, len))
    c.take_place.ensures.changed c.put_place.ensures.changed c.put_place.ensures.put

pub returns-in_default-clause-all : goal.returns-in_default-clause-all
returns-in_default-clause-all c =
    none_moved (get nat_eq c.args.tracks.now) c.args.subscribers.now.entries c.args.place (λ lt. true≢false (sym (c.in_default.ensures.found.1 lt)))
