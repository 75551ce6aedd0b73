use Rattle.std.proofs.Common.{◌≡◌, ℕ, Bool, Option, nat_eq, length}
use Rattle.indexmap.specs.IndexMap.{get, index_map_len}
use Rattle.track_core.specs.Track.{Seen}
use Rattle.room_core.specs.declared.live.LiveSubscriber.{LiveSubscriber}
use Rattle.room_core.specs.Indexed.{tracks_of}
use Rattle.room_core.specs.Passing.{WorkedOff}
use Rattle.room_core.proofs.passing.work_off.Given as goal

abbrev pub invariant-loop : goal.invariant-loop
invariant-loop l = record {
  ahead : (new : Seen) (now : ℕ → Option LiveSubscriber) (plea : Bool) → WorkedOff l.pipeline new l.number (get nat_eq l.subscribers) now l.pleaded plea
      → WorkedOff l.initial.pipeline new l.number (get nat_eq l.initial.subscribers) now l.initial.pleaded plea;
  count : index_map_len l.subscribers ≡ index_map_len l.initial.subscribers;
  tracks : tracks_of l.subscribers.entries ≡ tracks_of l.initial.subscribers.entries;
}

abbrev pub decreases-loop : goal.decreases-loop
decreases-loop l = length l.pipeline.window.waiting
