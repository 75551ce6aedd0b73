use Rattle.std.proofs.Common.{◌∙◌, List, ℕ, nat_eq, subst, sym}
use Rattle.indexmap.specs.IndexMap.{get}
use Rattle.room_core.specs.Indexed.{HasPlaces}
use Rattle.room_core.proofs.Working.{one_and_rest}
use Rattle.room_core.proofs.passing.work_off.Goals as goal

pub work_off_one-requires : goal.work_off_one-requires
work_off_one-requires c = subst (λ (on : List ℕ). HasPlaces c.args.places.now c.args.number on) (sym c.loop.invariant.tracks) c.requires

pub loop-preserved : goal.loop-preserved
loop-preserved c = record {
  ahead = λ new now plea rest.
      c.loop.invariant.ahead new now plea
      (one_and_rest c.loop.pipeline c.work_off_one.new.pipeline new c.args.number (get nat_eq c.loop.subscribers) (get nat_eq c.work_off_one.new.subscribers) now
      c.loop.pleaded c.work_off_one.new.pleaded plea c.loop-test.ensures.worked rest);
  count = c.work_off_one.ensures.count ∙ c.loop.invariant.count;
  tracks = c.work_off_one.ensures.tracks ∙ c.loop.invariant.tracks;
}

pub returns-clause-worked : goal.returns-clause-worked
returns-clause-worked c =
    c.loop.invariant.ahead c.work_off_one.new.pipeline (get nat_eq c.work_off_one.new.subscribers) c.work_off_one.new.pleaded c.loop-test.ensures.worked

pub returns-clause-tracks : goal.returns-clause-tracks
returns-clause-tracks c = c.work_off_one.ensures.tracks ∙ c.loop.invariant.tracks
