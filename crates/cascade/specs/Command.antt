-- The command `cascade`: its statuses and their meanings, and the calls of its rooms. Own rule.
use Rattle.std.specs.Prelude.{◌≡◌, ◌⊎◌, ℕ, List, [], Option}
use Rattle.std.specs.Io.KnownBytes.{Appends}
use Rattle.sfu_base.specs.Faults.{Rose}
use Rattle.sfu_driver.specs.Drive.{WritesPart}
use Rattle.sfu_driver.specs.Statuses.{FirstFault}
use Rattle.stream_maker.specs.Stream.{Stream}
use Rattle.cascade.specs.Summary.{cascade_calls, cascade_text}
use Rattle.cascade.specs.Whole.{FeedsAll, HoldsOf}

-- The summary was written; or the sink failed before all of it was written; or memory ran out, and nothing was written.
pub record ShowsCascade (s : Stream) (written written' : Option (List ℕ)) (writes writes' status : ℕ) : Type 0 where
  pub done : status ≡ 0 → Appends written written' (cascade_text s)
  pub sink : status ≡ 4 → Rose writes writes'
  pub unwritten : status ≡ 4 → WritesPart written written' (cascade_text s)
  pub memory : status ≡ 6 → Appends written written' []
  pub only : (status ≡ 0) ⊎ (status ≡ 4) ⊎ (status ≡ 6)
  pub first_fault : FirstFault 0 0 writes writes' status
  pub holds : HoldsOf (cascade_calls s)
  pub feeds : FeedsAll (cascade_calls s)

-- `cascade`: nothing is read.
pub record PlaysCascade {S : Type 0} (source source' : S) (s : Stream) (written written' : Option (List ℕ)) (writes writes' status : ℕ) : Type 0 where
  pub unread : source' ≡ source
  pub shows : ShowsCascade s written written' writes writes' status
