-- The text that is written after all sessions have ended, and the status.
use Rattle.std.specs.Prelude.{◌≡◌, ◌⊎◌, ℕ, true, false, List, [], Option}
use Rattle.std.specs.Io.KnownBytes.{Appends}
use Rattle.sfu_base.specs.Faults.{Rose}
use Rattle.sfu_serve.specs.declared.ends.SessionEnd.{SessionEnd}
use Rattle.sfu_driver.specs.Drive.{WritesPart}
use Rattle.sfu_driver.specs.Statuses.{FirstFault}
use Rattle.sfu_program.specs.ServeEnds.{all_made, ends_text}

pub record EndsWith (ends : List SessionEnd) (written written' : Option (List ℕ)) (writes writes' status : ℕ) : Type 0 where
  pub done : status ≡ 0 → (all_made ends ≡ true) × Appends written written' (ends_text 1 ends)
  pub sink : status ≡ 4 → Rose writes writes' × WritesPart written written' (ends_text 1 ends)
  pub memory : status ≡ 6 → Appends written written' []
  pub failed : status ≡ 7 → (all_made ends ≡ false) × Appends written written' (ends_text 1 ends)
  pub only : (status ≡ 0) ⊎ (status ≡ 4) ⊎ (status ≡ 6) ⊎ (status ≡ 7)
  pub first_fault : FirstFault 0 0 writes writes' status
