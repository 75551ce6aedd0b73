-- The usage line. It is written by the command `help`, and for words that aren't a command.
use Rattle.std.specs.Prelude.{◌≡◌, ◌⊎◌, ℕ, List, [], ◌∷◌, Option, codes}
use Rattle.std.specs.Io.KnownBytes.{Appends}
use Rattle.sfu_base.specs.Faults.{Rose}
use Rattle.sfu_driver.specs.Drive.{WritesEnd, WritesPart}
use Rattle.sfu_driver.specs.Statuses.{FirstFault, KeptOrCut}

abbrev pub IsHelp : List (List ℕ) → Type 0
IsHelp words = words ≡ codes "help" ∷ []

-- the usage line with its line end
abbrev pub usage_text : List ℕ
usage_text = codes "usage: run, together, trial, check, record, serve, convert, simulcast, cascade, help\n"

-- The usage line was written, or the sink failed before all of it was written.
pub record ShowsUsage (written written' : Option (List ℕ)) (writes writes' status : ℕ) : Type 0 where
  pub done : status ≡ 0 → Appends written written' usage_text
  pub sink : status ≡ 4 → Rose writes writes'
  pub unwritten : status ≡ 4 → WritesPart written written' usage_text
  pub only : (status ≡ 0) ⊎ (status ≡ 4)
  pub first_fault : FirstFault 0 0 writes writes' status

-- `help`: nothing is read.
pub record Helps {S : Type 0} (source source' : S) (written written' : Option (List ℕ)) (writes writes' status : ℕ) : Type 0 where
  pub unread : source' ≡ source
  pub shows : ShowsUsage written written' writes writes' status

-- Words that aren't a command: nothing is read, and the usage line is written, or a prefix of it if the sink fails.
pub record Refuses {S : Type 0} (source source' : S) (written written' : Option (List ℕ)) (writes writes' status : ℕ) : Type 0 where
  pub unread : source' ≡ source
  pub shows : WritesEnd written written' writes writes' [] usage_text
  pub once : KeptOrCut writes writes'
  pub status_is : status ≡ 2
