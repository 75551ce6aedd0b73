-- The first failure of an outside call ends the program's call. Own rule.
use Rattle.std.specs.Prelude.{◌≡◌, ℕ}
use Rattle.sfu_driver.specs.Exchange.{Exchange}
use Rattle.sfu_driver.specs.Statuses.{FirstFault}

-- No read and no write failed, except the one that the status reports. With status 0 no port failed either. If a port fails, each session still ends.
pub record FailsOnce (x : Exchange) (before after status : ℕ) : Type 0 where
  pub exchange : FirstFault x.reads x.reads' x.writes x.writes' status
  pub ports : status ≡ 0 → after ≡ before
