-- The effect of a line on the server of a script with bundles.
use Rattle.std.specs.Prelude.{◌≤◌, ℕ, List, Result, length}
use Rattle.sfu_driver.specs.declared.halt.Halt.{Halt}
use Rattle.sfu_driver.specs.Drive.{Judges}
use Rattle.sfu_driver.specs.Outcome.{writes}
use Rattle.script_run.specs.Run.{unrecorded}
use Rattle.simulcast.specs.Bundles.{Simulcast, StandsFor}
use Rattle.sfu_program.specs.declared.bundling.server.BundleServer.{BundleServer}
use Rattle.sfu_program.specs.SimulcastTexts.{Replied}

-- For any state that the server represented: the reply was appended to the output
-- so far, and the server represents the state after the line. Or memory ran out.
pub record ServesLine (says : Simulcast → Replied) (old new : BundleServer) (ready ready' : List ℕ) (result : Result (Unit {0}) Halt) : Type 0 where
  pub judges : (h : Simulcast) → StandsFor unrecorded old.bundles h
      → Judges (λ (server : BundleServer) (h : Simulcast). StandsFor unrecorded server.bundles h) (writes (says h).reply (says h).after) new ready ready' result
  pub grows : length ready ≤ length ready'
