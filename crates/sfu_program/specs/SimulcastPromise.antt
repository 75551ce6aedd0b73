-- The guarantees for the bundles of a script. Own statement. The replies that `simulcast` writes
-- are those of `line_replied`, line after line. These guarantees hold for the state after such lines.
use Rattle.std.specs.Prelude.{ℕ, List, [], ◌∷◌}
use Rattle.bundle_lines.specs.declared.line.BundleLine.{BundleLine}
use Rattle.simulcast.specs.Bundles.{Simulcast, nothing_made}
use Rattle.simulcast.specs.Kept.{IsPleasing}
use Rattle.sfu_program.specs.SimulcastScript.{BundleScript, bundle_script, bundle_script_so_far}
use Rattle.sfu_program.specs.SimulcastTexts.{line_replied}

-- the room's history and the bundles after these lines, one after another
abbrev pub after_lines : List BundleLine → Simulcast → Simulcast
after_lines [] h = h
after_lines (line ∷ lines) h = after_lines lines (line_replied line h).after

-- the state after a script; before it there is no call and no bundle
abbrev pub left_by : BundleScript → Simulcast
left_by script = after_lines script.lines (nothing_made [])

-- The state after the whole script, and the state after the lines that are judged before its end is reached. In both, the room's guarantees
-- (`Headline`) hold, each leg of a bundle is a live subscriber, and a strict receiver has no complaint about the packets that a bundle sends.
pub record AreBundlesOf (bytes : List ℕ) : Type 0 where
  pub whole : IsPleasing (left_by (bundle_script bytes))
  pub so_far : IsPleasing (left_by (bundle_script_so_far bytes))

-- The same for all bytes of a source, whether contracts see them or not, and so for each prefix of them.
abbrev pub AreBundlesServed : Type 0
AreBundlesServed = (bytes : List ℕ) → AreBundlesOf bytes
