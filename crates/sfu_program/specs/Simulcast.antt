-- The command `simulcast`: each line of the source is a call by seat 0 on a room with
-- bundles that records nothing, or a call on a bundle. Each reply is a line of the sink.
use Rattle.std.specs.Prelude.{◌≡◌, ◌⊎◌, ℕ, if◌then◌else◌, List, [], ◌∷◌, ◌++◌, Option, Some, None}
use Rattle.script_texts.specs.WholeLines.{fault_line}
use Rattle.sfu_driver.specs.Drive.{outside_end}
use Rattle.sfu_driver.specs.Exchange.{Exchange}
use Rattle.sfu_driver.specs.declared.halt.Ending.TheVariants.{Outside}
use Rattle.sfu_driver.specs.Outcome.{Outcome, ends_with, goes_on, writes}
use Rattle.sfu_driver.specs.Statuses.{Due, Statuses}
use Rattle.sfu_script.specs.Skipped.{is_skipped}
use Rattle.bundle_lines.specs.ReadLines.{line_of}
use Rattle.bundle_lines.specs.declared.line.BundleLine.{BundleLine}
use Rattle.simulcast.specs.Bundles.{Simulcast, nothing_made}
use Rattle.sfu_program.specs.SimulcastScript.{BundleScript, bundle_script, bundle_script_so_far}
use Rattle.sfu_program.specs.SimulcastTexts.{line_replied}

-- ---- a line

-- the reply to a line, or the end at a line that isn't a call
abbrev pub bundle_reply_to : Option BundleLine → ℕ → Simulcast → Outcome Simulcast
bundle_reply_to None number h = ends_with Outside (fault_line number)
bundle_reply_to (Some line) number h = writes (line_replied line h).reply (line_replied line h).after

-- what is due for the line with this number
abbrev pub bundle_served : Simulcast → ℕ → List ℕ → Outcome Simulcast
bundle_served h number text = if is_skipped text then goes_on h else bundle_reply_to (line_of text) number h

-- ---- the whole script

-- the replies to lines, one after another, each in the state after the earlier lines
abbrev pub replies_text : List BundleLine → Simulcast → List ℕ
replies_text [] h = []
replies_text (line ∷ lines) h = (line_replied line h).reply ++ replies_text lines (line_replied line h).after

-- the replies, and then the line that is outside the grammar
abbrev pub due_for_script : BundleScript → Simulcast → Due
due_for_script script h = record { text = replies_text script.lines h; end = outside_end fault_line script.fault }

-- all texts that are due for a script; before it there is no call and no bundle
abbrev pub simulcast_due : List ℕ → Due
simulcast_due bytes = due_for_script (bundle_script bytes) (nothing_made [])

-- what is due for bytes whose end wasn't reached
abbrev pub simulcast_part : List ℕ → Due
simulcast_part bytes = due_for_script (bundle_script_so_far bytes) (nothing_made [])

abbrev pub Simulcasts : Exchange → ℕ → Type 0
Simulcasts x status = Statuses simulcast_due simulcast_part x.left x.left' x.written x.written' x.reads x.reads' x.writes x.writes' status

-- the statuses of `simulcast`
abbrev pub IsSimulcastStatus : ℕ → Type 0
IsSimulcastStatus status = (status ≡ 0) ⊎ (status ≡ 3) ⊎ (status ≡ 4) ⊎ (status ≡ 5) ⊎ (status ≡ 6)
