-- The meaning of a line, as a function, which computes on whole scripts.
use Rattle.std.specs.Prelude.{ℕ, List, [], ◌∷◌, Option, Some, None}
use Rattle.sfu_script.specs.Fields.{fields_of}
use Rattle.sfu_script.specs.Reading.{◌>>=◌, cut}
use Rattle.sfu_script.specs.ReadLines.{call_of, of_two}
use Rattle.sfu_script.specs.declared.fields.Field.TheVariants.{Number8, Number16, Number32, Ssrc}
use Rattle.bundle_lines.specs.Commands.{command_of}
use Rattle.bundle_lines.specs.declared.command.BundleCommand.{BundleCommand}
use Rattle.bundle_lines.specs.declared.command.BundleCommand.TheVariants as command
use Rattle.bundle_lines.specs.declared.line.BundleLine.{BundleLine}
use Rattle.bundle_lines.specs.declared.line.BundleLine.TheVariants as line

-- the first of the two that has a value
abbrev pub or_else : Option BundleLine → Option BundleLine → Option BundleLine
or_else None other = other
or_else (Some said) other = Some said

-- ---- a line of one, six or seven numbers

abbrev pub of_number : (ℕ → BundleLine) → List ℕ → Option BundleLine
of_number said (a ∷ []) = Some (said a)
of_number said numbers = None

abbrev pub with_two_legs : List ℕ → Option BundleLine
with_two_legs (bundle ∷ id ∷ ssrc ∷ first ∷ one ∷ two ∷ []) = Some (line.Bundle bundle id ssrc first (one ∷ two ∷ 0 ∷ []) 2)
with_two_legs numbers = None

abbrev pub with_three_legs : List ℕ → Option BundleLine
with_three_legs (bundle ∷ id ∷ ssrc ∷ first ∷ one ∷ two ∷ three ∷ []) = Some (line.Bundle bundle id ssrc first (one ∷ two ∷ three ∷ []) 3)
with_three_legs numbers = None

-- ---- the words after the first one

abbrev pub two_legs_of : List ℕ → Option BundleLine
two_legs_of rest = fields_of (Number32 ∷ Number8 ∷ Ssrc ∷ Number16 ∷ Number32 ∷ Number32 ∷ []) rest >>= with_two_legs

abbrev pub three_legs_of : List ℕ → Option BundleLine
three_legs_of rest = fields_of (Number32 ∷ Number8 ∷ Ssrc ∷ Number16 ∷ Number32 ∷ Number32 ∷ Number32 ∷ []) rest >>= with_three_legs

abbrev pub bundle_of : List ℕ → Option BundleLine
bundle_of rest = or_else (three_legs_of rest) (two_legs_of rest)

abbrev pub said_of : BundleCommand → List ℕ → Option BundleLine
said_of command.Bundle rest = bundle_of rest
said_of command.Choose rest = fields_of (Number32 ∷ Number8 ∷ []) rest >>= of_two (λ bundle leg. line.Choose bundle leg)
said_of command.Pump rest = fields_of (Number32 ∷ []) rest >>= of_number (λ bundle. line.Pump bundle)
said_of command.Draw rest = fields_of (Number32 ∷ []) rest >>= of_number (λ bundle. line.Draw bundle)
said_of command.Redraw rest = fields_of (Number32 ∷ Number16 ∷ []) rest >>= of_two (λ bundle seq. line.Redraw bundle seq)

-- ---- a line

-- the command about a bundle that is in a line
abbrev pub own_of : List ℕ → Option BundleLine
own_of text = do
  parts ← cut text
  said ← command_of parts.0
  said_of said parts.1

-- the meaning of a line
abbrev pub line_of : List ℕ → Option BundleLine
line_of text = or_else (call_of text >>= (λ said. Some (line.Room said))) (own_of text)
