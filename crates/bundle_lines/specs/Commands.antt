-- The commands by their names. A name is the first word of a line.
use Rattle.std.specs.Prelude.{ℕ, if◌then◌else◌, List, Option, Some, None, codes}
use Rattle.std.specs.Str.{bytes_eq}
use Rattle.bundle_lines.specs.declared.command.BundleCommand.{BundleCommand}
use Rattle.bundle_lines.specs.declared.command.BundleCommand.TheVariants.{Bundle, Choose, Pump, Draw, Redraw}

-- the command with this name
abbrev pub command_of : List ℕ → Option BundleCommand
command_of word =
    if bytes_eq word (codes "bundle") then Some Bundle
    else if bytes_eq word (codes "choose") then Some Choose
    else if bytes_eq word (codes "pump") then Some Pump
    else if bytes_eq word (codes "draw") then Some Draw
    else if bytes_eq word (codes "redraw") then Some Redraw
    else None
