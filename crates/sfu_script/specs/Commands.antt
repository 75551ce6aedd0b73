-- The commands by their names. A name is the first word of a line.
use Rattle.std.specs.Prelude.{ℕ, if◌then◌else◌, List, Option, Some, None, codes}
use Rattle.std.specs.Str.{bytes_eq}
use Rattle.sfu_script.specs.declared.commands.TrackCommand.{TrackCommand}
use Rattle.sfu_script.specs.declared.commands.TrackCommand.TheVariants.{Publish, Unpublish, Packet, Tick, Missing, Key}
use Rattle.sfu_script.specs.declared.commands.SubscriberCommand.{SubscriberCommand}
use Rattle.sfu_script.specs.declared.commands.SubscriberCommand.TheVariants.{Join, Leave, Aim, Take, Resend, Plead, Why}

-- the command about a track that has this name
abbrev pub track_command_of : List ℕ → Option TrackCommand
track_command_of word =
    if bytes_eq word (codes "publish") then Some Publish
    else if bytes_eq word (codes "unpublish") then Some Unpublish
    else if bytes_eq word (codes "packet") then Some Packet
    else if bytes_eq word (codes "tick") then Some Tick
    else if bytes_eq word (codes "missing") then Some Missing
    else if bytes_eq word (codes "key") then Some Key
    else None

-- the command about a subscriber that has this name
abbrev pub subscriber_command_of : List ℕ → Option SubscriberCommand
subscriber_command_of word =
    if bytes_eq word (codes "join") then Some Join
    else if bytes_eq word (codes "leave") then Some Leave
    else if bytes_eq word (codes "aim") then Some Aim
    else if bytes_eq word (codes "take") then Some Take
    else if bytes_eq word (codes "resend") then Some Resend
    else if bytes_eq word (codes "plead") then Some Plead
    else if bytes_eq word (codes "why") then Some Why
    else None
