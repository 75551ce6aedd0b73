-- The call of a line, as a function, which computes on whole scripts.
use Rattle.std.specs.Prelude.{ℕ, if◌then◌else◌, List, [], ◌∷◌, Option, Some, None, codes}
use Rattle.std.specs.Option.{option_map_or}
use Rattle.std.specs.Str.{bytes_eq}
use Rattle.sfu_base.specs.declared.call.Call.{Call}
use Rattle.sfu_base.specs.declared.call.Call.TheVariants.{Publish, Unpublish, Packet, Tick, Join, Leave, Aim, Take, Resend, Missing, KeyWanted, Plead, Why}
use Rattle.sfu_base.specs.declared.call.Kind.TheVariants.{Plain, Layered}
use Rattle.sfu_script.specs.Reading.{◌>>=◌, cut, field, number_of, bytes_of}
use Rattle.sfu_script.specs.Commands.{track_command_of, subscriber_command_of}
use Rattle.sfu_script.specs.Fields.{fields_of}
use Rattle.sfu_script.specs.declared.commands.TrackCommand.{TrackCommand}
use Rattle.sfu_script.specs.declared.commands.TrackCommand.TheVariants as of_track
use Rattle.sfu_script.specs.declared.commands.SubscriberCommand.{SubscriberCommand}
use Rattle.sfu_script.specs.declared.commands.SubscriberCommand.TheVariants as of_subscriber
use Rattle.sfu_script.specs.declared.fields.Field.TheVariants.{Number8, Number16, Number32, Number64, Ssrc}

-- ---- the call with one, two, three or six numbers

abbrev pub of_one : (ℕ → Call) → List ℕ → Option Call
of_one call (a ∷ []) = Some (call a)
of_one call numbers = None

abbrev pub of_two : {X : Type 0} → (ℕ → ℕ → X) → List ℕ → Option X
of_two call (a ∷ b ∷ []) = Some (call a b)
of_two call numbers = None

abbrev pub of_three : (ℕ → ℕ → ℕ → Call) → List ℕ → Option Call
of_three call (a ∷ b ∷ c ∷ []) = Some (call a b c)
of_three call numbers = None

abbrev pub of_six : (ℕ → ℕ → ℕ → ℕ → ℕ → ℕ → Call) → List ℕ → Option Call
of_six call (a ∷ b ∷ c ∷ d ∷ e ∷ f ∷ []) = Some (call a b c d e f)
of_six call numbers = None

-- ---- the words after the first one

-- after `publish`: the track, and then the words that depend on its kind
abbrev pub plain_of : ℕ → List ℕ → Option Call
plain_of track rest = fields_of (Ssrc ∷ Number32 ∷ []) rest >>= of_two (λ ssrc hold. Publish track Plain ssrc hold)

abbrev pub layered_of : ℕ → List ℕ → Option Call
layered_of track rest = fields_of (Ssrc ∷ Number32 ∷ Number8 ∷ []) rest >>= of_three (λ ssrc hold id. Publish track (Layered id) ssrc hold)

abbrev pub kind_of : ℕ → List ℕ → List ℕ → Option Call
kind_of track word rest =
    if bytes_eq word (codes "plain") then plain_of track rest
    else if bytes_eq word (codes "layered") then layered_of track rest
    else None

unfoldable pub publish_of : List ℕ → Option Call
publish_of rest = do
  track ← field (number_of 32) rest
  kind ← cut track.1
  kind_of track.0 kind.0 kind.1

-- after `packet`: the track, the moment, and then the hex digits
unfoldable pub packet_head_of : List ℕ → Option (ℕ × ℕ × List ℕ)
packet_head_of rest = do
  track ← field (number_of 32) rest
  moment ← field (number_of 64) track.1
  Some (track.0, moment.0, moment.1)

unfoldable pub packet_of : List ℕ → Option Call
packet_of rest = do
  head ← packet_head_of rest
  bytes ← bytes_of head.2
  Some (Packet head.0 head.1 bytes)

-- the call of a track's command with these further words
abbrev pub track_call_of : TrackCommand → List ℕ → Option Call
track_call_of of_track.Publish rest = publish_of rest
track_call_of of_track.Unpublish rest = fields_of (Number32 ∷ []) rest >>= of_one (λ track. Unpublish track)
track_call_of of_track.Packet rest = packet_of rest
track_call_of of_track.Tick rest = fields_of (Number32 ∷ Number64 ∷ []) rest >>= of_two (λ track moment. Tick track moment)
track_call_of of_track.Missing rest = fields_of (Number32 ∷ []) rest >>= of_one (λ track. Missing track)
track_call_of of_track.Key rest = fields_of (Number32 ∷ []) rest >>= of_one (λ track. KeyWanted track)

-- the call of a subscriber's command with these further words
abbrev pub subscriber_call_of : SubscriberCommand → List ℕ → Option Call
subscriber_call_of of_subscriber.Join rest =
    fields_of (Number32 ∷ Number32 ∷ Ssrc ∷ Number16 ∷ Number8 ∷ Number8 ∷ []) rest
    >>= of_six (λ subscriber track ssrc first spatial temporal. Join subscriber track ssrc first (record { spatial = spatial; temporal = temporal }))
subscriber_call_of of_subscriber.Leave rest = fields_of (Number32 ∷ []) rest >>= of_one (λ subscriber. Leave subscriber)
subscriber_call_of of_subscriber.Aim rest =
    fields_of (Number32 ∷ Number8 ∷ Number8 ∷ []) rest
    >>= of_three (λ subscriber spatial temporal. Aim subscriber (record { spatial = spatial; temporal = temporal }))
subscriber_call_of of_subscriber.Take rest = fields_of (Number32 ∷ []) rest >>= of_one (λ subscriber. Take subscriber)
subscriber_call_of of_subscriber.Resend rest = fields_of (Number32 ∷ Number16 ∷ []) rest >>= of_two (λ subscriber seq. Resend subscriber seq)
subscriber_call_of of_subscriber.Plead rest = fields_of (Number32 ∷ []) rest >>= of_one (λ subscriber. Plead subscriber)
subscriber_call_of of_subscriber.Why rest = fields_of (Number32 ∷ Number64 ∷ []) rest >>= of_two (λ subscriber number. Why subscriber number)

-- the call of a first word with these further words
abbrev pub command_of : List ℕ → List ℕ → Option Call
command_of word rest =
    option_map_or (λ command. track_call_of command rest) (track_command_of word) (subscriber_command_of word >>= (λ command. subscriber_call_of command rest))

-- the call of a line
abbrev pub call_of : List ℕ → Option Call
call_of line = do
  parts ← cut line
  command_of parts.0 parts.1
