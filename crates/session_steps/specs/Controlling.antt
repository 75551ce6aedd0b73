-- What remains to be done in a controller's session.
use Rattle.std.specs.Prelude.{ℕ, Option, None, Some}
use Rattle.sfu_base.specs.declared.call.Call.{Call}
use Rattle.session_steps.specs.Deeds.{Ask, Post}
use Rattle.session_steps.specs.Datagrams.{text_for}
use Rattle.session_steps.specs.Sessions.{Doing, control_deed}

-- the call of a line, if one remains to be made, and the text of its answer; then this many turns
abbrev pub controlling : Option Call → ℕ → Doing
controlling None turns = control_deed turns
controlling (Some said) turns = Ask said (λ answer. Post (text_for answer) (control_deed turns))

abbrev pub controlling_calls : Option Call → ℕ
controlling_calls None = 0
controlling_calls (Some said) = 1
