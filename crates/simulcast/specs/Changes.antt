-- The conditions for a change of leg. Own statement.
use Rattle.std.specs.Prelude.{◌≡◌, ℕ, List, [], true, Some}
use Rattle.room_core.specs.History.{accepted}
use Rattle.room_core.specs.WellFormed.{AreWellFormed}
use Rattle.leg_switch.specs.Marks.{marks_of, starts_key}
use Rattle.leg_switch.specs.Switching.{Standing, goes_out, standing}
use Rattle.simulcast.specs.Waiting.{waiting}
use Rattle.simulcast.specs.Made.{AreLegs, Made, leg_at}
use Rattle.simulcast.specs.Pumping.{Pumping}

-- the state of the bundle's switch
abbrev pub standing_of : Made → Standing
standing_of m = standing (marks_of m.id) m.events

-- If no packet is queued for the active leg, for example after a pump has drained it, a key start of the chosen leg is
-- forwarded. Then only whole frames were taken from the active leg, so the last packet taken from it ended its frame.
abbrev pub KeyStartsGoOut : Type 0
KeyStartsGoOut = (s : Pumping) (active n : ℕ) (key : List ℕ) → AreWellFormed (accepted s.history) → AreLegs (accepted s.history) s.made
    → (standing_of s.made).active ≡ Some active → leg_at active s.made.legs ≡ Some n → waiting n (accepted s.history) ≡ []
    → starts_key s.made.id key ≡ true → goes_out (marks_of s.made.id) (standing_of s.made) (standing_of s.made).chosen key ≡ true
