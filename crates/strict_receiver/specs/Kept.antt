-- The value that the fields of a receiver represent, and what always holds for them.
use Rattle.strict_receiver.specs.declared.receiver.Receiver.TheInside.{Inside}
use Rattle.strict_receiver.specs.Receivers.{Seen}
use Rattle.strict_receiver.specs.States.{HasStood, receiver_in}

abbrev pub seen : Inside → Seen
seen r = record { id = r.state.value.id; receiver = receiver_in r.state.value; packets = r.packets; frames = r.frames }

abbrev pub IsKept : Inside → Type 0
IsKept r = HasStood r.state.value
