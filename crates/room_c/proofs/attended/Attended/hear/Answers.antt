use Rattle.std.proofs.Common.{inl, refl}
use Rattle.room_c.proofs.attended.Attended.hear.Goals as goal

pub returns-in-Some : goal.returns-in-Some
returns-in-Some c = inl (c.bare.ensures, refl, c.in-Some._call.now, c.in-Some.ensures)
