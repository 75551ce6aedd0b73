-- Marks, runs and parts that carry data of another type. No statement about cuts depends on the data that a part carries.
use Rattle.std.specs.Prelude.{map}
use Rattle.forwarding_model.specs.frames.Cuts.{Part, Mark, Run}
use Rattle.forwarding_model.specs.frames.Cuts.Mark.{Gone, Padding, Unreadable, Read}

abbrev pub part_with : {X Y : Type 0} → (X → Y) → Part X → Part Y
part_with f part = record {
  start = part.start;
  end = part.end;
  number = part.number;
  continues = part.continues;
  carries = part.carries;
  brings = f part.brings;
}

abbrev pub mark_with : {X Y : Type 0} → (X → Y) → Mark X → Mark Y
mark_with f Gone = Gone
mark_with f Padding = Padding
mark_with f Unreadable = Unreadable
mark_with f (Read part) = Read (part_with f part)

abbrev pub run_with : {X Y : Type 0} → (X → Y) → Run X → Run Y
run_with f run = record { first = part_with f run.first; more = map (part_with f) run.more; newest = part_with f run.newest }
