-- The value that the fields of a frame represent for contracts.
use Rattle.std.specs.Prelude.{[], ℕ, List, Option, None, Some}
use Rattle.frame_assembly.specs.declared.frame.Frame.TheInside.{Inside}
use Rattle.frame_assembly.specs.declared.frame.Progress.{Progress}
use Rattle.frame_assembly.specs.declared.frame.Progress.TheVariants as progress
use Rattle.frame_assembly.specs.Assembled.{Seen, Unfinished}

abbrev pub unfinished_in : Progress → Unfinished → Option Unfinished
unfinished_in progress.Nothing u = None
unfinished_in progress.Unfinished u = Some u
unfinished_in progress.Whole u = None

abbrev pub frame_in : Progress → List (List ℕ) → List (List ℕ)
frame_in progress.Nothing packets = []
frame_in progress.Unfinished packets = []
frame_in progress.Whole packets = packets

abbrev pub seen : Inside → Seen
seen f = record {
  unfinished = unfinished_in f.progress (record { number = f.number; open_element = f.joiner; packets = f.packets });
  frame = frame_in f.progress f.packets;
}
