-- The texts about a stream: counts of what was made of it, and counts of what a receiver got. Own rule.
use Rattle.std.specs.Prelude.{ℕ, List, ◌++◌, reverse, codes, decimal}
use Rattle.stream_maker.specs.declared.counts.Counts.{Counts}
use Rattle.stream_maker.specs.Packets.{packets}
use Rattle.stream_maker.specs.Stream.{Stream, counts_of}

-- the counts of the whole stream
unfoldable pub made : Stream → Counts
made s = counts_of s (reverse (packets s.frames))

-- two lines with the counts of what was made
abbrev pub made_text : Counts → List ℕ
made_text c =
    codes "made " ++ (decimal c.frames ++ (codes " frames " ++ (decimal c.packets ++ (codes " packets\nlost "
    ++ (decimal c.lost ++ (codes " repeated " ++ (decimal c.repeated ++ (codes " swapped " ++ (decimal c.swapped ++ codes "\n")))))))))

-- the line of a subscriber, whose receiver accepted these numbers of frames and packets, and has this number of complaints
abbrev pub counts_text : ℕ → ℕ → ℕ → ℕ → List ℕ
counts_text n frames packets complaints =
    codes "subscriber " ++ (decimal n ++ (codes " frames " ++ (decimal frames ++ (codes " packets " ++ (decimal packets
    ++ (codes " complaints " ++ (decimal complaints ++ codes "\n")))))))
