use Rattle.std.proofs.Common.{inl, inr, arith}
use Rattle.sfu_commands.proofs.StreamNumbers.{out_of_range}
use Rattle.sfu_commands.proofs.stream_words.read_stream.Goals as goal
use Rattle.sfu_commands.proofs.stream_words.read_stream.Goals.{then-frames-lt1-via-then-frames-lt1, then-frames-lt1-via-else-frames-lt1+then-frames-gt-MOST_FRAMES, then-frames-lt1-via-else-frames-lt1+else-frames-gt-MOST_FRAMES+then-loss-gt-MOST_LOSS}

pub returns-then-frames-lt1 : goal.returns-then-frames-lt1
returns-then-frames-lt1 c =
    let out = out_of_range c.args.command.now c.args.name.now c.args.frames.now c.args.start.now c.args.loss.now c.in_ok-frames.frames c.in_ok-loss.loss c.in_ok-frames.ensures c.in_ok-loss.ensures in
    elim c.then-frames-lt1.branch [
      | then-frames-lt1-via-then-frames-lt1 w ↦ out (inl (omega arith))
      | then-frames-lt1-via-else-frames-lt1+then-frames-gt-MOST_FRAMES w ↦ out (inr (inl (omega arith)))
      | then-frames-lt1-via-else-frames-lt1+else-frames-gt-MOST_FRAMES+then-loss-gt-MOST_LOSS w ↦ out (inr (inr (omega arith)))
    ]
