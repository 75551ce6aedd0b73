use Rattle.std.proofs.Common.{◌-◌, arith}
use Rattle.dd_bits.specs.Writer.{written}
use Rattle.dd_bits.proofs.Bytes.{shown_full, shown_part}
use Rattle.dd_bits.proofs.writer.BitWriter.bytes.Goals as goal

pub returns-then-self-eq0 : goal.returns-then-self-eq0
unfolding written
returns-then-self-eq0 c = record { zeros = 0; few = omega arith; holds = rw c.if-self-eq0.true (shown_full c.args.self.now.bytes c.args.self.now.len c.args.self.now.pending) }

pub returns-else-self-eq0 : goal.returns-else-self-eq0
unfolding written
returns-else-self-eq0 c = record {
  zeros = 8 - c.args.self.now.used;
  few = omega arith;
  holds = shown_part c.args.self.now.bytes c.args.self.now.len c.args.self.now.used c.args.self.now.pending (omega (arith, c.args.self.now.within, c.args.self.now.whole)) c.args.self.now.in_byte (c.args.self.now.shown (omega arith));
}
