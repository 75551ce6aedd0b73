use Rattle.std.proofs.Common.{length, ap, arith}
use Rattle.std.proofs.lemmas.List.{length-append, length-drop}
use Rattle.dd_bits.specs.Bits.{bits_of}
use Rattle.dd_bits.specs.Reader.{bits_left}
use Rattle.dd_bits.specs.Writer.{written}
use Rattle.dd_bits.proofs.Values.{length-bits_of}
use Rattle.dd_bits.proofs.WritingLoops.{front_step}
use Rattle.dd_bits.proofs.writer.BitWriter.put_front.Goals as goal

pub loop-missing-preserved : goal.loop-missing-preserved
loop-missing-preserved c = record {
  enough = omega (arith, c.loop-missing.invariant.enough, ap length c.take_bits-number.ensures.rest, length-drop c.min-n.result (bits_left c.loop-missing.bits));
  fit = omega (arith, c.loop-missing.invariant.fit, ap length c.put_bits.ensures, length-append (written c.loop-missing.self) (bits_of c.min-n.result c.take_bits-number.result), length-bits_of c.min-n.result c.take_bits-number.result);
  put = front_step c.loop-missing.missing c.min-n.result c.take_bits-number.result (bits_left c.loop-missing.bits) (bits_left c.take_bits-number.new.self) (written c.loop-missing.self) (written c.put_bits.new.self) _ (omega arith) c.loop-missing.invariant.enough
      c.take_bits-number.ensures.number c.take_bits-number.ensures.rest c.put_bits.ensures c.loop-missing.invariant.put;
}
