use Rattle.std.proofs.Common.{length, arith, ap, sym, ◌∙◌}
use Rattle.std.proofs.lemmas.List.{length-append}
use Rattle.dd_bits.specs.Bits.{bits_of}
use Rattle.dd_bits.specs.Writer.{written}
use Rattle.dd_bits.proofs.Values.{length-bits_of}
use Rattle.dd_bits.proofs.Bytes.{put_more, put_all}
use Rattle.dd_bits.proofs.writer.BitWriter.put_bits.Goals as goal

pub loop-missing-preserved : goal.loop-missing-preserved
loop-missing-preserved c = record {
  capacity = omega (arith, ap length c.put_in_byte.ensures, length-append (written c.loop-missing.self) (bits_of c.min-count.result c.digits_at.result), length-bits_of c.min-count.result c.digits_at.result);
  bits = put_more c.loop-missing.missing c.min-count.result c.args.value c.digits_at.result (written c.loop-missing.self) (written c.put_in_byte.new.self) _ (omega arith) c.digits_at.ensures.value c.put_in_byte.ensures c.loop-missing.invariant.bits;
}

pub returns : goal.returns
returns c = sym (put_all c.loop-missing.missing c.args.value (written c.loop-missing.self) (omega arith)) ∙ c.loop-missing.invariant.bits
