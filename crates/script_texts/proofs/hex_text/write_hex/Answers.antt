use Rattle.std.proofs.Common.{◌∙◌, refl, arith, length-set}
use Rattle.hex.specs.Hex.{lower_digits}
use Rattle.hex.proofs.Pairs.{encode_done}
use Rattle.script_texts.proofs.HexText.{pair_written}
use Rattle.script_texts.proofs.hex_text.write_hex.Goals as goal

pub loop-i-preserved : goal.loop-i-preserved
loop-i-preserved c = record {
  whole = length-set _ _ _ ∙ length-set _ _ _ ∙ c.loop-i.invariant.whole;
  written = pair_written c.args.bytes.now c.loop-i.digits c.digits_of-pair.result c.loop-i.i _ (omega arith) refl c.digits_of-pair.ensures
      c.loop-i.invariant.whole c.loop-i.invariant.written;
}

pub returns : goal.returns
returns c = encode_done lower_digits c.args.bytes.now c.loop-i.digits c.loop-i.i (omega arith) c.loop-i.invariant.whole c.loop-i.invariant.written
