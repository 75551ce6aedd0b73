use Rattle.std.proofs.Common.{arith}
use Rattle.hex.specs.Hex.{lower_digits}
use Rattle.hex.proofs.HexLemmas.{length-encode_with}
use Rattle.script_texts.proofs.hex_text.HexDigitsText.write.Goals as goal

pub write_hex-requires : goal.write_hex-requires
write_hex-requires c = omega (arith, length-encode_with lower_digits c.args.self.now.bytes.now)
