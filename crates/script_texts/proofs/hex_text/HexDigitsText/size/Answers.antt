use Rattle.std.proofs.Common.{arith}
use Rattle.hex.specs.Hex.{lower_digits}
use Rattle.hex.proofs.HexLemmas.{length-encode_with}
use Rattle.script_texts.proofs.hex_text.HexDigitsText.size.Goals as goal

pub returns : goal.returns
returns c = omega (arith, length-encode_with lower_digits c.args.self.now.bytes.now)
