use Rattle.std.proofs.Common.{arith}
use Rattle.script_texts.proofs.HexText.{length_line}
use Rattle.script_texts.proofs.hex_text.PacketLineText.size.Goals as goal

pub returns : goal.returns
returns c = omega (arith, length_line c.args.self.now.bytes.now)
