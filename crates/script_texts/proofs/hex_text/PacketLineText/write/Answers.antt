use Rattle.std.proofs.Common.{arith}
use Rattle.script_texts.proofs.HexText.{length_line}
use Rattle.script_texts.proofs.hex_text.PacketLineText.write.Goals as goal

pub write_line-requires : goal.write_line-requires
write_line-requires c = omega (arith, length_line c.args.self.now.bytes.now)
