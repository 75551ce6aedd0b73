use Rattle.std.proofs.Common.{◌∙◌}
use Rattle.script_texts.proofs.HexText.{digits_in_word}
use Rattle.script_texts.proofs.hex_text.digits_of.Goals as goal

pub returns : goal.returns
returns c = c.to_le_bytes.ensures ∙ digits_in_word c.args.byte c.from.result c.from-2.result c.ranges.byte.fits c.from.ensures c.from-2.ensures
