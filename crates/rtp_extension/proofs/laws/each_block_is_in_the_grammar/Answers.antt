use Rattle.rtp_extension.proofs.Grammar.{each_block}
use Rattle.rtp_extension.proofs.laws.each_block_is_in_the_grammar.Goals as goal

pub returns : goal.returns
returns c = each_block
