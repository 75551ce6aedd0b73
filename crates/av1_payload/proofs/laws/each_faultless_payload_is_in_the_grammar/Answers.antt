use Rattle.av1_payload.proofs.Grammar.{is_payload}
use Rattle.av1_payload.proofs.laws.each_faultless_payload_is_in_the_grammar.Goals as goal

pub returns : goal.returns
returns c = is_payload
