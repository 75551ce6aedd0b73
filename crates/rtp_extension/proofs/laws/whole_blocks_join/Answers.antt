use Rattle.rtp_extension.proofs.Grammar.{whole_read}
use Rattle.rtp_extension.proofs.Joining.{whole_joined, element_whole, padding_whole}
use Rattle.rtp_extension.proofs.laws.whole_blocks_join.Goals as goal

pub returns-clause-joined : goal.returns-clause-joined
returns-clause-joined c = whole_joined

pub returns-clause-element : goal.returns-clause-element
returns-clause-element c = element_whole

pub returns-clause-padding : goal.returns-clause-padding
returns-clause-padding c = padding_whole

pub returns-clause-read : goal.returns-clause-read
returns-clause-read c = whole_read
