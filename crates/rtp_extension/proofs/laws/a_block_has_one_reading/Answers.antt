use Rattle.rtp_extension.proofs.Grammar.{block_read, one_reading}
use Rattle.rtp_extension.proofs.laws.a_block_has_one_reading.Goals as goal

pub returns-clause-read : goal.returns-clause-read
returns-clause-read c = block_read

pub returns-clause-one : goal.returns-clause-one
returns-clause-one c = one_reading
