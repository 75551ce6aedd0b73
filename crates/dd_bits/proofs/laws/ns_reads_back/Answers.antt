use Rattle.dd_bits.proofs.ReadBack.{non_symmetric_again, non_symmetric_found}
use Rattle.dd_bits.proofs.laws.ns_reads_back.Goals as goal

pub returns-clause-back : goal.returns-clause-back
returns-clause-back c = non_symmetric_again

pub returns-clause-spelled : goal.returns-clause-spelled
returns-clause-spelled c n v bits rest least most read = let found = non_symmetric_found n v bits rest least most read in (found.spelled, found.small)
