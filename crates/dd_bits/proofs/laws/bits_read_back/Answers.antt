use Rattle.dd_bits.proofs.ReadBack.{fixed_again, fixed_found}
use Rattle.dd_bits.proofs.laws.bits_read_back.Goals as goal

pub returns-clause-back : goal.returns-clause-back
returns-clause-back c = fixed_again

pub returns-clause-spelled : goal.returns-clause-spelled
returns-clause-spelled c n v bits rest read = let found = fixed_found n v bits rest read in (found.spelled, found.small)
