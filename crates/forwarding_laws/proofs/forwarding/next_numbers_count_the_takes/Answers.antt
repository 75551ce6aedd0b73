use Rattle.forwarding_laws.proofs.OutgoingWords.{next_numbers_count_takes}
use Rattle.forwarding_laws.proofs.forwarding.next_numbers_count_the_takes.Goals as goal

pub returns : goal.returns
returns g c = next_numbers_count_takes
