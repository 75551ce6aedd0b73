use Rattle.cause_book.proofs.Modelled.{keeps_causes}
use Rattle.cause_book.proofs.laws.a_book_has_causes.Goals as goal

pub returns : goal.returns
returns g c = keeps_causes
