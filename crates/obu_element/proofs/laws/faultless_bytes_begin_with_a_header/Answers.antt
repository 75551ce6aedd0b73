use Rattle.obu_element.proofs.Headers.{begins}
use Rattle.obu_element.proofs.laws.faultless_bytes_begin_with_a_header.Goals as goal

pub returns : goal.returns
returns c = begins
