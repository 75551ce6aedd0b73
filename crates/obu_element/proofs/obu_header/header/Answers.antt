use Rattle.std.proofs.Common.{arith}
use Rattle.obu_element.proofs.Headers.{found_from, none_from}
use Rattle.obu_element.proofs.obu_header.header.Goals as goal

pub returns-clause-found : goal.returns-clause-found
returns-clause-found c =
    found_from c.args.bytes.now _ (λ i. omega (arith, c.type_inv.bytes i)) c.located.ensures.fields c.located.ensures.ok

pub returns-clause-none : goal.returns-clause-none
returns-clause-none c = none_from c.args.bytes.now _ c.located.ensures.fault
