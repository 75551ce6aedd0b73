use Rattle.std.proofs.Common.{ap, sym, arith}
use Rattle.std.proofs.lemmas.Result.{err_from_is_err_and}
use Rattle.av1_payload.specs.Reading.{flags_of}
use Rattle.av1_payload.specs.Seen.{elements_within}
use Rattle.av1_payload.proofs.Faulty.{fault_found}
use Rattle.av1_payload.proofs.Taken.{IsTaken, taken_fault, taken_elements, taken_payload}
use Rattle.av1_payload.proofs.payload.read.Goals as goal

pub returns-in_err-check-clause-fault_is_there : goal.returns-in_err-check-clause-fault_is_there
returns-in_err-check-clause-fault_is_there c =
    let p = err_from_is_err_and c.from_residual.result c.from_residual.ensures.1 in
    let bytes = c.args.bytes.now in
    let taken : IsTaken bytes c.in-Some.header.now c.layout_behind-layout.result c.in-Some.elements.now =
    record { put = c.in-Some.ensures.cases.0; laid = c.layout_behind-layout.ensures } in
    rw (p.1, p.2)
    (fault_found _ bytes (λ i. omega (arith, c.type_inv.bytes i))
    (taken_fault bytes c.in-Some.header.now c.layout_behind-layout.result c.in-Some.elements.now _ taken c.in_err-check.ensures))

pub returns-clause-elements : goal.returns-clause-elements
unfolding elements_within
returns-clause-elements c =
    taken_elements c.args.bytes.now c.in-Some.header.now c.layout_behind-layout.result c.in-Some.elements.now
    (record { put = c.in-Some.ensures.cases.0; laid = c.layout_behind-layout.ensures }) c.in_ok-check.ensures

pub returns-clause-grammar : goal.returns-clause-grammar
unfolding elements_within
returns-clause-grammar c =
    taken_payload c.args.bytes.now c.in-Some.header.now c.layout_behind-layout.result c.in-Some.elements.now _ _
    (λ i. omega (arith, c.type_inv.bytes i)) (record { put = c.in-Some.ensures.cases.0; laid = c.layout_behind-layout.ensures })
    c.in_ok-check.ensures (ap flags_of c.in-Some.ensures.cases.0) (sym (returns-clause-elements c))
