use Rattle.std.proofs.Common.{ℕ, List, sym, ap, ◌∙◌, drop, subst, arith}
use Rattle.std.proofs.lemmas.List.{take_rest}
use Rattle.std.proofs.lemmas.Result.{err_from_is_err_and}
use Rattle.rtcp_feedback.specs.Faults.{fault_among, packets_in}
use Rattle.rtcp_feedback.proofs.Cutting.{fault_here, fault_behind, fault_of_some, no_packet_fault, some_bytes, no_bytes}
use Rattle.rtcp_feedback.proofs.Placing.{left_first, stands_first}
use Rattle.rtcp_feedback.specs.Datagram.{IsDatagram}
use Rattle.rtcp_feedback.specs.declared.feedback.Feedback.{Feedback}
use Rattle.rtcp_feedback.proofs.Datagrams.{is_datagram}
use Rattle.rtcp_feedback.proofs.reader.read.Goals as goal

pub returns-in_err-length-clause-fault : goal.returns-in_err-length-clause-fault
returns-in_err-length-clause-fault c =
    let p = err_from_is_err_and c.from_residual.result c.from_residual.ensures.1 in
    rw (p.1, p.2)
    (fault_of_some c.args.bytes.now (some_bytes _ c.if-is_empty.ensures)
    ∙ sym c.loop-rest.invariant
    ∙ fault_here c.loop-rest.rest.now _ (some_bytes _ c.loop-rest-test.ensures) c.in_err-length.ensures.fault)

pub loop-rest-preserved : goal.loop-rest-preserved
loop-rest-preserved c =
    ap (λ (xs : List ℕ). fault_among (packets_in xs))
    (take_rest c.loop-rest.rest.now c.in_ok-length.length ∙ ap (λ (n : ℕ). drop n c.loop-rest.rest.now) c.in_ok-length.ensures.length)
    ∙ fault_behind c.loop-rest.rest.now (some_bytes _ c.loop-rest-test.ensures) c.in_ok-length.ensures.ok
    ∙ c.loop-rest.invariant

pub invariant_of-result : goal.invariant_of-result
invariant_of-result c =
    stands_first c.args.bytes.now c.cursor_at-cursor.result c.cursor_at-cursor.ensures.fields (sym c.loop-rest.invariant ∙ no_packet_fault c.loop-rest.rest.now (no_bytes _ c.loop-rest-test.ensures))

pub returns-clause-items : goal.returns-clause-items
returns-clause-items c = left_first c.args.bytes.now c.cursor_at-cursor.result (c.cursor_at-cursor.ensures.left c.args.bytes.now)

pub returns-clause-ok : goal.returns-clause-ok
returns-clause-ok c =
    fault_of_some c.args.bytes.now (some_bytes _ c.if-is_empty.ensures)
    ∙ sym c.loop-rest.invariant ∙ no_packet_fault c.loop-rest.rest.now (no_bytes _ c.loop-rest-test.ensures)

pub returns-clause-grammar : goal.returns-clause-grammar
returns-clause-grammar c =
    subst (λ (items : List Feedback). IsDatagram c.args.bytes.now items) (sym (returns-clause-items c))
    (is_datagram c.args.bytes.now (λ i. omega (arith, c.type_inv.bytes i)) (returns-clause-ok c))
