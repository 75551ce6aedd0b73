use Rattle.std.proofs.Common.{◌≡◌, ◌∙◌, true, false, sym, ap, subst}
use Rattle.std.proofs.lemmas.Result.{err_from_is_err_and}
use Rattle.forwarding_model.specs.Receiver.{Receiver, ends_frame}
use Rattle.dd_structure.specs.TemplateStructure.{TemplateStructure}
use Rattle.strict_receiver.specs.declared.state.State.{State}
use Rattle.strict_receiver.specs.Receivers.{complaint_in}
use Rattle.strict_receiver.specs.States.{IsStateOf}
use Rattle.strict_receiver.proofs.Histories.{accepted_one, answered_one, complained_one, frames_stay}
use Rattle.strict_receiver.proofs.receiver.Receiver.feed.Goals as goal

pub returns-in_err-next-clause-stands : goal.returns-in_err-next-clause-stands
returns-in_err-next-clause-stands c history stands =
    complained_one c.self.inside c.args.self.now c.deref_mut.result.now c.next.new.self c.next.result history c.args.packet.now
    c.self.view_is c.deref_mut.ensures.value c.self.invariant c.next.ensures.id c.next.ensures.fed stands
    c.in_err-next.field-0.0 c.in_err-next.was

pub returns-in_err-next-clause-answer : goal.returns-in_err-next-clause-answer
returns-in_err-next-clause-answer c history stands =
    let p = err_from_is_err_and c.from_residual.result c.from_residual.ensures.1 in
    rw (p.1, p.2) (
    ap complaint_in (sym c.in_err-next.was)
    ∙ answered_one c.self.inside c.args.self.now c.deref_mut.result.now c.next.new.self c.next.result history c.args.packet.now
    c.self.view_is c.deref_mut.ensures.value c.self.invariant c.next.ensures.id c.next.ensures.fed stands)

pub returns-then-has_ended_a_frame-clause-stands : goal.returns-then-has_ended_a_frame-clause-stands
returns-then-has_ended_a_frame-clause-stands c history stands =
    accepted_one c.self.inside c.args.self.now c.deref_mut.result.now c.next.new.self c.next.result history c.args.packet.now
    c.self.view_is c.deref_mut.ensures.value c.self.invariant c.next.ensures.id c.next.ensures.fed stands
    true c.saturating_add-self-inside.result c.saturating_add-self-inside-then-has_ended_a_frame.result c.in_ok-next.was
    (subst (λ (s : State). (m : Receiver TemplateStructure) → IsStateOf s m → 1 ≡ ends_frame m) c.deref.ensures c.if-has_ended_a_frame.ensures)
    c.saturating_add-self-inside.ensures c.saturating_add-self-inside-then-has_ended_a_frame.ensures

pub returns-then-has_ended_a_frame-clause-answer : goal.returns-then-has_ended_a_frame-clause-answer
returns-then-has_ended_a_frame-clause-answer c history stands =
    ap complaint_in (sym c.in_ok-next.was)
    ∙ answered_one c.self.inside c.args.self.now c.deref_mut.result.now c.next.new.self c.next.result history c.args.packet.now
    c.self.view_is c.deref_mut.ensures.value c.self.invariant c.next.ensures.id c.next.ensures.fed stands

pub returns-else-has_ended_a_frame-clause-stands : goal.returns-else-has_ended_a_frame-clause-stands
returns-else-has_ended_a_frame-clause-stands c history stands =
    accepted_one c.self.inside c.args.self.now c.deref_mut.result.now c.next.new.self c.next.result history c.args.packet.now
    c.self.view_is c.deref_mut.ensures.value c.self.invariant c.next.ensures.id c.next.ensures.fed stands
    false c.saturating_add-self-inside.result c.self.inside.frames c.in_ok-next.was
    (subst (λ (s : State). (m : Receiver TemplateStructure) → IsStateOf s m → 0 ≡ ends_frame m) c.deref.ensures c.if-has_ended_a_frame.ensures)
    c.saturating_add-self-inside.ensures
    (frames_stay c.self.inside c.args.self.now c.deref_mut.result.now c.next.new.self c.next.result history c.args.packet.now
    c.self.view_is c.deref_mut.ensures.value c.self.invariant c.next.ensures.id c.next.ensures.fed stands)

pub returns-else-has_ended_a_frame-clause-answer : goal.returns-else-has_ended_a_frame-clause-answer
returns-else-has_ended_a_frame-clause-answer c history stands =
    ap complaint_in (sym c.in_ok-next.was)
    ∙ answered_one c.self.inside c.args.self.now c.deref_mut.result.now c.next.new.self c.next.result history c.args.packet.now
    c.self.view_is c.deref_mut.ensures.value c.self.invariant c.next.ensures.id c.next.ensures.fed stands
