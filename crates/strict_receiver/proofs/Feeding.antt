-- A receiver after one more packet, whatever it represents.
use Rattle.std.proofs.Common.{◌≡◌, ℕ, true, Option, Some, None, Err, refl, sym, ap, subst}
use Rattle.forwarding_model.specs.declared.complaint.Complaint.{Complaint}
use Rattle.forwarding_model.specs.forwarding.Timeline.{Packet}
use Rattle.forwarding_model.specs.Receiver.{Receiver, complaint_of, is_content, receive}
use Rattle.forwarding_model.specs.Receiver.Receiver.{Waiting, Receiving, Complaining}
use Rattle.dd_structure.specs.TemplateStructure.{TemplateStructure}
use Rattle.packet_format.specs.Formats.{format_of}
use Rattle.strict_receiver.specs.declared.state.Stage.{Stage}
use Rattle.strict_receiver.specs.declared.state.Stage.TheVariants as stage
use Rattle.strict_receiver.specs.declared.state.State.{State}
use Rattle.strict_receiver.specs.States.{Answers, Fed, IsStageOf, IsStateOf, answer_of}

pub content_of_stage : (s : State) (m : Receiver TemplateStructure) → ((c : Complaint) → s.stage ≡ stage.Complaining c → ⊥) → IsStateOf s m → is_content m ≡ true
content_of_stage s Waiting other stands = refl
content_of_stage s (Receiving x) other stands = refl
content_of_stage s (Complaining d) other stands = absurd (go s.stage refl stands)
  where
    go : (x : Stage) → s.stage ≡ x → IsStageOf x s.frame s.structure s.received (Complaining d) → ⊥
    go stage.Waiting e h = h
    go (stage.Receiving x) e h = h
    go (stage.Complaining c) e h = other c e

pub complaining_is : (s : State) (c : Complaint) (m : Receiver TemplateStructure) → s.stage ≡ stage.Complaining c → IsStateOf s m → m ≡ Complaining c
complaining_is s c m at stands = go m (subst (λ (x : Stage). IsStageOf x s.frame s.structure s.received m) at stands)
  where
    go : (m : Receiver TemplateStructure) → IsStageOf (stage.Complaining c) s.frame s.structure s.received m → m ≡ Complaining c
    go Waiting h = absurd h
    go (Receiving x) h = absurd h
    go (Complaining d) h = ap (λ (x : Complaint). Complaining x) (sym h)

pub stays : (id : ℕ) (c : Complaint) (came : Option Packet) → receive (format_of id) (Complaining c) came ≡ Complaining c
stays id c None = refl
stays id c (Some packet) = refl

pub err_is : (s : State) (c : Complaint) (next : Receiver TemplateStructure) → Answers s (Err c) next → next ≡ Complaining c
err_is s c Waiting h = absurd h
err_is s c (Receiving x) h = absurd h
err_is s c (Complaining d) h = ap (λ (x : Complaint). Complaining x) (sym h)

pub complained : (new : State) (c : Complaint) (next : Receiver TemplateStructure) → next ≡ Complaining c → new.stage ≡ stage.Complaining c → Fed new (Err c) next
complained new c next e at = record {
  answer = sym (ap (λ (m : Receiver TemplateStructure). answer_of (complaint_of m)) e);
  stands = subst (λ (m : Receiver TemplateStructure). IsStateOf new m) (sym e)
      (subst (λ (x : Stage). IsStageOf x new.frame new.structure new.received (Complaining c)) (sym at) refl);
}
