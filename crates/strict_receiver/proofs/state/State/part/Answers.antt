use Rattle.std.proofs.Common.{◌≡◌, Bool, cond, Ok, refl, sym, ap, subst, ◌∙◌}
use Rattle.std.specs.Option.{option_map}
use Rattle.forwarding_model.specs.frames.Reading.{Joins}
use Rattle.forwarding_model.specs.Receiver.{Received, with_frame}
use Rattle.dd_descriptor.specs.declared.descriptor.Descriptor.{Descriptor}
use Rattle.strict_receiver.specs.declared.state.Stage.TheVariants as stage
use Rattle.strict_receiver.specs.declared.state.State.{State}
use Rattle.strict_receiver.specs.Frames.{frame_said, joined_as, said_by}
use Rattle.strict_receiver.specs.Numbers.{AreKeptOf}
use Rattle.strict_receiver.specs.States.{Finishes, Joined}
use Rattle.strict_receiver.proofs.Parts.{part_ok, with_last}
use Rattle.strict_receiver.proofs.state.State.part.Goals as goal

pub returns-in-Ok-clause-joined : goal.returns-in-Ok-clause-joined
returns-in-Ok-clause-joined c r expected =
    let old = c.args.self.now in
    let kept = c.keep_structure.new.self in
    let joined = c.join.new.self in
    let left = c.finish.new.self in
    let last = c.args.last in
    let joins : Joins = record { continues = c.args.continues; carries = c.args.carries } in
    let said = said_by old.structure old.newest in
    let after = with_last r last.sequence said in
    let key = rw c.get.ensures at c.begins_epoch-key.ensures old.structure in
    let same_newest : joined.newest ≡ old.newest =
    ap (λ (x : State). x.newest) c.join.ensures.rest ∙ ap (λ (x : State). x.newest) c.keep_structure.ensures.rest in
    let same_received : joined.received ≡ old.received =
    ap (λ (x : State). x.received) c.join.ensures.rest ∙ ap (λ (x : State). x.received) c.keep_structure.ensures.rest in
    part_ok old last joins r expected (record left { stage = stage.Receiving last }) joined.frame refl
    (ap (λ (x : State). x.structure) c.in-Ok.ensures.rest ∙ ap (λ (x : State). x.structure) c.join.ensures.rest ∙ c.keep_structure.ensures.structure
    ∙ ap (λ (b : Bool). cond b old.newest.structure old.structure) key)
    (subst (λ (b : Bool). Joined joined.frame b (joined_as (option_map frame_said old.frame) said joins)) c.if-not-join.false
    (subst (λ (x : State). Joined joined.frame c.join.result (joined_as (option_map frame_said x.frame) (said_by old.structure x.newest) joins)) c.keep_structure.ensures.rest
    (c.join.ensures.joined old.structure)))
    (λ f is. subst (λ (d : Descriptor). Finishes left (Ok tt) after (with_frame after f d.end)) same_newest
    (c.in-Ok.ensures.finished after f (subst (λ (n : Received). AreKeptOf n r.received) (sym same_received) expected.received) is))
