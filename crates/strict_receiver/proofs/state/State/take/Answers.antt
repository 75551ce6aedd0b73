use Rattle.std.proofs.Common.{Err, subst, ◌∙◌}
use Rattle.std.specs.Option.{option_copied}
use Rattle.forwarding_model.specs.declared.complaint.Complaint.TheVariants as complaint
use Rattle.forwarding_model.specs.frames.Reading.Showing.{Shows}
use Rattle.packet_format.specs.Packets.{packet_of}
use Rattle.packet_format.specs.Shown.{payload_said}
use Rattle.strict_receiver.specs.Frames.{said_by}
use Rattle.strict_receiver.specs.States.{Answers}
use Rattle.strict_receiver.proofs.Accepting.{accepted_as, no_elements}
use Rattle.strict_receiver.proofs.state.State.take.Goals as goal

pub returns-in_default-clause-taken : goal.returns-in_default-clause-taken
returns-in_default-clause-taken c bytes r is e =
    let force = option_copied c.as_ref.result in
    let d = said_by force c.show.new.newest in
    let new = record c.args.self.now { newest = c.show.new.newest } in
    subst (Answers new (Err complaint.Unread))
    (accepted_as c.args.self.now.id bytes r force (Shows d (payload_said c.in-Shows.flags)) (c.as_ref.ensures.value ∙ e.structure) (c.in-Shows.ensures.shown bytes is))
    (no_elements new (record r { sequence_number = (packet_of bytes).sequence_number }) d c.in-Shows.flags c.in_default.not-Elements)
