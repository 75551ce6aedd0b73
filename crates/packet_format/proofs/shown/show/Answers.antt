use Rattle.std.proofs.Common.{◌∙◌, sym, ap, true, false}
use Rattle.forwarding_model.specs.frames.Reading.{Payload}
use Rattle.forwarding_model.specs.frames.Reading.Showing.{Shows}
use Rattle.packet_format.specs.Formats.{said}
use Rattle.dd_descriptor.specs.Seen.{content_of}
use Rattle.packet_format.specs.Shown.{showing_said}
use Rattle.std.specs.Prelude.{option_copied}
use Rattle.packet_format.proofs.Shows.{bare, faulty, has_distances, showing}
use Rattle.packet_format.proofs.shown.show.Goals as goal

pub returns-in_default-clause-shown : goal.returns-in_default-clause-shown
returns-in_default-clause-shown c bytes is = bare c.args.id (option_copied c.args.force) bytes c.args.packet.now is (sym c.in_default.ensures)

pub returns-in-Err-clause-shown : goal.returns-in-Err-clause-shown
returns-in-Err-clause-shown c bytes is =
    ap (showing_said (option_copied c.args.force) c.read.new.self) c.of_fault.ensures
    ∙ faulty c.args.id (option_copied c.args.force) bytes c.args.packet.now is c.read.new.self c.in-Some.element.now c.in-Err.fault (sym c.in-Some.ensures) c.in-Err.ensures.read

pub returns-then-obeys-clause-references : goal.returns-then-obeys-clause-references
returns-then-obeys-clause-references c e = has_distances _ (option_copied c.args.force) c.read.new.self c.in-Ok.ensures.few c.in-Ok.ensures.writable

pub returns-then-obeys-clause-shown : goal.returns-then-obeys-clause-shown
returns-then-obeys-clause-shown c bytes is =
    let obeyed = rw c.get.ensures at c.if-obeys.ensures in
    ap (λ (p : Payload). Shows (said (content_of (option_copied c.args.force) c.read.new.self)) p) c.payload_flags.ensures
    ∙ showing c.args.id (option_copied c.args.force) bytes c.args.packet.now is c.in-Some.element.now c.read.new.self true (sym c.in-Some.ensures) c.in-Ok.ensures.read obeyed

pub returns-else-obeys-clause-shown : goal.returns-else-obeys-clause-shown
returns-else-obeys-clause-shown c bytes is =
    let obeyed = rw c.get.ensures at c.if-obeys.ensures in
    showing c.args.id (option_copied c.args.force) bytes c.args.packet.now is c.in-Some.element.now c.read.new.self false (sym c.in-Some.ensures) c.in-Ok.ensures.read obeyed
