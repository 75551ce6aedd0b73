use Rattle.std.proofs.Common.{◌∙◌, sym, ap, subst}
use Rattle.forwarding_model.specs.frames.Frames.{Force, is_padding}
use Rattle.dd_structure.specs.TemplateStructure.{TemplateStructure}
use Rattle.frame_assembly.specs.declared.mark.Mark.TheVariants as code
use Rattle.frame_table.specs.Seen.{said_of}
use Rattle.packet_format.specs.Packets.{packet_of}
use Rattle.packet_format.specs.Shown.{payload_said}
use Rattle.track_core.specs.Layers.{Looked}
use Rattle.track_core.proofs.Looking.{looked_pad, looked_bare, looked_broken, looked_faulty, looked_other, looked_part}
use Rattle.track_core.proofs.Firsts.{broken_only, first_here, not_padding, obeys_not, obeys_so, read_err, read_ok, seen_not, seen_so, some_after, few_refs}
use Rattle.track_core.proofs.layers.Layers.look.Goals as goal

pub returns-in-Empty-clause-looked : goal.returns-in-Empty-clause-looked
returns-in-Empty-clause-looked c =
    looked_pad c.args.self.now.id c.args.self.now.table c.args.self.now.newest c.args.bytes.now c.args.packet.now c.requires.packet
    (sym c.payload_flags-flags.ensures ∙ ap payload_said c.in-Empty.is)

pub returns-in_default-descriptor_bytes-clause-looked : goal.returns-in_default-descriptor_bytes-clause-looked
returns-in_default-descriptor_bytes-clause-looked c =
    looked_bare c.args.self.now.id c.args.self.now.table c.args.self.now.newest c.args.bytes.now c.args.packet.now c.requires.packet
    (sym (ap is_padding c.payload_flags-flags.ensures) ∙ not_padding c.payload_flags-flags.result c.in_default.not-Empty)
    (sym c.in_default-descriptor_bytes.ensures)

pub returns-then-is_err-clause-looked : goal.returns-then-is_err-clause-looked
returns-then-is_err-clause-looked c =
    let bad = read_err _ _ c.read.new.self c.in-Some.element.now c.read.result c.force.ensures c.if-is_err.ensures.value c.read.ensures.read in
    looked_faulty c.args.self.now.id c.args.self.now.table c.read.new.self c.args.bytes.now c.args.packet.now c.requires.packet c.in-Some.element.now bad.0
    (sym (ap is_padding c.payload_flags-flags.ensures) ∙ not_padding c.payload_flags-flags.result c.in_default.not-Empty)
    (sym c.in-Some.ensures) bad.1

pub returns-in-Unread-clause-looked : goal.returns-in-Unread-clause-looked
returns-in-Unread-clause-looked c =
    let reading = rw c.get-newest.ensures at c.see.ensures.reading in
    let forced = rw c.get-newest.ensures at c.see.ensures.force in
    let good = read_ok _ _ c.read.new.self c.in-Some.element.now c.read.result c.force.ensures c.if-is_err.ensures.value c.read.ensures.read in
    let rule = obeys_not c.args.self.now.table c.read.new.self (sym reading ∙ c.in-Unread.is) in
    subst (λ (f : Force TemplateStructure). Looked c.args.self.now.id c.args.self.now.table f c.read.new.self code.Unread c.args.bytes.now)
    (sym (forced ∙ seen_not c.args.self.now.table c.read.new.self rule))
    (looked_other c.args.self.now.id c.args.self.now.table c.read.new.self c.args.bytes.now c.args.packet.now c.requires.packet c.in-Some.element.now
    (sym (ap is_padding c.payload_flags-flags.ensures) ∙ not_padding c.payload_flags-flags.result c.in_default.not-Empty)
    (sym c.in-Some.ensures) good rule)

pub returns-in_default-flags-clause-looked : goal.returns-in_default-flags-clause-looked
returns-in_default-flags-clause-looked c =
    let reading = rw c.get-newest.ensures at c.see.ensures.reading in
    let forced = rw c.get-newest.ensures at c.see.ensures.force in
    let good = read_ok _ _ c.read.new.self c.in-Some.element.now c.read.result c.force.ensures c.if-is_err.ensures.value c.read.ensures.read in
    let rule = obeys_so c.args.self.now.table c.read.new.self (λ e. c.in_default-see.not-Unread (reading ∙ e)) in
    let now = forced ∙ seen_so c.args.self.now.table c.read.new.self rule in
    looked_broken c.args.self.now.id c.args.self.now.table c.read.new.self c.args.bytes.now c.args.packet.now c.requires.packet c.in-Some.element.now c.see.new.self
    (sym c.payload_flags-flags.ensures ∙ broken_only c.payload_flags-flags.result c.in_default.not-Empty c.in_default-flags.not-Elements)
    (sym c.in-Some.ensures) good rule now
    (some_after c.args.self.now.table c.see.new.self (said_of c.args.self.now.table.structure c.read.new.self) now)

pub returns-in-Elements-clause-looked : goal.returns-in-Elements-clause-looked
returns-in-Elements-clause-looked c =
    let reading = rw c.get-newest.ensures at c.see.ensures.reading in
    let forced = rw c.get-newest.ensures at c.see.ensures.force in
    let good = read_ok _ _ c.read.new.self c.in-Some.element.now c.read.result c.force.ensures c.if-is_err.ensures.value c.read.ensures.read in
    let rule = obeys_so c.args.self.now.table c.read.new.self (λ e. c.in_default-see.not-Unread (reading ∙ e)) in
    let now = forced ∙ seen_so c.args.self.now.table c.read.new.self rule in
    rw c.get-newest.ensures
    (looked_part c.args.self.now.id c.args.self.now.table c.read.new.self c.args.bytes.now c.args.packet.now c.requires.packet c.in-Some.element.now c.see.new.self
    (record { continues = c.in-Elements.continues; carries = c.in-Elements.carries })
    (sym c.payload_flags-flags.ensures ∙ ap payload_said c.in-Elements.is)
    (sym c.in-Some.ensures) good rule now
    (some_after c.args.self.now.table c.see.new.self (said_of c.args.self.now.table.structure c.read.new.self) now)
    (first_here c.args.self.now.table c.see.new.self c.read.new.self c.in-Some.element.now (few_refs c.read.new.self c.read.result c.if-is_err.ensures.value c.read.ensures.few) good rule now
    (record { continues = c.in-Elements.continues; carries = c.in-Elements.carries }) (packet_of c.args.bytes.now)))
