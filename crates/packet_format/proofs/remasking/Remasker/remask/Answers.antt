use Rattle.std.proofs.Common.{ℕ, List, ◌≡◌, ◌∙◌, ap, ap₂, sym, subst, length}
use Rattle.std.specs.Option.{option_copied}
use Rattle.rtp_packet.specs.Fields.{block_of, profile_of}
use Rattle.rtp_packet.specs.Packet.{Packet}
use Rattle.rtp_extension.specs.Forms.{IsBetween}
use Rattle.rtp_extension.specs.Reblocked.{extension_with}
use Rattle.packet_format.specs.Formats.{element_in}
use Rattle.packet_format.proofs.Filled.{extension_there, extension_too_long, given, not_fitting, on_err, value_between}
use Rattle.packet_format.proofs.remasking.Remasker.remask.Goals as goal

pub reblock-requires-clause-value : goal.reblock-requires-clause-value
reblock-requires-clause-value c =
    subst (λ (xs : List ℕ). IsBetween 1 255 (length xs)) (sym c.bytes-value.ensures.bytes)
    (value_between (option_copied c.args.force) c.args.mask c.in-Some-descriptor_bytes.descriptor.now c.fill_value.new.out c.in_ok-fill_value.ensures.ok)

pub returns-in_err-reblock-clause-err : goal.returns-in_err-reblock-clause-err
returns-in_err-reblock-clause-err c =
    let profile : c.in-Ok.parts.profile ≡ profile_of c.args.packet.now = ap (λ (p : Packet). p.profile) c.in-Ok.ensures.parts in
    let block : c.in-Ok.parts.block.now ≡ block_of c.args.packet.now = ap (λ (p : Packet). p.block) c.in-Ok.ensures.parts in
    let found = ap₂ (element_in c.args.id) (sym profile) (sym block) ∙ sym c.in-Some-descriptor_bytes.ensures in
    let value = c.bytes-value.result.now in
    let extension = extension_with c.in-Some.profile c.in-Ok.parts.block.now c.args.id value in
    on_err c.from_residual-in_err-reblock.result
    (extension_too_long c.args.id (option_copied c.args.force) c.args.mask c.args.packet.now c.in-Some-descriptor_bytes.descriptor.now value c.in-Ok.parts.block.now c.in-Some.profile
    (sym profile ∙ c.in-Some.is) found (c.in_ok-fill_value.ensures.ok ∙ ap given (sym c.bytes-value.ensures.bytes)) block
    (not_fitting c.fill.new.self (length extension) c.fill.ensures c.in_err-reblock.ensures.fits.1))

pub fill_packet-requires-clause-there : goal.fill_packet-requires-clause-there
fill_packet-requires-clause-there c =
    (extension_there c.args.id c.args.packet.now c.in-Some-descriptor_bytes.descriptor.now c.in-Ok.parts.block.now c.requires (ap₂ (element_in c.args.id) (sym (ap (λ (p : Packet). p.profile) c.in-Ok.ensures.parts)) (sym (ap (λ (p : Packet). p.block) c.in-Ok.ensures.parts)) ∙ sym c.in-Some-descriptor_bytes.ensures) (ap (λ (p : Packet). p.block) c.in-Ok.ensures.parts)).0

pub fill_packet-requires-clause-behind : goal.fill_packet-requires-clause-behind
fill_packet-requires-clause-behind c =
    (extension_there c.args.id c.args.packet.now c.in-Some-descriptor_bytes.descriptor.now c.in-Ok.parts.block.now c.requires (ap₂ (element_in c.args.id) (sym (ap (λ (p : Packet). p.profile) c.in-Ok.ensures.parts)) (sym (ap (λ (p : Packet). p.block) c.in-Ok.ensures.parts)) ∙ sym c.in-Some-descriptor_bytes.ensures) (ap (λ (p : Packet). p.block) c.in-Ok.ensures.parts)).1
