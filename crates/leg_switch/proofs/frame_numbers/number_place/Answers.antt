use Rattle.std.proofs.Common.{◌∙◌, ap, sym}
use Rattle.rtp_packet.specs.Packet.{Packet}
use Rattle.leg_switch.proofs.Overwriting.{no_profile, none_by, place_there, placed_by}
use Rattle.leg_switch.proofs.frame_numbers.number_place.Goals as goal

pub returns-in_err-parts-clause-place : goal.returns-in_err-parts-clause-place
returns-in_err-parts-clause-place c =
    c.from_residual.ensures ∙ sym (no_profile c.args.id c.args.packet.now (sym (ap (λ (p : Packet). p.profile) c.in-Ok.ensures.parts) ∙ c.in_err-parts.was))

pub returns-in_err-place-clause-place : goal.returns-in_err-place-clause-place
returns-in_err-place-clause-place c =
    c.from_residual-in_err-place.ensures
    ∙ sym (none_by c.args.id c.args.packet.now c.in-Ok.parts.block.now c.in_ok-parts.field-0
    (sym (ap (λ (p : Packet). p.profile) c.in-Ok.ensures.parts) ∙ c.in_ok-parts.was) (sym (ap (λ (p : Packet). p.block) c.in-Ok.ensures.parts)) (sym c.in_err-place.ensures.place))

pub returns-clause-place : goal.returns-clause-place
returns-clause-place c =
    placed_by c.args.id c.args.packet.now c.in-Ok.parts.block.now c.in_ok-parts.field-0 c.from-csrcs.result c.in_ok-place.place
    (sym (ap (λ (p : Packet). p.profile) c.in-Ok.ensures.parts) ∙ c.in_ok-parts.was) (sym (ap (λ (p : Packet). p.block) c.in-Ok.ensures.parts)) (sym c.in_ok-place.ensures.place) c.from-csrcs.ensures

pub returns-clause-there : goal.returns-clause-there
returns-clause-there c =
    place_there c.args.id _ c.args.packet.now c.requires
    (sym (placed_by c.args.id c.args.packet.now c.in-Ok.parts.block.now c.in_ok-parts.field-0 c.from-csrcs.result c.in_ok-place.place
    (sym (ap (λ (p : Packet). p.profile) c.in-Ok.ensures.parts) ∙ c.in_ok-parts.was) (sym (ap (λ (p : Packet). p.block) c.in-Ok.ensures.parts)) (sym c.in_ok-place.ensures.place) c.from-csrcs.ensures))
