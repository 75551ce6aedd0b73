use Rattle.std.proofs.Common.{◌∙◌, sym}
use Rattle.rtp_extension.specs.Seen.{plain}
use Rattle.leg_switch.proofs.Walking.{ends_on, found_on, long_on, none_on, pads_on, passes_on, short_on, within_block}
use Rattle.leg_switch.proofs.frame_numbers.place_in_block.Goals as goal

pub loop-head-preserved-then-head-eq0 : goal.loop-head-preserved-then-head-eq0
loop-head-preserved-then-head-eq0 c =
    pads_on c.args.id c.args.profile c.args.block.now c.loop-head.rest.now c.in-Some.behind.now c.in-Some.head.now c.loop-head.invariant c.in-Some.ensures.cases.0 c.if-head-eq0.true

pub returns-in_err-element-clause-place : goal.returns-in_err-element-clause-place
returns-in_err-element-clause-place c =
    c.from_residual.ensures
    ∙ sym (none_on c.args.id c.args.profile c.args.block.now c.loop-head.rest.now c.in-Some.behind.now c.in-Some.head.now c.loop-head.invariant c.in-Some.ensures.cases.0 c.if-head-eq0.false
    (sym c.elements.ensures.value ∙ c.in_err-element.ensures.steps.0))

pub returns-then-element-ge-MANDATORY-clause-place : goal.returns-then-element-ge-MANDATORY-clause-place
returns-then-element-ge-MANDATORY-clause-place c =
    found_on c.args.id c.args.profile c.args.block.now c.loop-head.rest.now c.in-Some.behind.now c.in-Some.head.now c.loop-head.invariant c.in-Some.ensures.cases.0
    c.header_len-header.result (plain c.in_ok-element.element) _ c.header_len-header.ensures c.if-head-eq0.false (sym c.elements.ensures.value ∙ c.in_ok-element.ensures.steps)
    c.if-element-id.true c.if-element-ge-MANDATORY.true

pub returns-then-element-ge-MANDATORY-clause-there : goal.returns-then-element-ge-MANDATORY-clause-there
returns-then-element-ge-MANDATORY-clause-there c =
    within_block c.args.id c.args.profile _ c.args.block.now
    (sym (found_on c.args.id c.args.profile c.args.block.now c.loop-head.rest.now c.in-Some.behind.now c.in-Some.head.now c.loop-head.invariant c.in-Some.ensures.cases.0
    c.header_len-header.result (plain c.in_ok-element.element) _ c.header_len-header.ensures c.if-head-eq0.false (sym c.elements.ensures.value ∙ c.in_ok-element.ensures.steps)
    c.if-element-id.true c.if-element-ge-MANDATORY.true))

pub returns-else-element-ge-MANDATORY-clause-place : goal.returns-else-element-ge-MANDATORY-clause-place
returns-else-element-ge-MANDATORY-clause-place c =
    short_on c.args.id c.args.profile c.args.block.now c.loop-head.rest.now c.in-Some.behind.now c.in-Some.head.now c.loop-head.invariant c.in-Some.ensures.cases.0
    (plain c.in_ok-element.element) _ c.if-head-eq0.false (sym c.elements.ensures.value ∙ c.in_ok-element.ensures.steps)
    c.if-element-id.true c.if-element-ge-MANDATORY.false

pub split_at-requires : goal.split_at-requires
split_at-requires c =
    long_on c.args.id c.args.profile c.args.block.now c.loop-head.rest.now c.in-Some.behind.now c.in-Some.head.now c.loop-head.invariant c.in-Some.ensures.cases.0
    c.header_len-header.result (plain c.in_ok-element.element) _ c.header_len-header.ensures c.if-head-eq0.false (sym c.elements.ensures.value ∙ c.in_ok-element.ensures.steps)

pub returns-clause-place : goal.returns-clause-place
returns-clause-place c = ends_on c.args.id c.args.profile c.args.block.now c.loop-head.rest.now c.loop-head.invariant c.in_default.ensures.cases

pub loop-head-preserved : goal.loop-head-preserved
loop-head-preserved c =
    passes_on c.args.id c.args.profile c.args.block.now c.loop-head.rest.now c.in-Some.behind.now c.in-Some.head.now c.loop-head.invariant c.in-Some.ensures.cases.0
    c.header_len-header.result (plain c.in_ok-element.element) _ _ c.header_len-header.ensures c.if-head-eq0.false (sym c.elements.ensures.value ∙ c.in_ok-element.ensures.steps)
    c.if-element-id.false c.split_at.ensures.back
