use Rattle.std.proofs.Common.{◌≡◌, ◌≤◌, ◌-◌, rules, arith, ◌∙◌}
use Rattle.forwarding_model.specs.forwarding.Selection.{chain_link}
use Rattle.ref_window.specs.Numbers.{has_below}
use Rattle.chain_state.specs.Links.{link_of}
use Rattle.chain_state.specs.declared.LinkState.TheVariants.{Intact, Broken}
use Rattle.chain_state.proofs.Agreeing.{link_stands}
use Rattle.chain_state.proofs.link_state.Goals as goal

pub returns-then-holds-clause-stands : goal.returns-then-holds-clause-stands
returns-then-holds-clause-stands c = λ frames is above.
    let state : Intact ≡ link_of (has_below c.args.passed.now c.args.frame.now.number) c.args.frame.now c.args.target c.args.opened = search rules in
    let near : chain_link c.args.frame.now c.args.target ≤ 4096 = omega arith in
    state ∙ link_stands c.args.passed.now frames c.args.frame.now c.args.target c.args.opened is above near

pub returns-else-holds-clause-stands : goal.returns-else-holds-clause-stands
returns-else-holds-clause-stands c = λ frames is above.
    let state : Broken (c.args.frame.now.number - c.from-distance.result) ≡ link_of (has_below c.args.passed.now c.args.frame.now.number) c.args.frame.now c.args.target c.args.opened = search rules in
    let near : chain_link c.args.frame.now c.args.target ≤ 4096 = omega arith in
    state ∙ link_stands c.args.passed.now frames c.args.frame.now c.args.target c.args.opened is above near
