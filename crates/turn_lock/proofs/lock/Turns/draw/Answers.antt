use Rattle.std.proofs.Common.{rules, ap, ◌∙◌, ◌≡◌, ◌≤◌, ◌^◌, ℕ, max, [], arith}
use Rattle.turn_lock.specs.declared.view.Stage.TheVariants.{Idle}
use Rattle.turn_lock.specs.Views.{drawing, finding}
use Rattle.turn_lock.proofs.Keeps.{draws}
use Rattle.turn_lock.proofs.lock.Turns.draw.Goals as goal

pub compare_exchange-found-requires : goal.compare_exchange-found-requires
compare_exchange-found-requires g c = (search rules, search rules, draws _ _ _ _ _ _ (ap (λ m. m.0.stage) c.loop.invariant.1) c.loop.invariant.3)

pub returns-then-found-ge-TICKET_LIMIT-clause-none : goal.returns-then-found-ge-TICKET_LIMIT-clause-none
returns-then-found-ge-TICKET_LIMIT-clause-none g c =
    let step = c.compare_exchange-found.ensures in
    let n : ℕ = c.compare_exchange-found.result in
    let before : ℕ = c.loop.inner.me.0.found in
    let low : 9223372036854775808 ≤ n = c.if-found-ge-TICKET_LIMIT.true in
    let high : max before n ≤ 2 ^ 63 = step.2.0 in
    let all : max before n ≡ 9223372036854775808 = omega arith in
    ((step.0 ∙ c.loop.invariant.0.0, step.1 ∙ c.loop.invariant.0.1), step.2.2 c.if-found-ticket.false ∙ (ap (λ m. (drawing m.0 n m.0.stage, m.1)) c.loop.invariant.1 ∙ ap (λ (k : ℕ). (finding c.args.inner.now.me.0 k Idle, [])) all), omega (arith, c.loop.invariant.2))
