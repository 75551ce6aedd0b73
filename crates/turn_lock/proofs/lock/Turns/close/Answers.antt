use Rattle.std.proofs.Common.{sym, subst, ap, ◌∙◌, ◌≡◌, ◌+◌, ◌≤◌, length, Some}
use mathlib.Core.Option.{some-injective}
use Rattle.turn_lock.specs.Known.{Known, AllJoinedIn}
use Rattle.turn_lock.proofs.Keeps.{closes}
use Rattle.turn_lock.proofs.lock.Turns.close.Goals as goal

pub unreachable-requires : goal.unreachable-requires
unreachable-requires g c =
    let is = c.seat.view_is in
    let k = closes g.H.Held.stands c.self.inside.table.shared.key c.seat.inside.inner.id c.seat.inside.inner.me.0 _ _ (ap (λ k. k.number) is ∙ c.requires.first) c.seat.invariant.0.0 (subst (λ (k : Known g.row.H-Call.Denot). AllJoinedIn k) (sym is) c.requires.came) c.close_with-closed.ensures.values.2 in
    c.in_default.not-Some k.0 (some-injective _ _ (sym c.take.ensures.value ∙ k.1))

pub returns-clause-stands : goal.returns-clause-stands
returns-clause-stands g c =
    let is = c.seat.view_is in
    let k = closes g.H.Held.stands c.self.inside.table.shared.key c.seat.inside.inner.id c.seat.inside.inner.me.0 _ _ (ap (λ k. k.number) is ∙ c.requires.first) c.seat.invariant.0.0 (subst (λ (k : Known g.row.H-Call.Denot). AllJoinedIn k) (sym is) c.requires.came) c.close_with-closed.ensures.values.2 in
    let here : Some c.in-Some.value ≡ Some k.0 = sym c.in-Some.is ∙ some-injective _ _ (sym c.take.ensures.value ∙ k.1) in
    let same : k.0 ≡ c.in-Some.value = cc in
    subst (λ (s : Known g.row.H-Call.Denot). g.H.Held.stands c.in-Some.value s.seen) is (subst (λ (x : g.row.H.Denot). g.H.Held.stands x c.seat.inside.inner.me.0.seen) same k.2)

pub returns-clause-found : goal.returns-clause-found
returns-clause-found g c =
    let is = c.seat.view_is in
    let k = closes g.H.Held.stands c.self.inside.table.shared.key c.seat.inside.inner.id c.seat.inside.inner.me.0 _ _ (ap (λ k. k.number) is ∙ c.requires.first) c.seat.invariant.0.0 (subst (λ (k : Known g.row.H-Call.Denot). AllJoinedIn k) (sym is) c.requires.came) c.close_with-closed.ensures.values.2 in
    subst (λ (s : Known g.row.H-Call.Denot). s.found ≤ s.first + length s.seen) is k.3
