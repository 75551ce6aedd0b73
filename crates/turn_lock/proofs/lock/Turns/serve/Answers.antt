use Rattle.std.proofs.Common.{rules, sym, subst, refl, ap, ◌∙◌, ◌≡◌, ◌++◌, ◌∷◌, [], Some, Option, ℕ}
use Rattle.atomic_table.specs.Table.{rest, Me}
use Rattle.turn_lock.specs.declared.view.View.{View}
use Rattle.turn_lock.specs.declared.view.Stage.TheVariants.{Holding}
use Rattle.turn_lock.specs.History.{entry}
use Rattle.turn_lock.proofs.Serving.{moved}
use Rattle.turn_lock.proofs.lock.Turns.serve.Goals as goal

pub exchange-requires : goal.exchange-requires
exchange-requires g c = let has = c.requires.has in (search rules, (Some has.0, has.2 ∙ ap (λ l. (0, Some has.0) ∷ l) (sym (ap rest has.2))))

pub release-place-requires-clause-ready : goal.release-place-requires-clause-ready
release-place-requires-clause-ready g c =
    let has = c.requires.has in
    let v = c.args.inner.now.me.0 in
    let m = moved v c.args.inner.now.me.1 has.0 c.in-Some.value c.serve-reply.new.self c.exchange.result c.exchange.new.seat.me c.exchange-none.new.seat.me has.2 c.exchange.ensures.2 c.in-Some.is c.exchange.ensures.3 c.exchange-none.ensures.3 in
    let stood = (c.serve-reply.ensures v.seen (subst (λ (x : g.row.H.Denot). g.H.Held.stands x v.seen) m.0 has.3)).0 in
    let named = subst (λ (n : ℕ). g.H.Held.stands c.serve-reply.new.self (v.seen ++ entry n c.args.call.now (g.H.Held.starves c.serve-reply.result) ∷ [])) c.requires.number stood in
    subst (λ (k : Me (Option g.row.H.Denot) (View g.row.H-Call.Denot)). (x : ℕ) × (y : g.row.H.Denot) × (k.0.stage ≡ Holding x) × (k.1 ≡ (0, Some y) ∷ []) × g.H.Held.stands y (k.0.seen ++ entry k.0.number c.args.call.now (g.H.Held.starves c.serve-reply.result) ∷ []))
    (sym m.1) (c.args.ticket, c.serve-reply.new.self, has.1, refl, named)
