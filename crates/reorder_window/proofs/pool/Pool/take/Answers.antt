use Rattle.std.proofs.Common.{◌%◌, ◌∙◌, arith, sym, subst, List, ℕ, set}
use Rattle.std.specs.Prelude.{None}
use Rattle.reorder_window.specs.Slots.{IsPooled}
use Rattle.reorder_window.proofs.Places.{at-false, at-true, entry-made, gives-none, gives-some, read-entry, read-place, same-place}
use Rattle.reorder_window.proofs.Taking.{at-gone, at-others, few-free, pooled-take}
use Rattle.reorder_window.proofs.pool.Pool.take.Goals as goal

pub index-requires-2 : goal.index-requires-2
index-requires-2 c =
    let s = c.args.self.now in
    let entry = read-entry s.index.items s.places.items s.free.items c.args.number c.in_ok-place.place _ s.pooled c.index.ensures (c.in_ok-place.was {u = tt}) in
    let made = entry-made s.index.items s.places.items s.free.items (c.args.number % 1024) c.in_ok-place.place s.pooled entry in
    omega (arith, s.places.ok.0)

pub returns-then-not-holds-clause-gone : goal.returns-then-not-holds-clause-gone
returns-then-not-holds-clause-gone c =
    let s = c.args.self.now in
    let entry = read-entry s.index.items s.places.items s.free.items c.args.number c.in_ok-place.place _ s.pooled c.index.ensures (c.in_ok-place.was {u = tt}) in
    let made = entry-made s.index.items s.places.items s.free.items (c.args.number % 1024) c.in_ok-place.place s.pooled entry in
    at-false s.index.items s.places.items c.args.number c.in_ok-place.place _ entry (read-place s.places.items _ _ made c.index-2.ensures)
    (sym c.holds.ensures ∙ c.if-not-holds.true)

pub returns-then-not-holds-clause-given : goal.returns-then-not-holds-clause-given
returns-then-not-holds-clause-given c = gives-none _ _ (returns-then-not-holds-clause-gone c)

pub index_mut-requires : goal.index_mut-requires
index_mut-requires c =
    let s = c.args.self.now in
    let entry = read-entry s.index.items s.places.items s.free.items c.args.number c.in_ok-place.place _ s.pooled c.index.ensures (c.in_ok-place.was {u = tt}) in
    let made = entry-made s.index.items s.places.items s.free.items (c.args.number % 1024) c.in_ok-place.place s.pooled entry in
    omega (arith, s.places.ok.0)

pub push_reserved-requires : goal.push_reserved-requires
push_reserved-requires c =
    let s = c.args.self.now in
    let entry = read-entry s.index.items s.places.items s.free.items c.args.number c.in_ok-place.place _ s.pooled c.index.ensures (c.in_ok-place.was {u = tt}) in
    let few = few-free s.index.items s.places.items s.free.items c.in_ok-place.place c.args.number c.give-moment.new.self s.pooled entry c.give-moment.ensures.number in
    omega (arith, s.free.ok.0, s.reserved_free)

pub invariant_of-self-clause-pooled : goal.invariant_of-self-clause-pooled
invariant_of-self-clause-pooled c =
    let s = c.args.self.now in
    let entry = read-entry s.index.items s.places.items s.free.items c.args.number c.in_ok-place.place _ s.pooled c.index.ensures (c.in_ok-place.was {u = tt}) in
    subst (λ (free : List ℕ). IsPooled (set s.index.items (c.args.number % 1024) None) (set s.places.items c.in_ok-place.place c.give-moment.new.self) free)
    (sym c.push_reserved.ensures.items)
    (pooled-take s.index.items s.places.items s.free.items c.in_ok-place.place c.args.number c.give-moment.new.self s.pooled entry c.give-moment.ensures.number)

pub returns-clause-given : goal.returns-clause-given
returns-clause-given c =
    let s = c.args.self.now in
    let entry = read-entry s.index.items s.places.items s.free.items c.args.number c.in_ok-place.place _ s.pooled c.index.ensures (c.in_ok-place.was {u = tt}) in
    let made = entry-made s.index.items s.places.items s.free.items (c.args.number % 1024) c.in_ok-place.place s.pooled entry in
    let read = read-place s.places.items c.in_ok-place.place c.index-2.result.now made c.index-2.ensures in
    let written = read-place s.places.items c.in_ok-place.place c.index_mut.result.now made c.index_mut.ensures.value in
    gives-some _ c.index-2.result.now c.index_mut.result.now c.give-moment.result _ _
    (at-true s.index.items s.places.items c.args.number c.in_ok-place.place c.index-2.result.now entry read (sym c.holds.ensures ∙ c.if-not-holds.false))
    (same-place s.places.items c.in_ok-place.place _ _ written read) c.give-moment.ensures.moment c.give-moment.ensures.bytes

pub returns-clause-gone : goal.returns-clause-gone
returns-clause-gone c =
    let s = c.args.self.now in
    let entry = read-entry s.index.items s.places.items s.free.items c.args.number c.in_ok-place.place _ s.pooled c.index.ensures (c.in_ok-place.was {u = tt}) in
    at-gone s.index.items s.places.items s.free.items c.in_ok-place.place c.args.number c.give-moment.new.self s.pooled entry c.give-moment.ensures.number

pub returns-clause-others : goal.returns-clause-others
returns-clause-others c =
    let s = c.args.self.now in
    let entry = read-entry s.index.items s.places.items s.free.items c.args.number c.in_ok-place.place _ s.pooled c.index.ensures (c.in_ok-place.was {u = tt}) in
    let made = entry-made s.index.items s.places.items s.free.items (c.args.number % 1024) c.in_ok-place.place s.pooled entry in
    at-others s.index.items s.places.items s.free.items c.in_ok-place.place c.args.number c.give-moment.new.self s.pooled entry c.give-moment.ensures.number
    c.index-2.result.now (read-place s.places.items c.in_ok-place.place c.index-2.result.now made c.index-2.ensures) (sym c.holds.ensures ∙ c.if-not-holds.false)
