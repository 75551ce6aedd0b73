use Rattle.std.proofs.Common.{◌%◌, ◌∙◌, arith, sym}
use Rattle.reorder_window.proofs.Places.{at-false, at-true, entry-made, moment-false, moment-true, read-entry, read-place}
use Rattle.reorder_window.proofs.pool.Pool.moment.Goals as goal

pub index-held-requires : goal.index-held-requires
index-held-requires c =
    let s = c.args.self.now in
    let entry = read-entry s.index.items s.places.items s.free.items c.args.number c.in_ok-place.place _ s.pooled c.index.ensures (c.in_ok-place.was {u = tt}) in
    let made = entry-made s.index.items s.places.items s.free.items (c.args.number % 1024) c.in_ok-place.place s.pooled entry in
    omega (arith, s.places.ok.0)

pub returns-then-holds : goal.returns-then-holds
returns-then-holds c =
    let s = c.args.self.now in
    let entry = read-entry s.index.items s.places.items s.free.items c.args.number c.in_ok-place.place _ s.pooled c.index.ensures (c.in_ok-place.was {u = tt}) in
    let made = entry-made s.index.items s.places.items s.free.items (c.args.number % 1024) c.in_ok-place.place s.pooled entry in
    moment-true _ _ (at-true s.index.items s.places.items c.args.number c.in_ok-place.place _ entry (read-place s.places.items _ _ made c.index-held.ensures)
    (sym c.holds.ensures ∙ c.if-holds.true))

pub returns-else-holds : goal.returns-else-holds
returns-else-holds c =
    let s = c.args.self.now in
    let entry = read-entry s.index.items s.places.items s.free.items c.args.number c.in_ok-place.place _ s.pooled c.index.ensures (c.in_ok-place.was {u = tt}) in
    let made = entry-made s.index.items s.places.items s.free.items (c.args.number % 1024) c.in_ok-place.place s.pooled entry in
    moment-false _ (at-false s.index.items s.places.items c.args.number c.in_ok-place.place _ entry (read-place s.places.items _ _ made c.index-held.ensures)
    (sym c.holds.ensures ∙ c.if-holds.false))
