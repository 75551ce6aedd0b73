use Rattle.std.proofs.Common.{◌∙◌, arith}
use Rattle.reorder_window.specs.Slots.{pool_at}
use Rattle.reorder_window.proofs.Places.{at-chosen, at-put, entry-open, few-made, is_in, pooled-put, ready-chosen, with-same}
use Rattle.reorder_window.proofs.pool.Pool.put.Goals as goal

pub choose-place-requires-clause-few : goal.choose-place-requires-clause-few
choose-place-requires-clause-few c =
    let s = c.args.self.now in
    few-made s.index.items s.places.items s.free.items c.args.number s.pooled (entry-open s.index.items s.places.items s.free.items c.args.number s.pooled c.requires.vacant)

pub index_mut-requires : goal.index_mut-requires
index_mut-requires c =
    let s = c.args.self.now in
    let vacant = entry-open s.index.items s.places.items s.free.items c.args.number s.pooled c.requires.vacant in
    let ready = ready-chosen s.index.items s.places.items s.free.items _ _ c.choose-place.result c.args.number s.pooled vacant c.choose-place.ensures.chosen in
    omega (arith, ready.within, c.choose-place.new.places.ok.0)

pub invariant_of-self-clause-pooled : goal.invariant_of-self-clause-pooled
invariant_of-self-clause-pooled c =
    let s = c.args.self.now in
    let vacant = entry-open s.index.items s.places.items s.free.items c.args.number s.pooled c.requires.vacant in
    pooled-put s.index.items _ _ c.choose-place.result c.args.number c.keep.new.self _
    (ready-chosen s.index.items s.places.items s.free.items _ _ c.choose-place.result c.args.number s.pooled vacant c.choose-place.ensures.chosen) vacant
    (is_in c.keep.new.self _ _ _ c.keep.ensures.number c.keep.ensures.moment c.keep.ensures.bytes)

pub returns : goal.returns
returns c n =
    let s = c.args.self.now in
    let vacant = entry-open s.index.items s.places.items s.free.items c.args.number s.pooled c.requires.vacant in
    at-put s.index.items _ _ c.choose-place.result c.args.number c.keep.new.self _
    (ready-chosen s.index.items s.places.items s.free.items _ _ c.choose-place.result c.args.number s.pooled vacant c.choose-place.ensures.chosen) vacant
    (is_in c.keep.new.self _ _ _ c.keep.ensures.number c.keep.ensures.moment c.keep.ensures.bytes) n
    ∙ with-same c.args.number _ (pool_at s.index.items c.choose-place.new.places.items) (pool_at s.index.items s.places.items) n
    (at-chosen s.index.items s.places.items s.free.items _ _ c.choose-place.result n s.pooled c.choose-place.ensures.chosen)
