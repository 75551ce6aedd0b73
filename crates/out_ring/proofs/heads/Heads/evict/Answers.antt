use Rattle.std.proofs.Common.{◌≡◌, ◌<◌, ◌∙◌, List, None, Option, Some, ap, arith, length, refl, set, slice_get, sym, ℕ}
use Rattle.out_ring.specs.declared.heads.Head.{Head}
use Rattle.out_ring.specs.Held.{turned}
use Rattle.out_ring.specs.Slots.{bare, evict, padded, shared_at}
use Rattle.out_ring.proofs.Padded.{bare_there, head_there, set-padded, size_padded}
use Rattle.out_ring.proofs.Slotted.{evict_there, evict_unshared, shared_there}
use Rattle.out_ring.proofs.Turned.{put_in_there}
use Rattle.out_ring.proofs.heads.Heads.evict.Goals as goal

-- no head was added at the place yet
none : (c : goal.Then-index-len) → slice_get (turned c.self.inside.oldest (padded c.self.inside.ring.items)) c.args.place ≡ Some bare
none c =
    let a = c.self.inside in
    let i = c.self.invariant in
    bare_there a.oldest c.args.place c.place_from-index.result a.ring.items i.few i.oldest c.requires c.place_from-index.ensures.place
    (omega (arith, c.if-index-len.true, c.len.ensures))

pub returns-then-index-len-clause-shared : goal.returns-then-index-len-clause-shared
returns-then-index-len-clause-shared c =
    let a = c.self.inside in
    sym (shared_there (turned a.oldest (padded a.ring.items)) c.args.place bare (none c)) ∙ ap (λ (l : List Head). shared_at l c.args.place) c.self.view_is

pub returns-then-index-len-clause-heads : goal.returns-then-index-len-clause-heads
returns-then-index-len-clause-heads c =
    let a = c.self.inside in
    sym c.self.view_is ∙ sym (evict_unshared (turned a.oldest (padded a.ring.items)) c.args.place bare (none c) refl)
    ∙ ap (λ (l : List Head). evict l c.args.place) c.self.view_is

within : (c : goal.After-self-1) → c.place_from-index.result < length c.self.inside.ring.items
within c = omega (arith, c.if-index-len.false, c.len.ensures)

-- the head at the place
found : (c : goal.After-self-1) → slice_get (turned c.self.inside.oldest (padded c.self.inside.ring.items)) c.args.place ≡ Some c.index_mut.result.now
found c =
    let a = c.self.inside in
    let i = c.self.invariant in
    head_there a.oldest c.args.place c.place_from-index.result a.ring.items i.few i.oldest c.requires c.place_from-index.ensures.place
    c.index_mut.result.now (within c) c.index_mut.ensures.value

pub returns-clause-shared : goal.returns-clause-shared
returns-clause-shared c =
    let a = c.self.inside in
    c.take.ensures.value
    ∙ sym (shared_there (turned a.oldest (padded a.ring.items)) c.args.place c.index_mut.result.now (found c))
    ∙ ap (λ (l : List Head). shared_at l c.args.place) c.self.view_is

pub returns-clause-heads : goal.returns-clause-heads
returns-clause-heads c =
    let a = c.self.inside in
    let i = c.self.invariant in
    let index : ℕ = c.place_from-index.result in
    let head : Head = c.index_mut.result.now in
    let left : Head = record { shared = None; location = head.location; marker = head.marker } in
    ap (λ (shared : Option (List ℕ)). turned a.oldest (padded (set a.ring.items index (record { shared = shared; location = head.location; marker = head.marker })))) c.take.ensures.after
    ∙ ap (turned a.oldest) (set-padded a.ring.items index left (within c) ∙ ap (λ (k : ℕ). set (padded a.ring.items) k left) c.place_from-index.ensures.place)
    ∙ put_in_there a.oldest c.args.place (padded a.ring.items) left (size_padded a.ring.items i.few) i.oldest c.requires
    ∙ sym (evict_there (turned a.oldest (padded a.ring.items)) c.args.place head (found c))
    ∙ ap (λ (l : List Head). evict l c.args.place) c.self.view_is
