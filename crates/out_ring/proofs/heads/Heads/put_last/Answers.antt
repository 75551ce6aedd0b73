use Rattle.std.proofs.Common.{◌≡◌, ◌≤◌, ◌∙◌, ◌∷◌, ◌++◌, [], List, ap, arith, drop, length, set, sym}
use Rattle.out_ring.specs.declared.heads.Head.{Head}
use Rattle.out_ring.specs.Held.{turned}
use Rattle.out_ring.specs.Slots.{bare, padded, shared_at}
use Rattle.out_ring.proofs.Padded.{bare_there, head_there, put-padded, put_newest, set-padded}
use Rattle.out_ring.proofs.Slotted.{shared_there}
use Rattle.out_ring.proofs.heads.Heads.put_last.Goals as goal

-- ---- fewer than 1,536 heads were added

pub returns-then-index-len-clause-shared : goal.returns-then-index-len-clause-shared
returns-then-index-len-clause-shared c =
    let a = c.self.inside in
    let i = c.self.invariant in
    let below = i.oldest in
    sym (shared_there (turned a.oldest (padded a.ring.items)) 0 bare
    (bare_there a.oldest 0 a.oldest a.ring.items i.few i.oldest (omega arith) (omega (arith, below)) (omega (arith, c.if-index-len.true, c.len.ensures))))
    ∙ ap (λ (heads : List Head). shared_at heads 0) c.self.view_is

pub returns-then-index-len-clause-heads : goal.returns-then-index-len-clause-heads
returns-then-index-len-clause-heads c =
    let a = c.self.inside in
    let i = c.self.invariant in
    let head : Head = record { shared = c.args.shared; location = c.args.location; marker = c.args.marker } in
    let below = i.oldest in
    let behind : length a.ring.items ≤ a.oldest = omega (arith, c.if-index-len.true, c.len.ensures) in
    let last : a.oldest ≡ length a.ring.items = i.put (omega (arith, behind, below)) in
    put_newest a.oldest c.next_place-self-inside.result a.ring.items c.push_reserved.new.self.items head i.few i.oldest c.next_place-self-inside.ensures.place
    (ap padded c.push_reserved.ensures.items ∙ put-padded a.ring.items a.oldest head last (omega (arith, behind, below)))
    ∙ ap (λ (heads : List Head). drop 1 heads ++ head ∷ []) c.self.view_is

-- ---- 1,536 heads were added

pub returns-clause-shared : goal.returns-clause-shared
returns-clause-shared c =
    let a = c.self.inside in
    let i = c.self.invariant in
    let oldest : Head = c.index_mut.result.now in
    let below = i.oldest in
    ap (λ (head : Head). head.shared) c.replace-before.ensures.value
    ∙ sym (shared_there (turned a.oldest (padded a.ring.items)) 0 oldest
    (head_there a.oldest 0 a.oldest a.ring.items i.few i.oldest (omega arith) (omega (arith, below)) oldest (omega (arith, c.if-index-len.false, c.len.ensures))
    c.index_mut.ensures.value))
    ∙ ap (λ (heads : List Head). shared_at heads 0) c.self.view_is

pub returns-clause-heads : goal.returns-clause-heads
returns-clause-heads c =
    let a = c.self.inside in
    let i = c.self.invariant in
    let head : Head = record { shared = c.args.shared; location = c.args.location; marker = c.args.marker } in
    put_newest a.oldest c.next_place-self-inside.result a.ring.items (set a.ring.items a.oldest c.replace-before.new.dest) head i.few i.oldest
    c.next_place-self-inside.ensures.place
    (ap (λ (h : Head). padded (set a.ring.items a.oldest h)) c.replace-before.ensures.after
    ∙ set-padded a.ring.items a.oldest head (omega (arith, c.if-index-len.false, c.len.ensures)))
    ∙ ap (λ (heads : List Head). drop 1 heads ++ head ∷ []) c.self.view_is
