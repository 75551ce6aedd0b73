use Rattle.std.proofs.Common.{◌∙◌, List, Option, Some, ap, arith, get_or, length, slice_get, sym, ℕ}
use Rattle.out_ring.specs.declared.heads.Head.{Head}
use Rattle.out_ring.proofs.Padded.{bare_there, head_there}
use Rattle.out_ring.proofs.heads.Heads.get.Goals as goal

pub returns-in-Some : goal.returns-in-Some
returns-in-Some c =
    let a = c.self.inside in
    let i = c.self.invariant in
    let index : ℕ = c.place_from.result in
    let head : Head = c.in-Some.head.now in
    let found = c.in-Some.ensures.lookup in
    ap (λ (heads : List Head). slice_get heads c.args.place) (sym c.self.view_is)
    ∙ head_there a.oldest c.args.place index a.ring.items i.few i.oldest c.requires c.place_from.ensures.place head
    (omega (arith, found.3.0, ap length c.deref.ensures.value))
    (found.1 ∙ ap (λ (heads : List Head). get_or heads index head) c.deref.ensures.value)
    ∙ ap (λ (shared : Option (List ℕ)). Some (record { shared = shared; location = head.location; marker = head.marker })) (sym c.as_ref.ensures.value)

pub returns-in-None : goal.returns-in-None
returns-in-None c =
    let a = c.self.inside in
    let i = c.self.invariant in
    ap (λ (heads : List Head). slice_get heads c.args.place) (sym c.self.view_is)
    ∙ bare_there a.oldest c.args.place c.place_from.result a.ring.items i.few i.oldest c.requires c.place_from.ensures.place
    (omega (arith, c.in-None.ensures.lookup.3, ap length c.deref.ensures.value))
