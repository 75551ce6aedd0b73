-- The packets drawn are a prefix of all outgoing packets.
use Rattle.std.proofs.Common.{◌≡◌, ℕ, zero, suc, Bool, true, false, cond, List, [], ◌∷◌, ◌++◌, map, take, ap, ◌∙◌, Some, slice_get, add-one}
use Rattle.std.proofs.lemmas.List.{take-append-le}
use Rattle.out_ring.specs.Ring.{Sent}
use Rattle.out_ring.specs.History.{numbered}
use Rattle.leg_switch.specs.FrameNumbers.{passed_renumbered}
use Rattle.leg_switch.specs.Marks.{marks_of}
use Rattle.leg_switch.specs.Switching.{LegEvent, passed}
use Rattle.leg_switch.proofs.Growing.{outgoing_grows, outgoing_renumbered_grows}
use Rattle.simulcast.specs.Drawn.{DrawsAdd, DrawsStay}
use Rattle.simulcast.specs.Made.{Made, outgoing_of}

take_one_more : (xs : List (List ℕ)) (i : ℕ) (x : List ℕ) → slice_get xs i ≡ Some x → take (suc i) xs ≡ take i xs ++ x ∷ []
take_one_more [] i x e = absurd cc
take_one_more (y ∷ ys) zero x e = let same : y ≡ x = cc in ap (λ (z : List ℕ). z ∷ []) same
take_one_more (y ∷ ys) (suc i) x e = ap (λ (l : List (List ℕ)). y ∷ l) (take_one_more ys i x e)

pub draws_add : DrawsAdd
draws_add m bytes e = ap (λ (n : ℕ). take n (outgoing_of m)) (add-one m.draws) ∙ take_one_more (outgoing_of m) m.draws bytes e

-- the outgoing packets after these events, with frame numbers that continue or with each leg's own
abbrev sends : Made → Bool → List LegEvent → List (List ℕ)
sends m b events = map (λ (p : Sent). p.bytes) (numbered m.first m.ssrc (cond b (passed_renumbered (marks_of m.id) m.id events) (passed (marks_of m.id) events)))

pub draws_stay : DrawsStay
draws_stay m later few =
    let g = grows m.renumbers in
    ap (take m.draws) g.1 ∙ take-append-le m.draws (outgoing_of m) g.0 few
  where
    grows : (b : Bool) → (more : List (List ℕ)) × (sends m b (later ++ m.events) ≡ sends m b m.events ++ more)
    grows false = outgoing_grows (marks_of m.id) m.first m.ssrc later m.events
    grows true = outgoing_renumbered_grows (marks_of m.id) m.id m.first m.ssrc later m.events
