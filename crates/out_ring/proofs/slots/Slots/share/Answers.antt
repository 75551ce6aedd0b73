use Rattle.std.proofs.Common.{◌≡◌, ◌+◌, ◌-◌, ◌∙◌, ◌++◌, ◌∷◌, [], List, ℕ, ap, arith, drop, get_or, length, map, refl, Some}
use Rattle.out_ring.specs.declared.heads.Head.{Head}
use Rattle.out_ring.specs.declared.pages.Location.{Location}
use Rattle.out_ring.specs.Pages.{filled}
use Rattle.out_ring.specs.Slots.{packet_in}
use Rattle.out_ring.proofs.Placed.{placed_same, shared_placed}
use Rattle.out_ring.proofs.Slotted.{all_pushed, newest_pushed, size_pushed}
use Rattle.out_ring.proofs.slots.Slots.share.Goals as goal

pub returns-clause-placed : goal.returns-clause-placed
returns-clause-placed c held few is =
    let own = c.args.self.now.own in
    let heads : List Head = c.args.self.now.heads in
    let at : Location = record { at = own.at; size = 0; page = get_or own.order.items 48 0 } in
    let last : Head = record { shared = Some c.args.packet; location = at; marker = c.args.marker } in
    let full = is.size in
    let pushed : c.put_last.new.self ≡ drop 1 heads ++ last ∷ [] =
    c.put_last.ensures.heads
    ∙ ap (λ (l : Location). drop 1 heads ++ record { shared = Some c.args.packet; location = l; marker = c.args.marker } ∷ []) c.nowhere-location.ensures in
    record {
      size = ap length pushed ∙ size_pushed heads last full;
      placed =
          placed_same own.bytes.items own.bytes.items own.order.items own.order.items (filled own.order.items own.at) (filled own.order.items own.at) (drop (1536 - held) heads ++ last ∷ []) _
          refl refl refl
          (ap (drop (1536 - (held + 1))) pushed
          ∙ ap (λ (k : ℕ). drop k (drop 1 heads ++ last ∷ [])) (let e : 1536 - (held + 1) ≡ 1535 - held = omega arith in e)
          ∙ newest_pushed heads last held full few)
          (shared_placed own.bytes.items own.order.items own.at (drop (1536 - held) heads) c.args.packet c.args.marker own.ordered own.above own.below is.placed);
    }

pub returns-clause-packets : goal.returns-clause-packets
returns-clause-packets c =
    let own = c.args.self.now.own in
    ap (map (packet_in own.bytes.items)) c.put_last.ensures.heads
    ∙ all_pushed own.bytes.items c.args.self.now.heads (record { shared = Some c.args.packet; location = c.nowhere-location.result; marker = c.args.marker })
