use Rattle.std.proofs.Common.{◌≡◌, ◌≤◌, ◌+◌, ◌-◌, ◌*◌, ◌∙◌, ◌++◌, ◌∷◌, [], List, ℕ, ap, ap₂, arith, drop, get_or, length, map, None, refl}
use Rattle.out_ring.specs.declared.heads.Head.{Head}
use Rattle.out_ring.specs.declared.pages.Location.{Location}
use Rattle.out_ring.specs.Pages.{copy_at, filled}
use Rattle.out_ring.specs.Slots.{packet_in, packets_of}
use Rattle.out_ring.proofs.Placed.{packets_stay, placed_same, written_placed}
use Rattle.out_ring.proofs.Slotted.{newest_pushed, packets_pushed, size_pushed}
use Rattle.out_ring.proofs.slots.Slots.fill.Goals as goal

fits : (c : goal.After-put_last) → filled c.make_capacity.new.own.order.items c.make_capacity.new.own.at + length c.args.packet.now ≤ 49152
fits c =
    let own = c.make_capacity.new.own in
    let page = own.page in
    let above = own.above in
    let below = own.below in
    let capacity = c.make_capacity.ensures.capacity in
    omega (arith, page, above, below, capacity)

next : (c : goal.After-put_last) → c.make_capacity.new.own.at
    ≡ 49152 * get_or c.make_capacity.new.own.order.items 48 0 + filled c.make_capacity.new.own.order.items c.make_capacity.new.own.at
next c = let above = c.make_capacity.new.own.above in omega (arith, above)

end : (c : goal.After-put_last) → c.make_capacity.new.own.at + length c.args.packet.now ≤ length c.make_capacity.new.own.bytes.items
end c =
    let there = c.make_capacity.new.own.there in
    let capacity = c.make_capacity.ensures.capacity in
    omega (arith, there, capacity)

pub returns-clause-placed : goal.returns-clause-placed
returns-clause-placed c =
    let own = c.make_capacity.new.own in
    let new = c.write-location.new.self in
    let heads : List Head = c.args.self.now.heads in
    let held : List Head = drop (1536 - c.args.held) heads in
    let current : ℕ = get_or own.order.items 48 0 in
    let at : Location = record { at = own.at; size = length c.args.packet.now; page = current } in
    let last : Head = record { shared = None; location = at; marker = c.args.marker } in
    let full = c.requires.placed.size in
    let pushed : c.put_last.new.self ≡ drop 1 heads ++ last ∷ [] =
    c.put_last.ensures.heads
    ∙ ap (λ (l : Location). drop 1 heads ++ record { shared = None; location = l; marker = c.args.marker } ∷ []) c.write-location.ensures.location in
    record {
      size = ap length pushed ∙ size_pushed heads last full;
      placed =
          placed_same new.bytes.items new.bytes.items own.order.items new.order.items (filled own.order.items own.at + length c.args.packet.now)
          (filled new.order.items new.at) (held ++ last ∷ []) _
          refl (ap (λ order. order.items) c.write-location.ensures.order)
          (ap₂ (λ order at. filled order.items at) c.write-location.ensures.order c.write-location.ensures.at
          ∙ (let above = own.above in omega (arith, above)))
          (ap (drop (1536 - (c.args.held + 1))) pushed
          ∙ ap (λ (k : ℕ). drop k (drop 1 heads ++ last ∷ [])) (let e : 1536 - (c.args.held + 1) ≡ 1535 - c.args.held = omega arith in e)
          ∙ newest_pushed heads last c.args.held full c.requires.held)
          (written_placed own.bytes.items new.bytes.items own.order.items (filled own.order.items own.at) current own.at c.args.packet.now held own.ordered refl
          c.make_capacity.ensures.placed (fits c) (next c) (end c) c.write-location.ensures.bytes c.args.marker c.requires.fits c.requires.reads);
    }

pub returns-clause-packets : goal.returns-clause-packets
returns-clause-packets c =
    let own = c.make_capacity.new.own in
    let new = c.write-location.new.self in
    let heads : List Head = c.args.self.now.heads in
    let held : List Head = drop (1536 - c.args.held) heads in
    let current : ℕ = get_or own.order.items 48 0 in
    let last : Head = record { shared = None; location = c.write-location.result; marker = c.args.marker } in
    let wrote = c.write-location.ensures.bytes in
    ap (λ (l : List Head). drop (1535 - c.args.held) (map (packet_in new.bytes.items) l)) c.put_last.ensures.heads
    ∙ packets_pushed c.args.self.now.own.bytes.items new.bytes.items heads last c.args.held c.requires.placed.size c.requires.held
    (packets_stay own.bytes.items new.bytes.items own.order.items (filled own.order.items own.at) current own.at c.args.packet.now held own.ordered refl
    c.make_capacity.ensures.placed (fits c) (next c) (end c) wrote
    ∙ c.make_capacity.ensures.packets)
    ∙ ap (λ (bytes : List ℕ). drop (1536 - c.args.held) (packets_of c.args.self.now) ++ record { bytes = bytes; marker = c.args.marker } ∷ [])
    (ap (copy_at new.bytes.items) c.write-location.ensures.location ∙ wrote.there)
