-- How many packets are held.
use Rattle.std.proofs.Common.{◌≡◌, ◌≤◌, ℕ, ◌+◌, ◌-◌, length, map, drop, sym, ap, subst, ◌∙◌, arith, Some, slice_get}
use Rattle.std.proofs.lemmas.List.{drop-drop, drop-map, length-map}
use Rattle.out_ring.specs.declared.heads.Head.{Head}
use Rattle.out_ring.specs.declared.pages.Copies.{Copies}
use Rattle.out_ring.specs.declared.slots.Slots.{Slots}
use Rattle.out_ring.specs.Pages.{filled}
use Rattle.out_ring.specs.Slots.{AreHeld, AreIn, HasCopy, packet_in, packets_of}
use Rattle.out_ring.proofs.Lists.{item_after_drop}
use Rattle.out_ring.proofs.Placed.{fewer_placed}

pub all_slots : (slots : Slots) (held : ℕ) → AreHeld slots held → length (packets_of slots) ≡ 1536
all_slots slots held is = length-map slots.heads (packet_in slots.own.bytes.items) ∙ is.size

-- the packet at a place among those that are held is there
pub copy_held : (slots : Slots) (held place : ℕ) → AreHeld slots held → 1536 - held ≤ place → (head : Head) → slice_get slots.heads place ≡ Some head
    → HasCopy slots.own.bytes.items head
copy_held slots held place is within head e =
    (is.placed.each (place - (1536 - held)) head
    (item_after_drop slots.heads (1536 - held) (place - (1536 - held))
    ∙ ap (slice_get slots.heads) (let same : 1536 - held + (place - (1536 - held)) ≡ place = omega (arith, within) in same) ∙ e)).copy

pub fewer_held : (slots : Slots) (held fewer : ℕ) → AreHeld slots held → fewer ≤ held → held ≤ 1536 → AreHeld slots fewer
fewer_held slots held fewer is less most = record {
  size = is.size;
  placed =
      subst (AreIn slots.own)
      (drop-drop (held - fewer) (1536 - held) slots.heads
      ∙ ap (λ (k : ℕ). drop k slots.heads) (let e : 1536 - held + (held - fewer) ≡ 1536 - fewer = omega (arith, less, most) in e))
      (fewer_placed slots.own.bytes.items slots.own.order.items (filled slots.own.order.items slots.own.at) (held - fewer) (drop (1536 - held) slots.heads) is.placed);
}

-- what is evicted changes no packet that is held
pub evicted_held : (slots new : Slots) (held : ℕ) → AreHeld slots held → length new.heads ≡ length slots.heads → new.own ≡ slots.own
    → drop (1536 - held) new.heads ≡ drop (1536 - held) slots.heads → AreHeld new held
evicted_held slots new held is size own heads = record {
  size = size ∙ is.size;
  placed = subst (λ (o : Copies). AreIn o (drop (1536 - held) new.heads)) (sym own) (subst (AreIn slots.own) (sym heads) is.placed);
}

pub evicted_packets : (slots new : Slots) (from : ℕ) → new.own ≡ slots.own → drop from new.heads ≡ drop from slots.heads
    → drop from (packets_of new) ≡ drop from (packets_of slots)
evicted_packets slots new from own heads =
    drop-map (packet_in new.own.bytes.items) from new.heads
    ∙ ap (λ (o : Copies). map (packet_in o.bytes.items) (drop from new.heads)) own
    ∙ ap (map (packet_in slots.own.bytes.items)) heads
    ∙ sym (drop-map (packet_in slots.own.bytes.items) from slots.heads)
