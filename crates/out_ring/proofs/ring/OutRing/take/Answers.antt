use Rattle.std.proofs.Common.{◌≡◌, ◌+◌, ◌-◌, ◌%◌, ℕ, Ok, refl, sym, ap, subst, ◌∙◌, arith, drop}
use Rattle.out_ring.specs.Held.{held}
use Rattle.out_ring.specs.History.{Gives, IsAfter, and_take}
use Rattle.out_ring.specs.Places.{SendsFrom}
use Rattle.out_ring.specs.Ring.{Ring, Takes}
use Rattle.out_ring.specs.Slots.{packets_of}
use Rattle.out_ring.proofs.Calls.{TakesOne, none_queued, take_fields, takes_one}
use Rattle.out_ring.proofs.Histories.{none_waits, take_stands}
use Rattle.out_ring.proofs.Holding.{all_slots, copy_held, fewer_held}
use Rattle.out_ring.proofs.Steps.{ring_of, size_of_held}
use Rattle.out_ring.proofs.ring.OutRing.take.Goals as goal

pub returns-then-self-eq0-clause-empty : goal.returns-then-self-eq0-clause-empty
returns-then-self-eq0-clause-empty c h at =
    let a = c.self.inside in
    let empty = none_queued a.ssrc a.next a.kept (held a) (size_of_held (packets_of a.slots) a.queued a.kept (all_slots c.self.inside.slots (c.self.inside.queued + c.self.inside.kept) c.self.invariant.placed) (omega arith) ∙ omega (arith, c.if-self-eq0.true)) in
    ((λ same. none_waits c.args.self.now h at (sym (ap (λ r. r.queued) c.self.view_is) ∙ empty)), λ same. refl)

pub send-requires-clause-copy : goal.send-requires-clause-copy
send-requires-clause-copy c =
    let a = c.self.inside in
    let most = c.self.invariant.queued in
    let most_kept = c.self.invariant.kept in
    copy_held a.slots (a.queued + a.kept) (1536 - c.from.result) c.self.invariant.placed (omega (arith, c.from.ensures, most, most_kept))

pub invariant_of-self : goal.invariant_of-self
invariant_of-self c =
    let a = c.self.inside in
    let i = c.self.invariant in
    let some = c.if-self-eq0.false in
    let keeps = c.min-self-inside.ensures in
    let queued = i.queued in
    let kept = i.kept in
    let spent = i.spent in
    record {
      placed = fewer_held a.slots (a.queued + a.kept) (a.queued - 1 + c.min-self-inside.result) i.placed (omega (arith, some, keeps, kept)) (omega (arith, queued, kept));
      next = omega arith;
      queued = omega (arith, queued);
      kept = omega (arith, keeps);
      spent = omega (arith, some, keeps, kept, spent, c.saturating_sub.ensures);
    }

taken_now : (c : goal.After-self-4-1)
    → TakesOne c.args.self.now
    (ring_of c.self.inside.ssrc ((c.self.inside.next + 1) % 65536) c.min-self-inside.result
    (drop (1536 - (c.self.inside.queued - 1) - c.min-self-inside.result) (packets_of c.self.inside.slots)))
    c.send.new.out
taken_now c =
    let a = c.self.inside in
    let i = c.self.invariant in
    let sends : SendsFrom (packets_of a.slots) (1536 - a.queued) a.next a.ssrc c.send.new.out =
    subst (λ (n : ℕ). SendsFrom (packets_of a.slots) (1536 - n) a.next a.ssrc c.send.new.out) c.from.ensures
    c.send.ensures.sends in
    let fields = take_fields (packets_of a.slots) a.ssrc a.next a.queued a.kept (all_slots a.slots (a.queued + a.kept) i.placed) i.next i.queued i.kept c.min-self-inside.result c.send.new.out
    (omega (arith, c.if-self-eq0.false)) c.min-self-inside.ensures sends in
    subst (λ (r : Ring). TakesOne r (ring_of a.ssrc ((a.next + 1) % 65536) c.min-self-inside.result
    (drop (1536 - (a.queued - 1) - c.min-self-inside.result) (packets_of a.slots))) c.send.new.out) c.self.view_is fields

number_now : (c : goal.After-self-4-1) → c.args.self.now.next ≡ c.self.inside.next
number_now c = sym (ap (λ r. r.next) c.self.view_is)

pub returns-clause-takes : goal.returns-clause-takes
returns-clause-takes c =
    let a = c.self.inside in
    subst (λ (n : ℕ). Takes c.args.self.now (ring_of a.ssrc ((a.next + 1) % 65536) c.min-self-inside.result
    (drop (1536 - (a.queued - 1) - c.min-self-inside.result) (packets_of a.slots))) (Ok n) c.args.out.now c.send.new.out) (number_now c)
    (takes_one c.args.self.now _ c.args.out.now c.send.new.out (taken_now c))

pub returns-clause-stands : goal.returns-clause-stands
returns-clause-stands c h at =
    let one = taken_now c in
    subst (λ (r : Ring). IsAfter r (and_take h)) (sym one.is) (take_stands c.args.self.now h c.send.new.out one.rest at one.waits).stands

pub returns-clause-gives : goal.returns-clause-gives
returns-clause-gives c h at =
    let one = taken_now c in
    subst (λ (n : ℕ). Gives h h.takes (record { number = n; bytes = c.send.new.out })) (number_now c)
    (take_stands c.args.self.now h c.send.new.out one.rest at one.waits).gives

pub returns-clause-empty : goal.returns-clause-empty
returns-clause-empty c h at =
    let one = taken_now c in
    let more = (take_stands c.args.self.now h c.send.new.out one.rest at one.waits).more in
    ((λ same. absurd (cc same)), λ same. absurd (omega (arith, more, same)))
