use Rattle.std.proofs.Common.{◌≡◌, ◌<◌, ◌⊎◌, inl, inr, ◌+◌, ◌-◌, ◌%◌, ℕ, Err, Some, sym, ap, subst, arith}
use Rattle.std.specs.Prelude.{◌==◌}
use Rattle.std.specs.List.{find}
use Rattle.sfu_base.specs.declared.call.Refusal.TheVariants.{NotKept}
use Rattle.out_ring.specs.Places.{SendsFrom}
use Rattle.out_ring.specs.Ring.{Resends, Ring}
use Rattle.out_ring.specs.Slots.{packets_of}
use Rattle.out_ring.proofs.Calls.{IsNotKept, resend_found, resend_refused, resends_none, resends_one}
use Rattle.out_ring.proofs.Histories.{refusal_stands, resend_stands}
use Rattle.out_ring.proofs.Holding.{all_slots, copy_held}
use Rattle.out_ring.proofs.ring.OutRing.resend.Goals as goal
use Rattle.out_ring.proofs.ring.OutRing.resend.Goals.{then-takes_ago-eq0-via-then-takes_ago-eq0, then-takes_ago-eq0-via-else-takes_ago-eq0+then-takes_ago-self}

-- none of the kept packets has the number
far : (c : goal.Joined-then-takes_ago-eq0)
    → ((c.self.inside.next + (65536 - c.args.seq)) % 65536 ≡ 0) ⊎ (c.self.inside.kept < (c.self.inside.next + (65536 - c.args.seq)) % 65536)
far c = elim c.then-takes_ago-eq0.branch [
  | then-takes_ago-eq0-via-then-takes_ago-eq0 w ↦ inl w.if-takes_ago-eq0.true
  | then-takes_ago-eq0-via-else-takes_ago-eq0+then-takes_ago-self w ↦ inr w.if-takes_ago-self.true
]

not_kept : (c : goal.Joined-then-takes_ago-eq0) → IsNotKept c.args.self.now c.args.seq ((c.self.inside.next + (65536 - c.self.inside.kept)) % 65536)
not_kept c =
    let a = c.self.inside in
    let i = c.self.invariant in
    subst (λ (r : Ring). IsNotKept r c.args.seq ((a.next + (65536 - a.kept)) % 65536)) c.self.view_is
    (resend_refused (packets_of a.slots) a.ssrc a.next a.queued a.kept (all_slots a.slots (a.queued + a.kept) i.placed) i.next i.queued i.kept c.args.seq (omega arith) (far c))

pub returns-then-takes_ago-eq0-clause-resends : goal.returns-then-takes_ago-eq0-clause-resends
returns-then-takes_ago-eq0-clause-resends c =
    let a = c.self.inside in
    subst (λ (n : ℕ). Resends c.args.self.now c.args.seq (Err (NotKept ((a.next + (65536 - a.kept)) % 65536) n)) c.args.out.now c.args.out.now)
    (sym (ap (λ r. r.next) c.self.view_is))
    (resends_none c.args.self.now c.args.seq ((a.next + (65536 - a.kept)) % 65536) c.args.out.now (not_kept c))

pub returns-then-takes_ago-eq0-clause-not_kept : goal.returns-then-takes_ago-eq0-clause-not_kept
returns-then-takes_ago-eq0-clause-not_kept c h at = refusal_stands c.args.self.now h c.args.seq at (not_kept c).none

pub send-requires-clause-copy : goal.send-requires-clause-copy
send-requires-clause-copy c =
    let a = c.self.inside in
    let most = c.self.invariant.queued in
    let most_kept = c.self.invariant.kept in
    copy_held a.slots (a.queued + a.kept) (1536 - c.from-place.result) c.self.invariant.placed
    (omega (arith, c.from-place.ensures, most, most_kept, c.if-takes_ago-self.false))

found : (c : goal.After-send) → find (λ p. p.number == c.args.seq) c.args.self.now.kept ≡ Some (record { number = c.args.seq; bytes = c.send.new.out })
found c =
    let a = c.self.inside in
    let i = c.self.invariant in
    let sends : SendsFrom (packets_of a.slots) (1536 - (a.queued + (a.next + (65536 - c.args.seq)) % 65536)) c.args.seq a.ssrc c.send.new.out =
    subst (λ (n : ℕ). SendsFrom (packets_of a.slots) (1536 - n) c.args.seq a.ssrc c.send.new.out) c.from-place.ensures
    c.send.ensures.sends in
    subst (λ (r : Ring). find (λ p. p.number == c.args.seq) r.kept ≡ Some (record { number = c.args.seq; bytes = c.send.new.out })) c.self.view_is
    (resend_found (packets_of a.slots) a.ssrc a.next a.queued a.kept (all_slots a.slots (a.queued + a.kept) i.placed) i.next i.queued i.kept c.args.seq c.send.new.out (omega arith)
    c.if-takes_ago-eq0.false c.if-takes_ago-self.false sends)

pub returns-clause-resends : goal.returns-clause-resends
returns-clause-resends c = resends_one c.args.self.now c.args.seq c.args.out.now c.send.new.out (found c)

pub returns-clause-first_bytes : goal.returns-clause-first_bytes
returns-clause-first_bytes c h at =
    resend_stands c.args.self.now h c.args.seq (record { number = c.args.seq; bytes = c.send.new.out }) at (found c)
