use Rattle.std.proofs.Common.{List, subst, sym, true≢false, ℕ, ◌+◌, ◌<◌}
use Rattle.room_core.proofs.Listing.{IsListed, next_listed}
use Rattle.room_core.proofs.ready.list_ready.Goals as goal
use Rattle.room_core.proofs.ready.list_ready.Goals.{in-Some, in_default}

pub loop-place-preserved : goal.loop-place-preserved
loop-place-preserved c = elim c.match-get_index.branch [
  | in-Some w ↦
      subst (λ (ns : List ℕ). IsListed c.args.track (c.loop-place.place + 1) c.args.subscribers.now.entries c.args.numbers.now ns c.match-get_index.count) (sym w.numbers-is)
      (subst (λ (k : ℕ). IsListed c.args.track (c.loop-place.place + 1) c.args.subscribers.now.entries c.args.numbers.now w.put_ready-count.new.numbers k) (sym w.count-is)
      (next_listed c.args.track c.loop-place.place w.in-Some.number.now c.loop-place.count w.put_ready-count.result w.in-Some.known.now c.args.subscribers.now.entries c.args.numbers.now
      c.loop-place.numbers w.put_ready-count.new.numbers w.is_ready.result (sym w.in-Some.ensures.entry) w.is_ready.ensures c.loop-place.invariant w.put_ready-count.ensures.puts
      w.put_ready-count.ensures.grows w.put_ready-count.ensures.within w.put_ready-count.ensures.len w.put_ready-count.ensures.rest))
  | in_default w ↦
      absurd (true≢false (sym (w.in_default.ensures.found.1 (subst (λ (n : ℕ). c.loop-place.place < n) c.len-place-end.ensures.len c.loop-place-test.true))))
]
