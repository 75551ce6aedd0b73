-- How many are queued.
use Rattle.std.proofs.Common.{◌≡◌, ◌<◌, ◌≤◌, ◌-◌, ℕ, List, length, drop, ap, arith}
use Rattle.out_ring.specs.Ring.{Pushed, Ring}
use Rattle.out_ring.proofs.Steps.{ring_of, size_of_held, size_of_queue}

-- the number of queued packets is the length of the queue
pub few_queued : (slots : List Pushed) (ssrc next queued kept : ℕ) (ring : Ring) → length slots ≡ 1536 → queued ≤ 512 → kept ≤ 1024
    → ring_of ssrc next kept (drop (1536 - queued - kept) slots) ≡ ring → length ring.queued < 512 → queued < 512
few_queued slots ssrc next queued kept ring size most most_kept is few =
    let held : List Pushed = drop (1536 - queued - kept) slots in
    let count = size_of_queue ssrc next kept queued held (size_of_held slots queued kept size (omega (arith, most, most_kept))) in
    let same : length (ring_of ssrc next kept held).queued ≡ length ring.queued = ap (λ (r : Ring). length r.queued) is in
    omega (arith, count, same, few)
