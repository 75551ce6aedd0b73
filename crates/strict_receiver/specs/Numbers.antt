-- Which of the received frame numbers are stored. Own rule. Only a number's distance below the newest matters, and a frame refers at most 4,096
-- back (AV1 RTP payload format, Appendix A, frame_fdiff). So the stored numbers may be lower than those of the definition by a multiple of
-- 65,536, and numbers too far below the newest are missing.
use Rattle.std.specs.Prelude.{◌≡◌, ◌%◌, ◌≤◌, ◌<◌, ℕ, Option, None, Some}
use Rattle.std.specs.List.{AllByRecursion}
use Rattle.forwarding_model.specs.Receiver.{Judged, Received, is_received}
use Rattle.forwarding_model.specs.Receiver.Judged.{Complete, Lacks}

-- the stored numbers after a frame was accepted
pub record AreKeptOf (kept received : Received) : Type 0 where
  pub newest : kept.newest % 65536 ≡ received.newest % 65536
  pub below : AllByRecursion (λ m. m ≤ kept.newest) kept.numbers
  pub before : AllByRecursion (λ m. m ≤ received.newest) received.numbers
  pub distances : (d : ℕ) → d < 4096 → is_received kept.numbers kept.newest d ≡ is_received received.numbers received.newest d

-- the stored numbers after the next frame's number became the newest, and before that frame counts as received
pub record ArePlacedAs (kept placed : Received) : Type 0 where
  pub newest : kept.newest % 65536 ≡ placed.newest % 65536
  pub below : AllByRecursion (λ m. m < kept.newest) kept.numbers
  pub before : AllByRecursion (λ m. m < placed.newest) placed.numbers
  pub distances : (d : ℕ) → 1 ≤ d → d ≤ 4096 → is_received kept.numbers kept.newest d ≡ is_received placed.numbers placed.newest d

-- no reference is missing, and these numbers are stored afterwards; or the reference at this distance is missing
abbrev pub Judges : Received → Option ℕ → Judged → Type 0
Judges now None (Complete received) = AreKeptOf now received
Judges now None (Lacks fdiff) = ⊥
Judges now (Some distance) (Complete received) = ⊥
Judges now (Some distance) (Lacks fdiff) = distance ≡ fdiff
