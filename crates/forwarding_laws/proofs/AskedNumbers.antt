-- The numbers whose causes are known.
use Rattle.std.proofs.Common.{◌≡◌, ◌+◌, ◌<◌, ◌≤◌, ℕ, arith, true, false}
use Rattle.std.proofs.lemmas.Bool.{ltb-true, ltb-false, leb-true, leb-false}
use Rattle.std.specs.declared.option.Option.TheVariants.{Some}
use Rattle.forwarding_model.specs.forwarding.Causes.{is_ahead, is_too_old, oldest_asked}

pub too_old_is_below : (newest n : ℕ)
    → (is_too_old (Some newest) n ≡ true → n < oldest_asked newest) × (is_too_old (Some newest) n ≡ false → oldest_asked newest ≤ n)
too_old_is_below newest n = (
  (λ e. let le : n + 4096 ≤ newest = leb-true (n + 4096) newest e in omega arith),
  λ e. let gt : newest < n + 4096 = leb-false (n + 4096) newest e in omega arith,
)

pub ahead_is_above : (newest n : ℕ) → (is_ahead (Some newest) n ≡ true → newest < n) × (is_ahead (Some newest) n ≡ false → n ≤ newest)
ahead_is_above newest n = (ltb-true newest n, ltb-false newest n)
