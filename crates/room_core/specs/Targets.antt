-- Whether a subscriber has a current target.
use Rattle.std.specs.Prelude.{Bool, true, false}
use Rattle.forwarding_model.specs.declared.target.CurrentTarget.{CurrentTarget}
use Rattle.forwarding_model.specs.declared.target.CurrentTarget.TheVariants.{Open, Closed}

abbrev pub has_no_target : CurrentTarget → Bool
has_no_target (Open target opened) = false
has_no_target (Closed reason) = true
