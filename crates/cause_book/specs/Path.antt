-- The test of a path as the code does it, on neighbours in a list. The model defines the same in words (`IsPath`).
use Rattle.std.specs.Prelude.{ℕ, List, [], ◌∷◌, Bool, true, false, ◌&&◌, ◌==◌, nat_lt}
use Rattle.std.specs.declared.option.Option.{Option}
use Rattle.std.specs.declared.option.Option.TheVariants.{None, Some}
use Rattle.sfu_base.specs.declared.frame.Verdict.{Verdict}
use Rattle.sfu_base.specs.declared.frame.Verdict.TheVariants.{Passed, NotOfTarget, Behind, Reference, Full, Link, Unopened, Hole}
use Rattle.sfu_base.specs.declared.frame.Step.{Step}
use Rattle.forwarding_model.specs.forwarding.Causes.{followed}

abbrev pub is_root : Verdict → Bool
is_root Passed = false
is_root (NotOfTarget target) = true
is_root (Behind fdiff start) = true
is_root (Reference number) = false
is_root (Full queued needed) = true
is_root (Link at number) = false
is_root (Unopened since) = true
is_root (Hole below above) = true

abbrev pub is_number : Option ℕ → ℕ → Bool
is_number None n = false
is_number (Some m) n = m == n

-- the step names the next step's number, which is below its own
abbrev pub leads_to : Step → Step → Bool
leads_to step next = is_number (followed step.verdict) next.number && nat_lt next.number step.number

abbrev pub is_path_from : Step → List Step → Bool
is_path_from step [] = is_root step.verdict
is_path_from step (next ∷ rest) = leads_to step next && is_path_from next rest

abbrev pub is_path : List Step → Bool
is_path [] = false
is_path (step ∷ rest) = is_path_from step rest
