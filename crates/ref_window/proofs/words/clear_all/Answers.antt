use Rattle.std.proofs.Common.{refl}
use Rattle.std.specs.Prelude.{replicate}
use Rattle.ref_window.proofs.Held.{no_bits}
use Rattle.ref_window.proofs.words.clear_all.Goals as goal

pub returns : goal.returns
returns c = no_bits (replicate 64 0) refl
