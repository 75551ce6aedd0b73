use Rattle.std.proofs.Common.{◌≡◌, ◌<◌, ℕ, ◌∷◌, ◌++◌, drop, get_or}
use Rattle.std.specs.Prelude.{decimal}
use Rattle.std.specs.List.{flat_map}
use Rattle.script_texts.specs.Texts.{GoesOn}
use Rattle.script_texts.proofs.replies.append_names.Given as goal

abbrev pub invariant-loop-number : goal.invariant-loop-number
invariant-loop-number l = record {
  written : l.out ++ flat_map (λ n. 32 ∷ decimal n) (drop l.number-index l.numbers) ≡ l.initial.out ++ flat_map (λ n. 32 ∷ decimal n) l.numbers;
  read : (k : ℕ) → k < l.number-index → get_or l.numbers k 0 < 65536;
  begun : GoesOn l.fn.out l.out;
}
