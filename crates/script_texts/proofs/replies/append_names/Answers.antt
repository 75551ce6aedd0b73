use Rattle.std.proofs.Common.{◌++◌, ◌∙◌, ap, List, ℕ, ◌∷◌, arith}
use Rattle.std.specs.Prelude.{decimal}
use Rattle.std.specs.List.{flat_map}
use Rattle.script_texts.proofs.NamesText.{names_written}
use Rattle.script_texts.proofs.Ranges.{all_within}
use Rattle.script_texts.proofs.replies.append_names.Goals as goal

pub returns-clause-ok : goal.returns-clause-ok
returns-clause-ok c =
    names_written c.loop-number.out c.args.out.now c.args.numbers.now c.loop-number.number-index (omega arith)
    (c.loop-number.invariant.written ∙ ap (λ (front : List ℕ). front ++ flat_map (λ n. 32 ∷ decimal n) c.args.numbers.now) c.in_ok-append.ensures.ok)

pub returns-clause-says : goal.returns-clause-says
returns-clause-says c = (tt, all_within c.args.numbers.now (λ k lt. c.loop-number.invariant.read k (omega arith)))
