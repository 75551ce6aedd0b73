use Rattle.std.proofs.Common.{ap, ◌∙◌, map, rules}
use Rattle.std.proofs.lemmas.List.Sorted.{IsNonDecreasingBy-from_sort_by_key, IsPermutation-trans}
use Rattle.port_config.proofs.Sorting.{sorted_is}
use Rattle.port_config.proofs.actors.turns.in_order.Goals as goal

pub returns : goal.returns
returns c = λ all moved at.
    c.of.ensures ∙ (c.in_ok-entries.ensures ∙ ap (map (λ turn. turn.entry))
    (sorted_is c.sort_by_key.new.self.items all (IsPermutation-trans all c.args.kept.items c.sort_by_key.new.self.items moved c.in-Ok.ensures.permutation)
    (IsNonDecreasingBy-from_sort_by_key (λ turn. turn.place) c.sort_by_key.new.self.items c.in-Ok.ensures.sorted (λ a r q k. search rules)) at))
