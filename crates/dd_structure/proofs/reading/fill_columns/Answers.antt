use Rattle.std.proofs.Common.{arith}
use Rattle.dd_structure.proofs.Found.{layers_found}
use Rattle.dd_structure.proofs.reading.fill_columns.Goals as goal

pub resolutions-requires : goal.resolutions-requires
resolutions-requires c = (layers_found _ _ c.in_ok-templates.ensures.read).low

pub returns-clause-within : goal.returns-clause-within
returns-clause-within c = record {
  some_target = omega arith;
  targets = omega (arith, c.in_ok-targets.ensures.small);
  chains = omega (arith, c.in_ok-chains.ensures.small);
  templates = c.in_ok-templates.ensures.most;
  layers = c.in_ok-templates.ensures.len;
  indications = c.in_ok-fill_indication_table.ensures.len;
  distances = c.in_ok-fill_distance_table.ensures.len;
  links = c.in_ok-fill_link_table.ensures.len;
}
