use Rattle.std.proofs.Common.{◌≤◌, length}
use Rattle.std.proofs.lemmas.Result.{err_from_is_err_and}
use Rattle.dd_bits.proofs.WritingLoops.{puts_then, puts_early}
use Rattle.dd_structure.specs.Columns.{distances_in}
use Rattle.dd_structure.specs.Spelling.{IsDistance, template_bits}
use Rattle.dd_structure.proofs.ColumnLemmas.{indications-are, distances-are}
use Rattle.dd_structure.proofs.TemplateLemmas.{all_distances}
use Rattle.dd_structure.proofs.WriteLemmas.{flat_map-map, all_rows}
use Rattle.dd_structure.proofs.writing.put_templates.Goals as goal

pub returns-in_err-put_indication_table : goal.returns-in_err-put_indication_table
unfolding template_bits
returns-in_err-put_indication_table c =
    let p = err_from_is_err_and c.from_residual.result c.from_residual.ensures.1 in
    rw (p.1, indications-are c.args.columns.now c.requires.within, flat_map-map) (puts_early c.args.out.now _ _ c.in_err-put_indication_table.ensures)

pub put_distance_table-requires : goal.put_distance_table-requires
put_distance_table-requires c =
    all_rows IsDistance (λ ds. length ds ≤ 16) distances_in _ (rw (distances-are c.args.columns.now c.requires.within) at (all_distances c.args.columns.now.target_count c.args.columns.now.chain_count _ c.requires.well_formed.templates))

pub returns : goal.returns
unfolding template_bits
returns c =
    rw (indications-are c.args.columns.now c.requires.within, distances-are c.args.columns.now c.requires.within, flat_map-map, flat_map-map) (puts_then _ _ _ _ _ _ c.in_ok-put_indication_table.ensures c.put_distance_table.ensures)
