use Rattle.std.proofs.Common.{◌≡◌, ◌<◌, ◌^◌, length, take}
use Rattle.dd_bits.proofs.WritingLoops.{puts_then}
use Rattle.dd_structure.specs.Spelling.{chain_bits}
use Rattle.dd_structure.proofs.ColumnLemmas.{links-are}
use Rattle.dd_structure.proofs.TemplateLemmas.{all_links}
use Rattle.dd_structure.proofs.WriteLemmas.{flat_map-map, all_rows}
use Rattle.dd_structure.proofs.writing.put_chains.Goals as goal

pub put_link_table-requires-clause-small : goal.put_link_table-requires-clause-small
put_link_table-requires-clause-small c =
    all_rows (λ l. l < 2 ^ 4) (λ row. length row ≡ c.args.columns.now.chain_count) (take c.args.columns.now.chain_count) _
    (rw (links-are c.args.columns.now c.requires.within) at (all_links c.args.columns.now.target_count c.args.columns.now.chain_count _ c.requires.well_formed.templates))

pub returns : goal.returns
unfolding chain_bits
returns c =
    rw (links-are c.args.columns.now c.requires.within, flat_map-map, ← c.guarded_targets-guards.ensures.value)
    (puts_then _ _ _ _ _ _ c.in_ok-put_ns.ensures.put (puts_then _ _ _ _ _ _ c.in_ok-put_guards.ensures c.put_link_table.ensures))
