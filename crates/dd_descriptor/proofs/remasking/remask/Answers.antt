use Rattle.std.specs.Option.{option_copied}
use Rattle.dd_descriptor.proofs.Remasked.{all_made, fails_where_long, made_reads}
use Rattle.dd_descriptor.proofs.remasking.remask.Goals as goal

pub returns-clause-remasked : goal.returns-clause-remasked
returns-clause-remasked c content d =
    all_made c.args.bytes.now c.remask_lowest.new.out (option_copied c.args.force) c.args.mask content c.remask_lowest.result c.remask_lowest.ensures.ok d

pub returns-clause-full : goal.returns-clause-full
returns-clause-full c content d =
    fails_where_long c.args.bytes.now c.remask_lowest.new.out (option_copied c.args.force) c.args.mask content c.remask_lowest.result c.remask_lowest.ensures.ok c.remask_lowest.ensures.err d

pub returns-clause-reads : goal.returns-clause-reads
returns-clause-reads c content reads =
    made_reads c.args.bytes.now c.remask_lowest.new.out (option_copied c.args.force) c.args.mask content c.remask_lowest.result c.lemma_force_is_well_formed.ensures c.requires c.remask_lowest.ensures.ok reads
