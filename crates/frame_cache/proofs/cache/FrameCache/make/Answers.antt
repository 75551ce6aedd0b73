use Rattle.std.proofs.Common.{◌∙◌}
use Rattle.std.specs.Option.{option_copied}
use Rattle.frame_cache.proofs.Filled.{filled_new, filled_same}
use Rattle.frame_cache.proofs.cache.FrameCache.make.Goals as goal

pub returns-in-Ok-clause-packet : goal.returns-in-Ok-clause-packet
returns-in-Ok-clause-packet c = filled_new c.args.id c.args.mask (option_copied c.args.force) c.args.packet.now c.remask.new.out c.in-Ok.ensures.ok

pub returns-in-Err-clause-packet : goal.returns-in-Err-clause-packet
returns-in-Err-clause-packet c = c.fill.ensures ∙ filled_same c.args.id c.args.mask (option_copied c.args.force) c.args.packet.now c.in-Err.ensures.err
