use Rattle.std.proofs.Common.{[]}
use Rattle.sfu_program.proofs.bundling.server.BundleServer.new.Goals as goal

pub returns : goal.returns
returns c = c.new-3.ensures.stands [] c.new-2.ensures.stands
