use Rattle.cascade.proofs.EveryFeed.{cascades_feed as proved}
use Rattle.cascade.proofs.laws.cascades_feed.Goals as goal

pub returns : goal.returns
returns c = proved
