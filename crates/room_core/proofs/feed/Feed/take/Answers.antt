use Rattle.std.proofs.Common.{ℕ, ap, sym, true, false, refl, is_ok}
use Rattle.room_core.proofs.HandingOut.{take_follows}
use Rattle.room_core.proofs.feed.Feed.take.Goals as goal

pub returns-in-Ok-clause-follows : goal.returns-in-Ok-clause-follows
returns-in-Ok-clause-follows c =
    take_follows c.args.self.now c.take.new.self _ c.take.result true c.args.out.now c.take.new.out c.take.ensures.takes (sym (ap is_ok c.in-Ok.is))
    (ap (λ (n : ℕ). record c.args.self.now.counts { taken = n }) c.count_one.ensures)

pub returns-in-Err-clause-follows : goal.returns-in-Err-clause-follows
returns-in-Err-clause-follows c =
    take_follows c.args.self.now c.take.new.self c.args.self.now.counts c.take.result false c.args.out.now c.take.new.out c.take.ensures.takes (sym (ap is_ok c.in-Err.is)) refl
