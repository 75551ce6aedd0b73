use Rattle.std.proofs.Common.{take, sym, ap, ◌∙◌}
use Rattle.forwarding_model.specs.Lists.{first_failing}
use Rattle.forwarding_model.specs.Receiver.{Received, is_received}
use Rattle.strict_receiver.specs.Frames.{header_said}
use Rattle.strict_receiver.proofs.Distances.{near_all}
use Rattle.strict_receiver.proofs.Judging.{judged_complete, judged_lacking}
use Rattle.strict_receiver.proofs.received.ReceivedFrames.judge.Goals as goal

pub returns-then-is_none : goal.returns-then-is_none
returns-then-is_none c received stands =
    let start = c.args.start.now in
    let references = take start.ref_count start.refs in
    judged_complete c.keep_low.new.self (record { newest = c.self.inside.newest; numbers = c.self.inside.window }) received (header_said start)
    c.first_missing-missing.result (c.keep_low.ensures.same received stands) (near_all start.ref_count start.refs start.near)
    (c.self.view_is ∙ c.place.ensures references)
    (c.first_missing-missing.ensures ∙ ap (λ (r : Received). first_failing (is_received r.numbers r.newest) references) (sym c.self.view_is))
    c.insert.new.self c.insert.ensures.inserted

pub returns-else-is_none : goal.returns-else-is_none
returns-else-is_none c received stands =
    let start = c.args.start.now in
    judged_lacking c.keep_low.new.self c.place.new.self received (header_said start) c.first_missing-missing.result
    (c.keep_low.ensures.same received stands) (near_all start.ref_count start.refs start.near)
    (c.place.ensures (take start.ref_count start.refs)) c.first_missing-missing.ensures
    c.is_none.result c.is_none.ensures c.if-is_none.false
