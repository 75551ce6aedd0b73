use Rattle.std.proofs.Common.{ℕ, sym, subst, ◌∙◌, arith}
use Rattle.ivf_recorder.specs.Added.{IsNextTime}
use Rattle.ivf_recorder.specs.Laid.{segments_in}
use Rattle.ivf_recorder.specs.Obus.{obus_in}
use Rattle.ivf_recorder.proofs.Adding.{file_apart}
use Rattle.ivf_recorder.proofs.file.IvfFile.add_apart.Goals as goal

pub returns : goal.returns
returns c = λ size contents is apart.
    file_apart c.args.self.now c.begin.new.self c.args.frame.now.timestamp c.len-start.result c.next_time-time.result (obus_in (segments_in c.args.frame.now)) c.unit_front.result c.lay.new.out.items
    size contents c.if-not-lay.ensures.lays c.unit_front.ensures is apart
    (subst (λ (t : ℕ). IsNextTime contents t c.next_time-time.result) (sym c.requires.timestamp) (c.next_time-time.ensures size contents is))
    (omega arith) c.begin.ensures.updated c.begin.ensures.begun c.begin.ensures.at (c.begin.ensures.timestamp ∙ sym c.requires.timestamp) c.begin.ensures.time c.begin.ensures.count
