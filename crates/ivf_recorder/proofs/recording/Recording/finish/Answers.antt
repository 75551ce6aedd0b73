use Rattle.std.proofs.Common.{ℕ, List, sym, subst, ◌∙◌}
use Rattle.ivf_recorder.specs.Frames.{obus_over}
use Rattle.ivf_recorder.specs.ReadFiles.{IsFileWith}
use Rattle.ivf_recorder.proofs.ReadBack.{read_back}
use Rattle.ivf_recorder.proofs.SmallUnits.{units_small}
use Rattle.ivf_recorder.proofs.recording.Recording.finish.Goals as goal

pub returns-clause-reads : goal.returns-clause-reads
returns-clause-reads c = λ history stands.
    subst (λ (file : List ℕ). IsFileWith file (obus_over c.args.self.receiver.id history)) (sym (c.of.ensures ∙ stands.file.bytes)) (read_back c.args.self.receiver.id history (units_small c.args.self.receiver.id history stands.short))
