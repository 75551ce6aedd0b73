use Rattle.forwarding_model.proofs.WholeCuts.{cut_is_whole, whole_is_cut}
use Rattle.forwarding_laws.proofs.frames.ended_runs_are_the_whole_cuts.Goals as goal

pub returns-clause-whole : goal.returns-clause-whole
returns-clause-whole g c = cut_is_whole

pub returns-clause-found : goal.returns-clause-found
returns-clause-found g c = λ marks part more at cut. let f = whole_is_cut marks part more at cut in (f.run, f.found, f.is)
