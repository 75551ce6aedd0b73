use Rattle.std.proofs.Common.{ℕ, refl, subst}
use Rattle.sfu_driver.specs.Drive.{CauseOf}
use Rattle.sfu_driver.proofs.driver.drive.Goals as goal

pub returns-clause-drove : goal.returns-clause-drove
returns-clause-drove g c point stand =
    let drove = c.drive_behind.ensures.drove (g.S.Source.left c.args.source.now) point c.in-Ok.ensures.bytes.0 stand in drove.drove

pub returns-clause-starves : goal.returns-clause-starves
returns-clause-starves g c point stand = c.drive_behind.ensures.starves (g.S.Source.left c.args.source.now) point c.in-Ok.ensures.bytes.0 stand

pub returns-in_default-clause-cause : goal.returns-in_default-clause-cause
returns-in_default-clause-cause g c = record { reading = c.in_default.ensures.cause.counts; writing = refl }

pub returns-clause-cause : goal.returns-clause-cause
returns-clause-cause g c = subst (λ (r : ℕ). CauseOf r (g.S.Source.faults c.drive_behind.new.source) (g.K.Sink.faults c.args.sink.now) (g.K.Sink.faults c.drive_behind.new.sink) c.drive_behind.result)
    c.in-Ok.ensures.cause.counts c.drive_behind.ensures.cause
