use Rattle.std.proofs.Common.{[], refl, ◌∙◌, sym}
use Rattle.sfu_driver.proofs.Cutting.{at}
use Rattle.port_config.proofs.reading.read_all.Goals as goal

pub returns-then-is_err-clause-drove : goal.returns-then-is_err-clause-drove
returns-then-is_err-clause-drove g c = λ state stands. record {
  units = c.drive-came_out.new.units;
  came_out = c.drive-came_out.result;
  drove = c.drive-came_out.ensures.drove (at state 1 []) (record { state = rw c.new-units.ensures.judge stands; number = c.new-units.ensures.number; kept = c.new-units.ensures.kept });
  cause = c.drive-came_out.ensures.cause;
  gives = (sym c.is_err.ensures.value ∙ c.if-is_err.true, c.of.ensures);
}

pub returns-clause-drove : goal.returns-clause-drove
returns-clause-drove g c = λ state stands. record {
  units = c.drive-came_out.new.units;
  came_out = c.drive-came_out.result;
  drove = c.drive-came_out.ensures.drove (at state 1 []) (record { state = rw c.new-units.ensures.judge stands; number = c.new-units.ensures.number; kept = c.new-units.ensures.kept });
  cause = c.drive-came_out.ensures.cause;
  gives = (sym c.is_err.ensures.value ∙ c.if-is_err.false, refl);
}
