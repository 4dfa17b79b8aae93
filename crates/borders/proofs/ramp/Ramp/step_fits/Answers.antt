use Rattle.std.proofs.Common.{◌∙◌}
use Rattle.borders.proofs.Ramping.{step_test}
use Rattle.borders.proofs.ramp.Ramp.step_fits.Goals as goal

pub returns : goal.returns
returns g c = c.lies.ensures ∙ step_test c.args.self.now.rate c.args.before c.args.after _ _ _ c.args.self.now.allowed c.ranges.before c.ranges.after c.from-rate.ensures c.from.ensures c.from-2.ensures
