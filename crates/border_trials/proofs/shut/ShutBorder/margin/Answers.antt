use Rattle.std.proofs.Common.{sym}
use Rattle.border_trials.specs.Closed.{margin_none}
use Rattle.border_trials.proofs.shut.ShutBorder.margin.Goals as goal

pub returns : goal.returns
returns c = sym (margin_none c.args._direction c.args._period)
