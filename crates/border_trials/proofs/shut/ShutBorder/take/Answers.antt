use Rattle.border_trials.specs.Closed.{takes_none, met_none}
use Rattle.std.proofs.Common.{refl}
use Rattle.border_trials.proofs.shut.ShutBorder.take.Goals as goal

pub returns : goal.returns
returns c = (takes_none c.args._period c.args._m, met_none c.args._period c.args._m, refl)
