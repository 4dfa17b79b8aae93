use Rattle.std.proofs.Common.{sym}
use Rattle.border_trials.specs.Closed.{still}
use Rattle.border_trials.proofs.shut.ShutBorder.flow.Goals as goal

pub returns : goal.returns
returns c = sym (still c.args._period)
