use Rattle.std.proofs.Common.{sym, refl, ap}
use Rattle.borders.specs.Day.{Schedule}
use Rattle.borders.specs.Border.{with_schedule}
use Rattle.border_trials.specs.Shut.{closed}
use Rattle.border_trials.specs.Closed.{only_zero, admitted_zero}
use Rattle.border_trials.proofs.shut.ShutBorder.adopt.Goals as goal

pub returns-then-admits : goal.returns-then-admits
returns-then-admits c =
    let s = c.args.schedule.now in
    let a = c.if-admits.ensures.0 refl in
    (a, ap (λ (x : Schedule). with_schedule closed x) (sym (only_zero s a.as_long (admitted_zero s a))))
