use Rattle.std.proofs.Common.{get_or, pos, sym, subst, w32, SFits, rules}
use Rattle.borders.specs.Border.{Admitted}
use Rattle.border_trials.specs.Shut.{closed}
use Rattle.border_trials.specs.Closed.{only_zero, zero_admitted, admitted_zero, bits_zero, zero_bits}
use Rattle.border_trials.proofs.shut.ShutBorder.admits.Goals as goal

pub returns-then-schedule-eq1 : goal.returns-then-schedule-eq1
returns-then-schedule-eq1 c =
    let s = c.args.schedule.now in
    let f : SFits w32 (get_or s 0 (pos 0)) = search rules in (
      λ e. subst (Admitted closed) (sym (only_zero s c.if-schedule-eq1.true (bits_zero (get_or s 0 (pos 0)) f e))) zero_admitted,
      λ a. zero_bits (get_or s 0 (pos 0)) (admitted_zero s a),
    )
