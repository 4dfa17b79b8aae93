use Rattle.std.proofs.Common.{ℕ, ◌<◌, ◌≤◌}
use Rattle.borders.specs.Border.{Admitted}
use Rattle.borders.specs.Bank.{border_at}
use Rattle.region.specs.Staging.{schedule_of}
use Rattle.region.proofs.region.Region.admitted.Given as goal

abbrev pub invariant-loop-border : goal.invariant-loop-border
invariant-loop-border g l = (c : ℕ) → 1 ≤ c → c < l.border → Admitted (border_at (g.B.Bank.borders l.self.bank) c) (schedule_of l.self.kept c)
