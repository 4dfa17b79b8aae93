use Rattle.std.proofs.Common.{◌≡◌, ℕ, ◌≤◌, pos, ◌≤ℤ◌, ◌<ℤ◌}
use Rattle.region.specs.Staging.{sum_in_all}
use Rattle.region.proofs.kept.KeptZones.even.Given as goal

abbrev pub invariant-loop-period : goal.invariant-loop-period
invariant-loop-period l = (pos 1 ≤ℤ l.period) × ((q : ℕ) → 1 ≤ q → pos q <ℤ l.period → sum_in_all l.self (pos q) ≡ pos 0)
