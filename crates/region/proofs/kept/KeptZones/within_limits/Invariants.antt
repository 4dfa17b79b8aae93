use Rattle.std.proofs.Common.{ℕ, ◌<◌, ◌≤◌, pos, ◌≤ℤ◌, ◌<ℤ◌, unsigned_abs}
use Rattle.zones.specs.Trees.{zones}
use Rattle.book.specs.Grounds.{Outside}
use Rattle.region.proofs.kept.KeptZones.within_limits.Given as goal

abbrev pub invariant-loop-period : goal.invariant-loop-period
invariant-loop-period l = (pos 1 ≤ℤ l.period) × ((q : ℕ) → 1 ≤ q → pos q <ℤ l.period → (y : ℕ) → y < zones l.self.tree → Outside l.self.table.records q y → ⊥)

abbrev pub invariant-loop-zone : goal.invariant-loop-zone
invariant-loop-zone l =
    (pos 1 ≤ℤ l.period)
    × ((q : ℕ) → 1 ≤ q → pos q <ℤ l.period → (y : ℕ) → y < zones l.self.tree → Outside l.self.table.records q y → ⊥)
    × ((y : ℕ) → y < l.zone → Outside l.self.table.records (unsigned_abs l.period) y → ⊥)
