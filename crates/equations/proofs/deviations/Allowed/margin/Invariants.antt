use Rattle.std.proofs.Common.{pos, ◌+ℤ◌, neg_ℤ, nat_abs, ◌≤ℤ◌}
use Rattle.equations.specs.Margins.{Reached}
use Rattle.equations.proofs.deviations.Allowed.margin.Given as goal

abbrev pub invariant-loop-width : goal.invariant-loop-width
invariant-loop-width l =
    Reached l.self.sums.count l.self.sums.sum l.bound l.low
    × (Reached l.self.sums.count l.self.sums.sum l.bound (l.low +ℤ l.width) → ⊥)
    × (pos 1 ≤ℤ l.width)
    × (neg_ℤ (pos 2000) ≤ℤ l.low)
    × ((l.low +ℤ l.width) ≤ℤ pos 6192)

abbrev pub decreases-loop-width : goal.decreases-loop-width
decreases-loop-width l = nat_abs l.width
