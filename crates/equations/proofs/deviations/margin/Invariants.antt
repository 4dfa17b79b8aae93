use Rattle.std.proofs.Common.{◌≡◌, ◌+◌, take, drop, pos, ◌*ℤ◌, neg_ℤ, ◌≤ℤ◌}
use Rattle.std.specs.List.{prefix_len}
use Rattle.equations.specs.Margins.{sum_of, squares_of, deviation_allowed}
use Rattle.equations.proofs.deviations.margin.Given as goal

abbrev pub invariant-loop-i : goal.invariant-loop-i
invariant-loop-i l =
    (l.sum ≡ sum_of (take l.i l.deviations))
    × (l.squares ≡ squares_of (take l.i l.deviations))
    × (prefix_len deviation_allowed l.deviations ≡ l.i + prefix_len deviation_allowed (drop l.i l.deviations))
    × (neg_ℤ (pos 2000 *ℤ pos l.i) ≤ℤ l.sum)
    × (l.sum ≤ℤ (pos 2000 *ℤ pos l.i))
    × (pos 0 ≤ℤ l.squares)
    × (l.squares ≤ℤ (pos 4000000 *ℤ pos l.i))
