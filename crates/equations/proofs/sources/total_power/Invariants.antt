use Rattle.std.proofs.Common.{◌≡◌, ◌+◌, take, drop, pos, ◌*ℤ◌, ◌≤ℤ◌}
use Rattle.std.specs.List.{prefix_len}
use Rattle.equations.specs.Reserves.{total_power_lem, source_allowed}
use Rattle.equations.proofs.sources.total_power.Given as goal

abbrev pub invariant-loop-i : goal.invariant-loop-i
invariant-loop-i l =
    (l.power ≡ total_power_lem (take l.i l.sources))
    × (prefix_len source_allowed l.sources ≡ l.i + prefix_len source_allowed (drop l.i l.sources))
    × (pos 0 ≤ℤ l.power)
    × (l.power ≤ℤ (pos 5000 *ℤ pos l.i))
