use Rattle.std.proofs.Common.{◌≡◌, take, pos, ◌*ℤ◌, ◌≤ℤ◌}
use Rattle.equations.specs.Reserves.{weighed}
use Rattle.equations.proofs.sources.weigh.Given as goal

abbrev pub invariant-loop-source : goal.invariant-loop-source
invariant-loop-source l =
    (l.sum ≡ weighed l.row (take l.source-index l.sources))
    × (pos 0 ≤ℤ l.sum)
    × (l.sum ≤ℤ (pos 500000 *ℤ pos l.source-index))
