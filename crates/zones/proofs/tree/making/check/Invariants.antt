use Rattle.std.proofs.Common.{◌+◌}
use Rattle.zones.specs.Trees.{AllowedBelow}
use Rattle.zones.proofs.tree.making.check.Given as goal

abbrev pub invariant-loop-i : goal.invariant-loop-i
invariant-loop-i l = AllowedBelow l.parents (l.i + 1)
