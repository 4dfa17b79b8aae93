use Rattle.std.proofs.Common.{◌≡◌}
use Rattle.zones.specs.Ways.{behind}
use Rattle.zones.specs.Trees.{up}
use Rattle.zones.proofs.tree.Tree.lies_behind.Given as goal

abbrev pub invariant-loop-at : goal.invariant-loop-at
invariant-loop-at l = behind (up l.self) l.border l.at ≡ behind (up l.self) l.border l.zone

abbrev pub decreases-loop-at : goal.decreases-loop-at
decreases-loop-at l = l.at
