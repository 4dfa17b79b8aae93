use Rattle.std.proofs.Common.{◌+◌}
use Rattle.zones.specs.Trees.{up}
use Rattle.zones.proofs.Climb.{Climbing}
use Rattle.zones.proofs.tree.Tree.way.Given as goal

abbrev pub invariant-loop-from : goal.invariant-loop-from
invariant-loop-from l = Climbing (up l.self) l.seller l.buyer l.from l.to l.steps l.front l.back

abbrev pub decreases-loop-from : goal.decreases-loop-from
decreases-loop-from l = l.from + l.to
