use Rattle.zones.specs.Trees.{up}
use Rattle.zones.proofs.Leads.{Summed}
use Rattle.zones.proofs.tree.Tree.net_position.Given as goal

abbrev pub invariant-loop-border : goal.invariant-loop-border
invariant-loop-border l = Summed (up l.self) l.flows l.zone l.border l.sum
