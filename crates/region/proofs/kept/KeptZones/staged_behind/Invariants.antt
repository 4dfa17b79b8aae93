use Rattle.zones.specs.Trees.{up}
use Rattle.book.specs.Grounds.{staged_behind_lem}
use Rattle.region.proofs.Staging.{Added}
use Rattle.region.proofs.kept.KeptZones.staged_behind.Given as goal

abbrev pub invariant-loop-zone : goal.invariant-loop-zone
invariant-loop-zone l = Added l.zone l.sum (staged_behind_lem l.zone (up l.self.tree) l.self.table.records l.border l.period)
