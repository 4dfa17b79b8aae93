use Rattle.book.specs.Grounds.{staged_in_all_lem}
use Rattle.region.proofs.Staging.{Added}
use Rattle.region.proofs.kept.KeptZones.staged_in_all.Given as goal

abbrev pub invariant-loop-zone : goal.invariant-loop-zone
invariant-loop-zone l = Added l.zone l.sum (staged_in_all_lem l.zone l.self.table.records l.period)
