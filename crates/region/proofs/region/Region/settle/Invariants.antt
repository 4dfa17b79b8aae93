use Rattle.std.proofs.Common.{◌≡◌}
use Rattle.zones.specs.Trees.{zones, up}
use Rattle.region.proofs.Staging.{Settling}
use Rattle.region.proofs.region.Region.settle.Given as goal

abbrev pub invariant-loop-border : goal.invariant-loop-border
invariant-loop-border g l =
    let kept = l.initial.self.kept in
    Settling (zones kept.tree) (up kept.tree) kept.table.records (g.B.Bank.borders l.initial.self.bank) (g.B.Bank.borders l.self.bank) l.border
    × (l.self.kept ≡ kept) × (l.self.state ≡ l.initial.self.state)
