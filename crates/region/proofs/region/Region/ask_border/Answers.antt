use Rattle.std.proofs.Common.{refl}
use Rattle.std.proofs.lemmas.Int.{to_z-of_z}
use Rattle.region.specs.Seen.{seen, ask_border_lem}
use Rattle.region.proofs.Refusals.{border_refused}
use Rattle.region.proofs.region.Region.ask_border.Goals as goal

pub returns-in_err-at : goal.returns-in_err-at
returns-in_err-at g c deals sheets =
    let fc = c.ranges.border in
    let fp = c.ranges.period in
    let v = seen g.B.Bank.borders c.args.self.now deals sheets in
    border_refused v (ask_border_lem c.args.border c.args.period) c.args.border c.args.period _ refl _ _ c.from_residual.ensures.1 (simp to_z-of_z at c.in_err-at.ensures)
