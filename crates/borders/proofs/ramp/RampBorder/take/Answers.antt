use Rattle.std.proofs.lemmas.Int.{to_z-of_z}
use Rattle.borders.specs.Border.{Meaning}
use Rattle.borders.specs.Ramps.{take_below}
use Rattle.borders.proofs.ramp.RampBorder.take.Goals as goal

pub returns : goal.returns
returns g c =
    let b : Meaning = g.B.Border.meaning c.args.self.now.below in
    let fp = c.ranges.period in
    let fm = c.ranges.m in
    let can = simp to_z-of_z at c.in_ok-may_take.ensures in
    take_below c.args.self.now.rate b c.args.period c.args.m c.take.result (g.B.Border.meaning c.take.new.self) can (simp to_z-of_z at c.take.ensures)
