use Rattle.std.proofs.lemmas.Int.{to_z-of_z}
use Rattle.borders.specs.Ramps.{reassess_below}
use Rattle.borders.proofs.ramp.RampBorder.reassess.Goals as goal

pub returns : goal.returns
returns g c =
    let f = c.ranges.period in
    reassess_below c.args.self.now.rate (g.B.Border.meaning c.args.self.now.below) c.args.sheet.now c.args.period c.reassess.result (g.B.Border.meaning c.reassess.new.self) (simp to_z-of_z at c.reassess.ensures)
