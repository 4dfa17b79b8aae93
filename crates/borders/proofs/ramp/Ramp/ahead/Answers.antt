use Rattle.std.proofs.lemmas.Int.{to_z-of_z}
use Rattle.borders.specs.Day.{figure_in}
use Rattle.borders.proofs.Ramping.{gap, turned}
use Rattle.borders.proofs.ramp.Ramp.ahead.Goals as goal

pub returns-in-Forward : goal.returns-in-Forward
returns-in-Forward g c =
    let fp = c.ranges.period in
    let fq = c.ranges.q in
    let b = g.B.Border.meaning c.args.self.now.below in
    let w = (g.met.B.Border.known c.args.self.now.below).flows_within in
    let h = gap b.schedule w c.args.q c.args.period _ _ (simp to_z-of_z at c.flow.ensures) (simp to_z-of_z at c.flow-in-Forward.ensures) in
    record { value = rw c.in-Forward.is h.0; near = h.1 }

pub returns-in-Backward : goal.returns-in-Backward
returns-in-Backward g c =
    let fp = c.ranges.period in
    let fq = c.ranges.q in
    let b = g.B.Border.meaning c.args.self.now.below in
    let w = (g.met.B.Border.known c.args.self.now.below).flows_within in
    let h = gap b.schedule w c.args.period c.args.q _ _ (simp to_z-of_z at c.flow-in-Backward.ensures) (simp to_z-of_z at c.flow-in-Backward-2.ensures) in
    record { value = rw c.in-Backward.is (turned _ (figure_in b.schedule c.args.period) (figure_in b.schedule c.args.q) h.0); near = h.1 }
