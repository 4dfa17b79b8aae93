use Rattle.std.proofs.Common.{sym}
use Rattle.std.proofs.lemmas.Int.{to_z-of_z}
use Rattle.kinds.proofs.Sheets.{slot_of, flow_read, out_zero}
use Rattle.kinds.proofs.sheeted.SheetedBorder.flow.Goals as goal

pub returns-in-Some : goal.returns-in-Some
returns-in-Some g c =
    let s = c.args.self.now in
    flow_read s.flows c.in-Some.k c.args.period s.long s.within (slot_of c.args.period c.in-Some.k c.ranges.period c.in-Some.ensures)

pub returns-in-None : goal.returns-in-None
returns-in-None g c =
    let f = c.ranges.period in
    sym (out_zero c.args.self.now.flows c.args.period c.args.self.now.long (simp to_z-of_z at c.in-None.ensures))
