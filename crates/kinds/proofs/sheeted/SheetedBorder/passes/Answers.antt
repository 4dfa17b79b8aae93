use Rattle.std.proofs.Common.{◌∙◌}
use Rattle.kinds.specs.Sheets.{stated_by, lowers, uppers}
use Rattle.kinds.proofs.Sheets.{slot_of, flow_read, passing_in}
use Rattle.kinds.proofs.sheeted.SheetedBorder.passes.Goals as goal

pub returns-in-Some : goal.returns-in-Some
returns-in-Some g c =
    let s = c.args.self.now in
    let slot = slot_of c.args.period c.in-Some.k c.ranges.period c.in-Some.ensures in
    let e = flow_read s.flows c.in-Some.k c.args.period s.long s.within slot in
    c.accepts.ensures ∙ passing_in (stated_by g.K.Kind.test g.K.Kind.lowest g.K.Kind.highest) s.flows (lowers s.limits) (uppers s.limits) c.args.period _ c.args.sheet.now s.long slot.0 e
