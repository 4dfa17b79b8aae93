use Rattle.std.proofs.Common.{sym, subst, ◌∙◌, w32, SFits}
use Rattle.std.proofs.lemmas.Int.{to_z-of_z}
use Rattle.borders.specs.Ramps.{Near30}
use Rattle.kinds.specs.Sheets.{stated_by}
use Rattle.kinds.proofs.Sheets.{slot_of, flow_read, margin_is}
use Rattle.kinds.proofs.sheeted.SheetedBorder.margin.Goals as goal

pub margin-requires : goal.margin-requires
margin-requires g c =
    let s = c.args.self.now in
    let e = flow_read s.flows c.in-Some.k c.args.period s.long s.within (slot_of c.args.period c.in-Some.k c.ranges.period c.in-Some.ensures) in
    subst Near30 (sym e) (s.within.least c.args.period, s.within.most c.args.period)

pub returns-in-Some : goal.returns-in-Some
returns-in-Some g c =
    let s = c.args.self.now in
    let slot = slot_of c.args.period c.in-Some.k c.ranges.period c.in-Some.ensures in
    let e = flow_read s.flows c.in-Some.k c.args.period s.long s.within slot in
    let f : SFits w32 c.margin.result = record { sfits = c.margin.type_inv } in
    let m = margin_is (stated_by g.K.Kind.test g.K.Kind.lowest g.K.Kind.highest) s.flows s.limits c.in-Some.k c.args.period _ c.index-self-k.result c.args.direction s.long s.rows slot e in
    simp to_z-of_z (c.margin.ensures ∙ m)
