use Rattle.std.proofs.Common.{sym, refl, ap, subst, ◌∙◌}
use Rattle.std.proofs.lemmas.List.{map-set}
use Rattle.borders.specs.Ramps.{Near30}
use Rattle.kinds.specs.Sheets.{stated_by, lowers, uppers}
use Rattle.kinds.specs.SheetedLaws.{kept_of}
use Rattle.kinds.proofs.Sheets.{slot_of, flow_read, passing_in, reassessed}
use Rattle.kinds.proofs.sheeted.SheetedBorder.reassess.Goals as goal

pub returns-then-not-accepts : goal.returns-then-not-accepts
returns-then-not-accepts g c =
    let s = c.args.self.now in
    let slot = slot_of c.args.period c.in-Some.k c.ranges.period c.in-Some.ensures in
    let e = flow_read s.flows c.in-Some.k c.args.period s.long s.within slot in
    (sym (passing_in (stated_by g.K.Kind.test g.K.Kind.lowest g.K.Kind.highest) s.flows (lowers s.limits) (uppers s.limits) c.args.period _ c.args.sheet.now s.long slot.0 e) ∙ sym c.accepts.ensures ∙ c.if-not-accepts.true, refl, refl)

pub limits_by-requires-clause-near : goal.limits_by-requires-clause-near
limits_by-requires-clause-near g c =
    let s = c.args.self.now in
    let e = flow_read s.flows c.in-Some.k c.args.period s.long s.within (slot_of c.args.period c.in-Some.k c.ranges.period c.in-Some.ensures) in
    subst Near30 (sym e) (s.within.least c.args.period, s.within.most c.args.period)

pub returns : goal.returns
returns g c =
    let s = c.args.self.now in
    let slot = slot_of c.args.period c.in-Some.k c.ranges.period c.in-Some.ensures in
    let e = flow_read s.flows c.in-Some.k c.args.period s.long s.within slot in
    let low = c.limits_by.ensures.lower ∙ ap (g.K.Kind.lowest c.args.sheet.now) e in
    let high = c.limits_by.ensures.upper ∙ ap (g.K.Kind.highest c.args.sheet.now) e in
    let r = reassessed g.K.Kind.test g.K.Kind.lowest g.K.Kind.highest s.flows (lowers s.limits) (uppers s.limits) c.in-Some.k c.args.period c.args.sheet.now (kept_of s).rows slot c.limits_by.result.lower c.limits_by.result.upper low high in
    (sym (passing_in (stated_by g.K.Kind.test g.K.Kind.lowest g.K.Kind.highest) s.flows (lowers s.limits) (uppers s.limits) c.args.period _ c.args.sheet.now s.long slot.0 e) ∙ sym c.accepts.ensures ∙ c.if-not-accepts.false, simp map-set r)
