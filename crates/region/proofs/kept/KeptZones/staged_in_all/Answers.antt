use Rattle.std.proofs.Common.{◌≡◌, ap, ◌∙◌, arith, w16, SFits, rules}
use Rattle.std.proofs.lemmas.Int.{ints, to_z-of_z}
use Rattle.book.specs.declared.ZoneRecord.{ZoneRecord}
use Rattle.region.proofs.Staging.{none_in_all, more_in_all}
use Rattle.region.proofs.kept.KeptZones.staged_in_all.Goals as goal

pub loop-zone-init : goal.loop-zone-init
loop-zone-init c = none_in_all c.args.self.now.table.records _

pub loop-zone-preserved : goal.loop-zone-preserved
loop-zone-preserved c =
    let x = c.at.result.staged in
    let f16 : SFits w16 x = search rules in
    let is : c.from-sum.result ≡ x = c.from-sum.ensures ∙ to_z-of_z w16 x f16 in
    let few = c.count-zone-end.ensures.range.1 in
    let lo = c.loop-zone.invariant.low in
    let hi = c.loop-zone.invariant.high in
    more_in_all c.args.self.now.table.records _ c.loop-zone.zone _ x _ f16 (ap (λ (r : ZoneRecord). r.staged) c.at.ensures) (omega (arith, ints)) c.loop-zone.invariant
