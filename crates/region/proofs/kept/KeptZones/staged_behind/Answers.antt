use Rattle.std.proofs.Common.{◌≡◌, sym, ap, ◌∙◌, arith, w16, SFits, rules}
use Rattle.std.proofs.lemmas.Int.{ints, to_z-of_z}
use Rattle.zones.specs.Trees.{up, lies_behind_lem}
use Rattle.zones.specs.Ways.{behind}
use Rattle.book.specs.declared.ZoneRecord.{ZoneRecord}
use Rattle.region.proofs.Staging.{none_behind, more_behind, none_more, behind_told}
use Rattle.region.proofs.kept.KeptZones.staged_behind.Goals as goal
use Rattle.region.proofs.kept.KeptZones.staged_behind.Goals.{then-lies_behind, else-lies_behind}

pub loop-zone-init : goal.loop-zone-init
loop-zone-init c = none_behind c.args.self.now.table.records _ (up c.args.self.now.tree) c.args.border

pub loop-zone-preserved : goal.loop-zone-preserved
loop-zone-preserved c =
    let t = c.args.self.now.tree in
    let few = c.count-zone-end.ensures.range.1 in
    let told : lies_behind_lem t c.args.border c.loop-zone.zone ≡ behind (up t) c.args.border c.loop-zone.zone =
    behind_told t c.args.border c.loop-zone.zone c.requires.there.0 c.requires.there.1 (let n = c.count-zone-end.ensures.value in omega arith) in
    let lo = c.loop-zone.invariant.low in
    let hi = c.loop-zone.invariant.high in
    elim c.if-lies_behind.branch [
      | then-lies_behind w ↦
          (let x = w.at.result.staged in
          let f16 : SFits w16 x = search rules in
          let is : w.from-sum.result ≡ x = w.from-sum.ensures ∙ to_z-of_z w16 x f16 in
          more_behind c.args.self.now.table.records _ (up t) c.args.border c.loop-zone.zone _ x _ f16 (ap (λ (r : ZoneRecord). r.staged) w.at.ensures) (sym (w.if-lies_behind.ensures ∙ told)) (omega (arith, ints)) c.loop-zone.invariant)
      | else-lies_behind w ↦
          none_more c.args.self.now.table.records _ (up t) c.args.border c.loop-zone.zone _ _ (sym (w.if-lies_behind.ensures ∙ told)) w.sum-is c.loop-zone.invariant
    ]
