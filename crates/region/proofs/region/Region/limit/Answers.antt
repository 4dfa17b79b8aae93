use Rattle.std.proofs.Common.{◌≡◌, set, refl, ap, ◌∙◌, rules}
use Rattle.std.proofs.lemmas.Int.{to_z-of_z}
use Rattle.book.specs.declared.ZoneLimit.{ZoneLimit}
use Rattle.book.specs.Limits.{LimitAllowed, limited_anew}
use Rattle.book.specs.Views.{record_in, slot}
use Rattle.region.proofs.Refusals.{zone_refused}
use Rattle.region.proofs.Records.{record_changed}
use Rattle.region.specs.Seen.{seen, limit_call, limit_with}
use Rattle.region.proofs.region.Region.limit.Goals as goal

pub returns-in_err-slot : goal.returns-in_err-slot
returns-in_err-slot g c deals sheets =
    let fz = c.ranges.zone in
    let fp = c.ranges.period in
    let v = seen g.B.Bank.borders c.args.self.now deals sheets in
    zone_refused v (limit_call c.args.zone c.args.period c.args.import c.args.export) c.args.zone c.args.period _ refl _ _ c.from_residual.ensures.1 (simp to_z-of_z at c.in_err-slot.ensures)

pub returns : goal.returns
returns g c deals sheets =
    let fz = c.ranges.zone in
    let fp = c.ranges.period in
    let fi = c.ranges.import in
    let fe = c.ranges.export in
    let found = simp to_z-of_z at c.in_ok-slot.ensures in
    let judged = simp to_z-of_z at c.in_ok-limit.ensures in
    let v = seen g.B.Bank.borders c.args.self.now deals sheets in
    let s = c.in_ok-slot.slot in
    let anew = λ (x : ZoneLimit). set v.records (slot s.zone s.period) (limited_anew (record_in v.records s.zone s.period) x) in
    let changed : c.change.new.self.records ≡ anew c.in_ok-limit.limit = search rules in
    record_changed v (limit_call c.args.zone c.args.period c.args.import c.args.export) c.args.zone c.args.period s (LimitAllowed c.args.import × LimitAllowed c.args.export) c.in_ok-allows.field-0 _ (λ r. limited_anew r (limit_with c.args.import c.args.export))
    found judged.0 c.in_ok-allows.ensures c.change.ensures.many (changed ∙ ap anew judged.1)
