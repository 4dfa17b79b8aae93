use Rattle.std.proofs.Common.{◌≡◌, ℤ, set, ap, ◌∙◌, rules}
use Rattle.std.proofs.lemmas.Int.{to_z-of_z}
use Rattle.book.specs.Limits.{PositionAllowed, staged_anew}
use Rattle.book.specs.Views.{record_in, slot}
use Rattle.region.proofs.Records.{record_changed}
use Rattle.region.specs.Seen.{seen, position_call}
use Rattle.region.proofs.region.Region.position.Goals as goal

pub returns : goal.returns
returns g c deals sheets =
    let fz = c.ranges.zone in
    let fp = c.ranges.period in
    let fm = c.ranges.mw in
    let found = simp to_z-of_z at c.in_ok-slot.ensures in
    let judged = simp to_z-of_z at c.in_ok-staged.ensures in
    let v = seen g.B.Bank.borders c.args.self.now deals sheets in
    let s = c.in_ok-slot.slot in
    let anew = λ (x : ℤ). set v.records (slot s.zone s.period) (staged_anew (record_in v.records s.zone s.period) x) in
    let changed : c.change.new.self.records ≡ anew c.in_ok-staged.staged = search rules in
    record_changed v (position_call c.args.zone c.args.period c.args.mw) c.args.zone c.args.period s (PositionAllowed c.args.mw) c.in_ok-allows.field-0 _ (λ r. staged_anew r (c.args.mw))
    found judged.0 c.in_ok-allows.ensures c.change.ensures.many (changed ∙ ap anew judged.1)
