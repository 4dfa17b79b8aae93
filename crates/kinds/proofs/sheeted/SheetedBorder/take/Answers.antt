use Rattle.std.proofs.Common.{ℕ, sym, ap, subst, ◌∙◌, length-set}
use Rattle.std.proofs.lemmas.Int.{to_z-of_z}
use Rattle.std.proofs.lemmas.Option.{MatchOption-at_some}
use Rattle.borders.specs.Day.{Schedule, Period, Within}
use Rattle.borders.specs.Border.{CanTake}
use Rattle.borders.specs.Eased.{can_period}
use Rattle.kinds.specs.Sheets.{lowers, uppers, stated_by, sheeted}
use Rattle.kinds.specs.SheetedLaws.{kept_of}
use Rattle.kinds.proofs.Sheets.{Written, slot_of, slot_there, refused_by, take_written}
use Rattle.kinds.proofs.sheeted.SheetedBorder.take.Given as given
use Rattle.kinds.proofs.sheeted.SheetedBorder.take.Goals as goal

pub returns-in_err-may_take : goal.returns-in_err-may_take
returns-in_err-may_take g c =
    let fp = c.ranges.period in
    let fm = c.ranges.m in
    let s = c.args.self.now in
    refused_by (sheeted (stated_by g.K.Kind.test g.K.Kind.lowest g.K.Kind.highest) s.flows (lowers s.limits) (uppers s.limits)) c.args.period c.args.m c.in_err-may_take.field-0.0 c.from_residual.result c.from_residual.ensures.1 (simp to_z-of_z at c.in_err-may_take.ensures)

-- what is known once the move can be taken
written : (g : given.Over) (c : goal.After-self-1 g) → Written c.args.self.now.flows (lowers c.args.self.now.limits) (uppers c.args.self.now.limits) c.unwrap-k.result c.args.period c.args.m
written g c =
    let fp = c.ranges.period in
    let fm = c.ranges.m in
    let s = c.args.self.now in
    let slot = slot_of c.args.period c.unwrap-k.result c.ranges.period (MatchOption-at_some _ _ c.unwrap-k.result c.unwrap-k.ensures c.slot.ensures) in
    take_written (stated_by g.K.Kind.test g.K.Kind.lowest g.K.Kind.highest) s.flows (lowers s.limits) (uppers s.limits) c.args.period c.args.m (kept_of s) (simp to_z-of_z at c.in_ok-may_take.ensures) c.unwrap-k.result fm slot

pub overflow_add-self : goal.overflow_add-self
overflow_add-self g c = (written g c).sum

pub invariant_of-self : goal.invariant_of-self
invariant_of-self g c =
    let s = c.args.self.now in
    let w = written g c in
    record { long = length-set s.flows c.unwrap-k.result _ ∙ s.long; rows = s.rows; within = subst Within (sym w.same) w.within }

pub returns : goal.returns
returns g c =
    let fp = c.ranges.period in
    let fm = c.ranges.m in
    let s = c.args.self.now in
    let slot = slot_of c.args.period c.unwrap-k.result c.ranges.period (MatchOption-at_some _ _ c.unwrap-k.result c.unwrap-k.ensures c.slot.ensures) in
    let can : CanTake (sheeted (stated_by g.K.Kind.test g.K.Kind.lowest g.K.Kind.highest) s.flows (lowers s.limits) (uppers s.limits)) c.args.period c.args.m = simp to_z-of_z at c.in_ok-may_take.ensures in
    let w = take_written (stated_by g.K.Kind.test g.K.Kind.lowest g.K.Kind.highest) s.flows (lowers s.limits) (uppers s.limits) c.args.period c.args.m (kept_of s) can c.unwrap-k.result fm slot in
    (can, ap (λ (x : Schedule). sheeted (stated_by g.K.Kind.test g.K.Kind.lowest g.K.Kind.highest) x (lowers s.limits) (uppers s.limits)) w.same)

pub unwrap-k-requires : goal.unwrap-k-requires
unwrap-k-requires g c =
    let fp = c.ranges.period in
    let fm = c.ranges.m in
    let s = c.args.self.now in
    let b = sheeted (stated_by g.K.Kind.test g.K.Kind.lowest g.K.Kind.highest) s.flows (lowers s.limits) (uppers s.limits) in
    let can : CanTake b c.args.period c.args.m = simp to_z-of_z at c.in_ok-may_take.ensures in
    slot_there c.args.period c.slot.result fp (subst (λ (n : ℕ). Period n c.args.period) s.long (can_period b c.args.period c.args.m can)) c.slot.ensures
