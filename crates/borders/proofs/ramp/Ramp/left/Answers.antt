use Rattle.std.proofs.Common.{◌≡◌, ℤ, ◌+ℤ◌, sym, ap, ◌∙◌, w32, SFits}
use Rattle.std.specs.Int.{int_min}
use Rattle.std.proofs.lemmas.Int.{to_z-of_z}
use Rattle.borders.specs.Border.{Meaning}
use Rattle.borders.specs.Limits.{ahead_by}
use Rattle.borders.proofs.Ramping.{day_test, left_in, raised_fits}
use Rattle.borders.proofs.ramp.Ramp.left.Goals as goal

pub returns-then-not-in_day : goal.returns-then-not-in_day
returns-then-not-in_day g c =
    let fm = c.ranges.margin in
    let b : Meaning = g.B.Border.meaning c.args.self.now.below in
    let out = day_test _ _ _ _ _ c.ranges.q (record { sfits = c.periods.type_inv }) c.periods.ensures c.in_day.ensures c.if-not-in_day.true in
    simp to_z-of_z (sym (left_in c.args.self.now.rate c.args.direction b.schedule c.args.period c.args.q c.args.margin _ out))

pub returns : goal.returns
returns g c =
    let fp = c.ranges.period in
    let fq = c.ranges.q in
    let fm = c.ranges.margin in
    let b : Meaning = g.B.Border.meaning c.args.self.now.below in
    let R : ℤ = c.args.self.now.rate in
    let day = day_test _ _ _ _ _ c.ranges.q (record { sfits = c.periods.type_inv }) c.periods.ensures c.in_day.ensures c.if-not-in_day.false in
    let a : c.ahead.result ≡ ahead_by c.args.direction b.schedule c.args.period c.args.q = simp to_z-of_z at c.ahead.ensures.value in
    let v = raised_fits R c.ahead.result c.args.self.now.allowed c.ahead.ensures.near in
    let fr = v.0 in
    let fs = v.1 in
    let fa : SFits w32 c.ahead.result = record { sfits = c.ahead.type_inv } in
    let fn : SFits w32 c.min.result = record { sfits = c.min.type_inv } in
    let m : c.min.result ≡ int_min c.args.margin (R +ℤ c.ahead.result) = simp to_z-of_z at c.min.ensures.value in
    simp to_z-of_z (m ∙ ap (λ (x : ℤ). int_min c.args.margin (R +ℤ x)) a ∙ sym (left_in R c.args.direction b.schedule c.args.period c.args.q c.args.margin _ day))
