use Rattle.std.proofs.Common.{◌≡◌, Bool, cond, ℤ, pos, ◌+ℤ◌, ◌-ℤ◌, sym, ap, ◌∙◌, w32, SFits}
use Rattle.std.proofs.lemmas.Int.{to_z-of_z}
use Rattle.borders.specs.Limits.{left_by}
use Rattle.borders.specs.Border.{Meaning, margin_in, days_length}
use Rattle.borders.specs.Days.{day_period}
use Rattle.borders.specs.Ramps.{neighbours}
use Rattle.borders.proofs.Ramping.{day_test, left_both, ramp_margin}
use Rattle.borders.proofs.ramp.RampBorder.margin.Goals as goal

pub returns-then-not-in_day : goal.returns-then-not-in_day
returns-then-not-in_day g c =
    let b : Meaning = g.B.Border.meaning c.args.self.now.below in
    let out = day_test (days_length b) _ _ _ _ c.ranges.period (record { sfits = c.periods.type_inv }) c.periods.ensures c.in_day.ensures c.if-not-in_day.true in
    sym (ramp_margin c.args.self.now.rate b c.args.direction c.args.period ∙ ap (λ (t : Bool). cond t (left_both c.args.self.now.rate c.args.direction b.schedule c.args.period (margin_in b c.args.direction c.args.period)) (pos 0)) out)

pub returns : goal.returns
returns g c =
    let fp = c.ranges.period in
    let b : Meaning = g.B.Border.meaning c.args.self.now.below in
    let R : ℤ = c.args.self.now.rate in
    let p : ℤ = c.args.period in
    let day = day_test (days_length b) _ _ _ _ c.ranges.period (record { sfits = c.periods.type_inv }) c.periods.ensures c.in_day.ensures c.if-not-in_day.false in
    let next = neighbours (days_length b) p (g.met.B.Border.known c.args.self.now.below).day_short (day_period (days_length b) p day) in
    let f0 = next.0 in
    let f1 = next.1 in
    let fm : SFits w32 c.margin-margin.result = record { sfits = c.margin-margin.type_inv } in
    let fa : SFits w32 c.left-margin.result = record { sfits = c.left-margin.type_inv } in
    let fb : SFits w32 c.left.result = record { sfits = c.left.type_inv } in
    let below : c.margin-margin.result ≡ margin_in b c.args.direction p = simp to_z-of_z at c.margin-margin.ensures in
    let before : c.left-margin.result ≡ left_by R c.args.direction b.schedule p (p -ℤ pos 1) c.margin-margin.result = simp to_z-of_z at c.left-margin.ensures in
    let after : c.left.result ≡ left_by R c.args.direction b.schedule p (p +ℤ pos 1) c.left-margin.result = simp to_z-of_z at c.left.ensures in
    let both : c.left.result ≡ left_both R c.args.direction b.schedule p (margin_in b c.args.direction p) = after ∙ ap (left_by R c.args.direction b.schedule p (p +ℤ pos 1)) (before ∙ ap (left_by R c.args.direction b.schedule p (p -ℤ pos 1)) below) in
    simp to_z-of_z (both ∙ sym (ramp_margin R b c.args.direction p ∙ ap (λ (t : Bool). cond t (left_both R c.args.direction b.schedule p (margin_in b c.args.direction p)) (pos 0)) day))
