-- The margins of a ramp: what the neighbours leave of the margin below.
use Rattle.std.proofs.Common.{◌≡◌, ℕ, Bool, cond, length, ℤ, pos, ◌+ℤ◌, ◌-ℤ◌, neg_ℤ, refl, sym, ap, ◌∙◌, arith, w32, w64, SFits, to_z, of_z}
use Rattle.std.specs.Int.{int_max, int_min}
use Rattle.std.proofs.lemmas.Int.{ints, clamps, to_z-of_z}
use Rattle.equations.specs.Ranges.{between, Near}
use Rattle.equations.specs.declared.capacity.Direction.{Direction}
use Rattle.equations.specs.declared.capacity.Direction.TheVariants.{Forward, Backward}
use Rattle.borders.specs.Day.{Schedule, in_day, figure_in, Within}
use Rattle.borders.specs.Limits.{Rate, step_within, ahead_by, left_by, capped_by, lifted_by}
use Rattle.borders.specs.Border.{Meaning, margin_in, days_length, flow_of, top, bottom, ramped}
use Rattle.borders.specs.Days.{by_day}

-- a machine number, read back
abbrev pub told : ℤ → ℤ
told x = to_z w32 (of_z w32 x)

abbrev wide : ℤ → ℤ
wide x = to_z w64 (of_z w64 x)

-- two flows x and y of periods q and p, and how far the first lies ahead
pub gap : (s : Schedule) → Within s → (q p x y : ℤ) → x ≡ figure_in s q → y ≡ figure_in s p → (told (told x -ℤ told y) ≡ figure_in s q -ℤ figure_in s p) × Near 60000 (told (told x -ℤ told y))
gap s w q p x y e f =
    let lx = w.least q in
    let mx = w.most q in
    let ly = w.least p in
    let my = w.most p in
    (omega (arith, ints), (omega (arith, ints), omega (arith, ints)))

pub turned : (z x y : ℤ) → z ≡ x -ℤ y → z ≡ neg_ℤ (y -ℤ x)
turned z x y e = omega (arith, ints)

-- the test of a period, read back
pub day_test : (n : ℕ) (q k : ℤ) (r t : Bool) → SFits w32 q → SFits w32 k → k ≡ pos n → r ≡ between (pos 1) (told q) (told k) → r ≡ t → in_day n q ≡ t
day_test n q k r t fq fk e f h = ap (λ (j : ℤ). between (pos 1) q j) (sym e) ∙ sym (simp to_z-of_z at f) ∙ h

-- what a neighbour leaves, in the day and outside it
pub left_in : (R : ℤ) (to : Direction) (s : Schedule) (p q margin : ℤ) (t : Bool) → in_day (length s) q ≡ t → left_by R to s p q margin ≡ cond t (int_min margin (R +ℤ ahead_by to s p q)) margin
unfolding left_by
left_in R to s p q margin t e = ap (λ (x : Bool). cond x (int_min margin (R +ℤ ahead_by to s p q)) margin) e

-- one neighbour caps the upper limit and lifts the lower one just as it leaves of the margin
pub capped_left : (R : ℤ) (s : Schedule) (p q limit : ℤ) → capped_by R s q limit -ℤ figure_in s p ≡ left_by R Forward s p q (limit -ℤ figure_in s p)
unfolding capped_by left_by
capped_left R s p q limit =
    by_day (length s) q (λ t. cond t (int_min limit (figure_in s q +ℤ R)) limit -ℤ figure_in s p ≡ cond t (int_min (limit -ℤ figure_in s p) (R +ℤ (figure_in s q -ℤ figure_in s p))) (limit -ℤ figure_in s p))
    (λ _. omega (arith, ints, clamps)) (λ _. refl)

pub lifted_left : (R : ℤ) (s : Schedule) (p q limit : ℤ) → figure_in s p -ℤ lifted_by R s q limit ≡ left_by R Backward s p q (figure_in s p -ℤ limit)
unfolding lifted_by left_by
lifted_left R s p q limit =
    by_day (length s) q (λ t. figure_in s p -ℤ cond t (int_max limit (figure_in s q -ℤ R)) limit ≡ cond t (int_min (figure_in s p -ℤ limit) (R +ℤ neg_ℤ (figure_in s q -ℤ figure_in s p))) (figure_in s p -ℤ limit))
    (λ _. omega (arith, ints, clamps)) (λ _. refl)

-- what both neighbours leave of a margin
abbrev pub left_both : ℤ → Direction → Schedule → ℤ → ℤ → ℤ
left_both R to s p margin = left_by R to s p (p +ℤ pos 1) (left_by R to s p (p -ℤ pos 1) margin)

-- the margin of a ramp is what both leave of the margin below
pub ramp_margin : (R : ℤ) (b : Meaning) (to : Direction) (p : ℤ) → margin_in (ramped R b) to p ≡ cond (in_day (days_length b) p) (left_both R to b.schedule p (margin_in b to p)) (pos 0)
ramp_margin R b Forward p =
    by_day (days_length b) p (λ t. cond t (top (ramped R b) p -ℤ flow_of b p) (pos 0) ≡ cond t (left_both R Forward b.schedule p (cond t (top b p -ℤ flow_of b p) (pos 0))) (pos 0))
    (λ _. capped_left R b.schedule p (p +ℤ pos 1) _ ∙ ap (left_by R Forward b.schedule p (p +ℤ pos 1)) (capped_left R b.schedule p (p -ℤ pos 1) (top b p))) (λ _. refl)
ramp_margin R b Backward p =
    by_day (days_length b) p (λ t. cond t (flow_of b p -ℤ bottom (ramped R b) p) (pos 0) ≡ cond t (left_both R Backward b.schedule p (cond t (flow_of b p -ℤ bottom b p) (pos 0))) (pos 0))
    (λ _. lifted_left R b.schedule p (p +ℤ pos 1) _ ∙ ap (left_by R Backward b.schedule p (p +ℤ pos 1)) (lifted_left R b.schedule p (p -ℤ pos 1) (bottom b p))) (λ _. refl)

pub raised_fits : (R x : ℤ) → Rate R → Near 60000 x → SFits w32 R × SFits w32 (R +ℤ x)
raised_fits R x r n = (omega (arith, ints), omega (arith, ints))

-- the test of a step from x to y, read back
pub step_test : (R x y r a b : ℤ) → Rate R → SFits w32 x → SFits w32 y → r ≡ told R → a ≡ told y → b ≡ told x → between (wide (pos 0 -ℤ wide r)) (wide (wide a -ℤ wide b)) (wide r) ≡ step_within R x y
step_test R x y r a b rate fx fy er ea eb =
    let low : wide (pos 0 -ℤ wide r) ≡ neg_ℤ R = omega (arith, ints) in
    let step : wide (wide a -ℤ wide b) ≡ y -ℤ x = omega (arith, ints) in
    let high : wide r ≡ R = omega (arith, ints) in
    rw (low, step, high) refl
