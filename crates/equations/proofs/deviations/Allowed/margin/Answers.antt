use Rattle.std.proofs.Common.{ℤ, pos, ◌≤ℤ◌, ◌∙◌, subst, arith, w32, w64, to_z}
use Rattle.std.proofs.lemmas.Int.{ints, to_z-of_z}
use Rattle.equations.specs.Margins.{Greatest}
use Rattle.equations.proofs.Halving.{halves, next_one}
use Rattle.equations.proofs.Reaching.{low_reached, last_reached, top_missed}
use Rattle.equations.proofs.deviations.Allowed.margin.Goals as goal

not_negative : (n : ℤ) → pos 2 ≤ℤ n → pos 0 ≤ℤ n
not_negative n h = omega (arith, ints)

pub loop-width-init : goal.loop-width-init
loop-width-init c =
    let s = c.args.self.now.kept.in_range in
    let e = to_z-of_z w64 _ (record { sfits = c.square_bound-bound.type_inv }) ∙ c.square_bound-bound.ensures in
    (low_reached _ _ _ s.sum_least (not_negative _ s.few), rw e (top_missed _ _ _ c.args.self.now.kept), record { le = tt }, record { le = tt }, record { le = tt })

pub reaches-requires : goal.reaches-requires
reaches-requires c =
    let k = halves _ _ c.loop-width-test.true c.loop-width.invariant.3 c.loop-width.invariant.4 in
    simp (to_z-of_z, k.half, k.middle) k.near

pub overflow_add-low-then-reaches : goal.overflow_add-low-then-reaches
overflow_add-low-then-reaches c =
    let k = halves _ _ c.loop-width-test.true c.loop-width.invariant.3 c.loop-width.invariant.4 in
    simp (to_z-of_z, k.half) k.middle

pub overflow_sub-width : goal.overflow_sub-width
overflow_sub-width c =
    let k = halves _ _ c.loop-width-test.true c.loop-width.invariant.3 c.loop-width.invariant.4 in
    simp (to_z-of_z, k.half) k.rest

pub loop-width-smaller-then-reaches : goal.loop-width-smaller-then-reaches
loop-width-smaller-then-reaches c =
    let k = halves _ _ c.loop-width-test.true c.loop-width.invariant.3 c.loop-width.invariant.4 in
    simp (to_z-of_z, k.half, k.rest) k.rest_falls

pub loop-width-smaller : goal.loop-width-smaller
loop-width-smaller c =
    let k = halves _ _ c.loop-width-test.true c.loop-width.invariant.3 c.loop-width.invariant.4 in
    simp (to_z-of_z, k.half) k.half_falls

pub loop-width-preserved-then-reaches : goal.loop-width-preserved-then-reaches
loop-width-preserved-then-reaches c =
    let i = c.loop-width.invariant in
    let k = halves _ _ c.loop-width-test.true i.3 i.4 in
    let here = simp (to_z-of_z, k.half, k.middle) at c.if-reaches.ensures in
    simp (to_z-of_z, k.half, k.middle, k.rest, k.joined) (here, i.1, k.some_rest, k.least, i.4)

pub loop-width-preserved : goal.loop-width-preserved
loop-width-preserved c =
    let i = c.loop-width.invariant in
    let k = halves _ _ c.loop-width-test.true i.3 i.4 in
    let beyond = simp (to_z-of_z, k.half, k.middle) at c.if-reaches.ensures in
    simp (to_z-of_z, k.half) (i.0, beyond, k.some, i.3, k.most)

pub returns : goal.returns
returns c =
    let s = c.args.self.now.kept.in_range in
    let n : ℤ = c.args.self.now.sums.count in
    let S : ℤ = c.args.self.now.sums.sum in
    let low : ℤ = to_z w32 c.loop-width.low-bits in
    let i = c.loop-width.invariant in
    let e = to_z-of_z w64 _ (record { sfits = c.square_bound-bound.type_inv }) ∙ c.square_bound-bound.ensures in
    let next = next_one low (to_z w32 c.loop-width.width-bits) c.loop-width-test.false i.2 in
    subst (λ (B : ℤ). Greatest n S B low) e (last_reached n S _ low (not_negative n s.few) i.0 (λ r. i.1 (rw next r)))
