use Rattle.std.proofs.Common.{◌≡◌, ◌*◌, false, ℤ, pos, ◌*ℤ◌, ◌≤ℤ◌, MatchBool, sym, subst, inr, ⊎_elim, arith, lit<, w64, SFits}
use lib.Signed.{le_z}
use Rattle.std.proofs.lemmas.Int.{ints, to_z-of_z}
use Rattle.equations.specs.Margins.{excess, Reached}
use Rattle.equations.proofs.Products.{near_product, near_fits, when_le}
use Rattle.equations.proofs.deviations.Allowed.reaches.Goals as goal

pub overflow_mul-result : goal.overflow_mul-result
overflow_mul-result c =
    let r : SFits w64 c.excess-over.result = record { sfits = c.excess-over.type_inv } in
    let n = c.excess-over.ensures.near in
    simp to_z-of_z (near_fits (c.excess-over.result *ℤ c.excess-over.result) (2000000000 * 2000000000) (lit< tt) (near_product 2000000000 2000000000 _ _ n n))

pub returns-else-over-le0 : goal.returns-else-over-le0
returns-else-over-le0 c =
    let x : ℤ = c.excess-over.result in
    let f3 = c.ranges.t in
    let f4 = c.ranges.bound in
    let r : SFits w64 x = record { sfits = c.excess-over.type_inv } in
    let n = c.excess-over.ensures.near in
    let s : SFits w64 (x *ℤ x) = near_fits (x *ℤ x) (2000000000 * 2000000000) (lit< tt) (near_product 2000000000 2000000000 x x n n) in
    let e : x ≡ excess c.args.self.now.sums.count c.args.self.now.sums.sum c.args.t = simp to_z-of_z at c.excess-over.ensures.value in
    let positive : le_z x (pos 0) ≡ false = simp to_z-of_z at c.if-over-le0.false in
    simp to_z-of_z (above c.args.self.now.sums.count c.args.self.now.sums.sum c.args.bound c.args.t x e positive)
  where
    above : (n S B t x : ℤ) → x ≡ excess n S t → le_z x (pos 0) ≡ false → MatchBool (le_z (x *ℤ x) B) (Reached n S B t) (Reached n S B t → ⊥)
    above n S B t x e p =
        when_le (x *ℤ x) B (Reached n S B t)
        (λ h. inr (subst (λ (y : ℤ). (y *ℤ y) ≤ℤ B) e h))
        (λ h r. ⊎_elim (λ low. absurd (omega (arith, ints, subst (λ (y : ℤ). y ≤ℤ pos 0) (sym e) low))) (λ under. absurd (omega (arith, ints, subst (λ (y : ℤ). (y *ℤ y) ≤ℤ B) (sym e) under))) r)
