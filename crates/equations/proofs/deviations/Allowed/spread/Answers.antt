use Rattle.std.proofs.Common.{refl}
use Rattle.std.proofs.lemmas.Int.{to_z-of_z}
use Rattle.equations.proofs.Fitting.{fitting, spreading}
use Rattle.equations.proofs.deviations.Allowed.spread.Goals as goal

pub overflow_mul-product : goal.overflow_mul-product
overflow_mul-product c =
    let k = fitting _ _ _ c.args.self.now.kept.in_range in
    simp (to_z-of_z, k.count, k.squares) k.product

pub overflow_mul-result : goal.overflow_mul-result
overflow_mul-result c =
    let k = fitting _ _ _ c.args.self.now.kept.in_range in
    simp (to_z-of_z, k.sum) k.square

pub overflow_sub-result : goal.overflow_sub-result
overflow_sub-result c =
    let k = fitting _ _ _ c.args.self.now.kept.in_range in
    let s = spreading _ _ _ c.args.self.now.kept in
    simp (to_z-of_z, k.count, k.sum, k.squares, k.product, k.square) s.difference

pub overflow_mul-result-2 : goal.overflow_mul-result-2
overflow_mul-result-2 c =
    let k = fitting _ _ _ c.args.self.now.kept.in_range in
    let s = spreading _ _ _ c.args.self.now.kept in
    simp (to_z-of_z, k.count, k.sum, k.squares, k.product, k.square, s.difference) s.whole

pub returns : goal.returns
returns c =
    let k = fitting _ _ _ c.args.self.now.kept.in_range in
    let s = spreading _ _ _ c.args.self.now.kept in
    simp (to_z-of_z, k.count, k.sum, k.squares, k.product, k.square, s.difference, s.whole) record { value = refl; near = (s.least, s.most) }
