use Rattle.std.proofs.lemmas.Int.{to_z-of_z}
use Rattle.equations.proofs.Fitting.{fitting, allowed_or_not}
use Rattle.equations.proofs.deviations.Sums.are_allowed.Goals as goal

pub overflow_mul-result : goal.overflow_mul-result
overflow_mul-result c = let k = fitting _ _ _ c.if-are_in_range.ensures in simp (to_z-of_z, k.sum) k.square

pub overflow_mul-result-then-are_in_range : goal.overflow_mul-result-then-are_in_range
overflow_mul-result-then-are_in_range c = let k = fitting _ _ _ c.if-are_in_range.ensures in simp (to_z-of_z, k.count, k.squares) k.product

pub returns-then-are_in_range : goal.returns-then-are_in_range
returns-then-are_in_range c =
    let k = fitting _ _ _ c.if-are_in_range.ensures in
    simp (to_z-of_z, k.count, k.sum, k.squares, k.product, k.square) (allowed_or_not _ _ _ c.if-are_in_range.ensures)
