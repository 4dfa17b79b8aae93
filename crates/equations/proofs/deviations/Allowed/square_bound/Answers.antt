use Rattle.std.proofs.lemmas.Int.{to_z-of_z}
use Rattle.equations.proofs.Fitting.{widened}
use Rattle.equations.proofs.deviations.Allowed.square_bound.Goals as goal

pub overflow_add-result : goal.overflow_add-result
overflow_add-result c =
    let s = c.args.self.now.kept.in_range in
    let f = widened _ _ s.few s.many c.spread-spread.ensures.near.0 c.spread-spread.ensures.near.1 in
    simp (to_z-of_z, c.divisor.ensures, f.value, f.fewer, f.part) f.whole

pub returns : goal.returns
returns c =
    let s = c.args.self.now.kept.in_range in
    let f = widened _ _ s.few s.many c.spread-spread.ensures.near.0 c.spread-spread.ensures.near.1 in
    simp (to_z-of_z, c.divisor.ensures, f.value, f.fewer, f.part, f.whole) (rw c.spread-spread.ensures.value)
