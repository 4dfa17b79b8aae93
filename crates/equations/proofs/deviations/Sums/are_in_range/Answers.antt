use Rattle.std.proofs.Common.{ℤ, arith}
use Rattle.std.proofs.lemmas.Int.{ints}
use Rattle.equations.specs.Margins.{SumsInRange}
use Rattle.equations.proofs.Ranged.{within, beyond, tells_whether}
use Rattle.equations.proofs.deviations.Sums.are_in_range.Goals as goal

pub returns-then-contains : goal.returns-then-contains
returns-then-contains c =
    let n : ℤ = c.args.self.now.count in
    let S : ℤ = c.args.self.now.sum in
    let Q : ℤ = c.args.self.now.squares in
    let a = within _ _ _ _ n _ c.new.ensures.start c.new.ensures.end c.new.ensures.exhausted c.if-not-contains.ensures.value in
    let b = within _ _ _ _ S _ c.new-2.ensures.start c.new-2.ensures.end c.new-2.ensures.exhausted c.if-contains.ensures.value in
    tells_whether _ _ _ _ Q _ _ (SumsInRange n S Q) c.new-then-contains.ensures.start c.new-then-contains.ensures.end c.new-then-contains.ensures.exhausted c.contains-then-contains.ensures.value
    (λ least most. record { few = a.0; many = a.1; sum_least = omega (arith, ints); sum_most = omega (arith, ints); squares_least = least; squares_most = omega (arith, ints) })
    (λ s. (s.squares_least, omega (arith, ints, s.squares_most)))

pub returns-else-contains : goal.returns-else-contains
returns-else-contains c =
    let n : ℤ = c.args.self.now.count in
    let S : ℤ = c.args.self.now.sum in
    let a = within _ _ _ _ n _ c.new.ensures.start c.new.ensures.end c.new.ensures.exhausted c.if-not-contains.ensures.value in
    rw c.if-contains.false (λ s. beyond _ _ _ _ S _ c.new-2.ensures.start c.new-2.ensures.end c.new-2.ensures.exhausted c.if-contains.ensures.value (omega (arith, ints)) (omega (arith, ints)))
