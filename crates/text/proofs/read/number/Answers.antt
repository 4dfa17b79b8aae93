-- A field that is refused writes no number.
use Rattle.std.proofs.Common.{ℤ, arith, rules}
use Rattle.text.proofs.NumberLaws.{minus_only, no_minus_zero, writes_some}
use Rattle.text.specs.Numbers.{Writes}
use Rattle.text.proofs.read.number.Goals as goal

pub returns-in_err-first : goal.returns-in_err-first
returns-in_err-first c =
    rw c.from_residual.ensures (λ n p. omega (arith, c.in_err-first.ensures.cases, writes_some _ n p))

pub returns-in_err-n : goal.returns-in_err-n
returns-in_err-n c =
    rw c.from_residual-in_err-n.ensures
    (λ n p. let m = minus_only _ _ _ n c.in_ok-first.ensures.cases.0 c.if-first-eq45.true p in
    c.in_err-n.ensures m.0 m.2 m.3)

pub returns-in-0 : goal.returns-in-0
returns-in-0 c =
    let none : (n : ℤ) → Writes c.args.field.now n → ⊥ =
    λ n p. no_minus_zero _ _ _ _ n c.in_ok-first.ensures.cases.0 c.if-first-eq45.true c.in_ok-n.ensures.1 c.in-0.is p in
    search rules
