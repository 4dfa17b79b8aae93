-- A border without periods, and what a bank keeps of its borders.
use Rattle.std.proofs.Common.{◌≡◌, [], ℤ, pos, ◌≤ℤ◌, arith}
use Rattle.std.proofs.lemmas.Int.{ints}
use Rattle.borders.specs.Day.{figure_in}
use Rattle.borders.specs.Days.{figure_out}

pub no_figure : (p : ℤ) → figure_in [] p ≡ pos 0
no_figure p = figure_out [] p (λ h. none p h.0 h.1)
  where
    none : (p : ℤ) → pos 1 ≤ℤ p → p ≤ℤ pos 0 → ⊥
    none p h k = omega (arith, ints)
