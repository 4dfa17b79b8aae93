-- The reserve of sources with power P and a coefficient in hundredths for each of three rows, under a down-regulation D.
use Rattle.std.specs.Prelude.{ℕ, Bool, cond, ◌&&◌, List, length, ℤ, pos, ◌*ℤ◌, Option, int_div, int_le, nat_le}
use Rattle.equations.specs.Ranges.{between}
use Rattle.equations.specs.declared.sources.Source.{Source}
use Rattle.equations.specs.declared.sources.Row.{Row}
use Rattle.equations.specs.declared.sources.Row.TheVariants.{Hundred, Fifty, Zero}
use Rattle.equations.specs.Sums.{total}
use Rattle.equations.specs.Grounds.{refused_at}

-- P is 0 to 5,000 and each coefficient 0 to 100
abbrev pub source_allowed : Source → Bool
source_allowed s =
    between (pos 0) s.power (pos 5000)
    && between (pos 0) s.row100 (pos 100)
    && between (pos 0) s.row50 (pos 100)
    && between (pos 0) s.row0 (pos 100)

-- the place at which ground 7 applies: 0 for more than 8 sources or D
abbrev pub reserve_refused : List Source → ℤ → Option ℕ
reserve_refused ss D = refused_at (nat_le (length ss) 8 && between (pos 0) D (pos 5000)) source_allowed ss

-- the sum of P
abbrev pub total_power_lem : List Source → ℤ
total_power_lem ss = total (λ s. s.power) ss

-- the row that serves: 100 if D is at least the sum of P, else 50 if twice D is, else 0
abbrev pub serving : ℤ → ℤ → Row
serving P D = cond (int_le P D) Hundred (cond (int_le P (pos 2 *ℤ D)) Fifty Zero)

-- a source's coefficient in a row
abbrev pub coefficient : Row → Source → ℤ
coefficient Hundred s = s.row100
coefficient Fifty s = s.row50
coefficient Zero s = s.row0

-- the sum of coefficient × P
abbrev pub weighed : Row → List Source → ℤ
weighed row ss = total (λ s. coefficient row s *ℤ s.power) ss

-- the reserve: one rounding, down, since the sum is not below 0 for sources that are allowed
abbrev pub reserve_of : List Source → ℤ → ℤ
reserve_of ss D = int_div (weighed (serving (total_power_lem ss) D) ss) (pos 100)
