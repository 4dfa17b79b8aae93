-- A border whose limits follow the last sheet accepted for each period.
use Rattle.std.specs.Prelude.{Bool, List, map, replicate, ℤ, pos, Some}
use Rattle.borders.specs.declared.Sheet.{Sheet}
use Rattle.borders.specs.Day.{Schedule, figure_in}
use Rattle.borders.specs.Border.{Meaning, Stated}
use Rattle.kinds.specs.declared.limits.Limits.{Limits}

-- what a kind states of its sheets: the limits are the same for any schedule
abbrev pub stated_by : (Sheet → ℤ → Bool) → (Sheet → ℤ → ℤ) → (Sheet → ℤ → ℤ) → Stated
stated_by passed lo hi = record { test = passed; lower = λ t a s p. lo t a; upper = λ t a s p. hi t a }

-- flows and limits by period, and what the kind states
abbrev pub sheeted : Stated → Schedule → Schedule → Schedule → Meaning
sheeted kind flows lows highs = record {
  schedule = flows;
  lower = λ s p. figure_in lows p;
  upper = λ s p. figure_in highs p;
  passes = λ t s p. kind.test t (figure_in s p);
  stated = Some kind;
}

-- the lower and the upper limits of the periods
abbrev pub lowers : List Limits → Schedule
lowers ls = map (λ l. l.lower) ls

abbrev pub uppers : List Limits → Schedule
uppers ls = map (λ l. l.upper) ls

-- nothing flows in the 24 periods of a day
abbrev pub idle : Schedule
idle = replicate 24 (pos 0)
