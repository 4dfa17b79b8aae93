-- How far limits may lie, and how a ramp narrows them.
use Rattle.std.specs.Prelude.{Bool, cond, length, ℤ, pos, ◌+ℤ◌, ◌-ℤ◌, neg_ℤ, ◌≤ℤ◌}
use Rattle.std.specs.Int.{int_max, int_min}
use Rattle.equations.specs.Ranges.{between}
use Rattle.equations.specs.Grounds.{tells}
use Rattle.equations.specs.Capacities.{counted}
use Rattle.equations.specs.declared.capacity.Direction.{Direction}
use Rattle.equations.specs.declared.fault.Told.{Told}
use Rattle.borders.specs.Day.{Schedule, in_day, figure_in}

-- no upper limit above 30,000, no lower below −30,000, and neither further than 50,000 from 0
pub record Limited (lo hi : ℤ) : Type 0 where
  pub top_most : hi ≤ℤ pos 30000
  pub top_least : neg_ℤ (pos 50000) ≤ℤ hi
  pub bottom_least : neg_ℤ (pos 30000) ≤ℤ lo
  pub bottom_most : lo ≤ℤ pos 50000

-- the rates that a ramp may have
abbrev pub Rate : ℤ → Type 0
Rate R = (pos 1 ≤ℤ R) × (R ≤ℤ pos 20000)

-- what the refusal of a rate tells: ground 8
abbrev pub rate_told : Told
rate_told = tells 8 (pos 0) (pos 0)

-- a neighbouring period q caps an upper limit at R above its flow, and lifts a lower one to R below it
unfoldable pub capped_by : ℤ → Schedule → ℤ → ℤ → ℤ
capped_by R s q limit = cond (in_day (length s) q) (int_min limit (figure_in s q +ℤ R)) limit

unfoldable pub lifted_by : ℤ → Schedule → ℤ → ℤ → ℤ
lifted_by R s q limit = cond (in_day (length s) q) (int_max limit (figure_in s q -ℤ R)) limit

-- whether the step from one flow to the next is at most R up or down
abbrev pub step_within : ℤ → ℤ → ℤ → Bool
step_within R before after = between (neg_ℤ R) (after -ℤ before) R

-- how far the flow of period q lies ahead of that of period p, in a direction
abbrev pub ahead_by : Direction → Schedule → ℤ → ℤ → ℤ
ahead_by to s p q = counted to (figure_in s q -ℤ figure_in s p)

-- so a neighbour leaves of a margin of period p no more than R and how far its flow lies ahead
unfoldable pub left_by : ℤ → Direction → Schedule → ℤ → ℤ → ℤ → ℤ
left_by R to s p q margin = cond (in_day (length s) q) (int_min margin (R +ℤ ahead_by to s p q)) margin

-- the limits of period p under a ramp of rate R, for the schedule s
abbrev pub ramped_upper : ℤ → Schedule → ℤ → ℤ → ℤ
ramped_upper R s p limit = capped_by R s (p +ℤ pos 1) (capped_by R s (p -ℤ pos 1) limit)

abbrev pub ramped_lower : ℤ → Schedule → ℤ → ℤ → ℤ
ramped_lower R s p limit = lifted_by R s (p +ℤ pos 1) (lifted_by R s (p -ℤ pos 1) limit)
