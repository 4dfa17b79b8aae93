-- What a border means.
use Rattle.std.specs.Prelude.{◌≡◌, ℕ, ◌≤◌, Bool, cond, ◌&&◌, ◌⊎◌, length, ℤ, pos, ◌-ℤ◌, neg_ℤ, ◌≤ℤ◌, ◌<ℤ◌, Option, int_lt}
use Rattle.std.specs.Int.{int_max}
use Rattle.std.specs.Option.{option_map}
use Rattle.equations.specs.declared.capacity.Side.{Side}
use Rattle.equations.specs.declared.capacity.Direction.{Direction}
use Rattle.equations.specs.declared.capacity.Direction.TheVariants.{Forward, Backward}
use Rattle.borders.specs.declared.Sheet.{Sheet}
use Rattle.borders.specs.Day.{Schedule, Period, in_day, figure_in, moved, Within}
use Rattle.borders.specs.Limits.{ramped_upper, ramped_lower}

-- the figures of a sheet for a direction
abbrev pub side_of : Sheet → Direction → Side
side_of t Forward = t.forward
side_of t Backward = t.backward

-- a limit for any schedule and period
abbrev pub Rule : Type 0
Rule = Schedule → ℤ → ℤ

-- what a make states of its sheets: the test at a flow, and the limits that a sheet accepted at that flow gives
pub record Stated : Type 0 where
  pub test : Sheet → ℤ → Bool
  pub lower : Sheet → ℤ → Rule
  pub upper : Sheet → ℤ → Rule

-- a schedule, a lower and an upper limit rule, a sheet test for any sheet, schedule and period, and what the make states of its sheets, if it does
pub record Meaning : Type 0 where
  pub schedule : Schedule
  pub lower : Rule
  pub upper : Rule
  pub passes : Sheet → Schedule → ℤ → Bool
  pub stated : Option Stated

-- how many periods its day has
abbrev pub days_length : Meaning → ℕ
days_length b = length b.schedule

abbrev pub flow_of : Meaning → ℤ → ℤ
flow_of b p = figure_in b.schedule p

abbrev pub top : Meaning → ℤ → ℤ
top b p = b.upper b.schedule p

abbrev pub bottom : Meaning → ℤ → ℤ
bottom b p = b.lower b.schedule p

-- what is told of a period: 0 outside the day
abbrev pub told_in : Meaning → ℤ → ℤ → ℤ
told_in b p x = cond (in_day (days_length b) p) x (pos 0)

abbrev pub forward_of : Meaning → ℤ → ℤ
forward_of b p = told_in b p (top b p -ℤ flow_of b p)

abbrev pub backward_of : Meaning → ℤ → ℤ
backward_of b p = told_in b p (flow_of b p -ℤ bottom b p)

-- how far the flow lies within the limit of a direction
abbrev pub margin_in : Meaning → Direction → ℤ → ℤ
margin_in b Forward p = forward_of b p
margin_in b Backward p = backward_of b p

-- how far the flow lies beyond the limits
unfoldable pub overrun : Meaning → ℤ → ℤ
overrun b p = int_max (pos 0) (int_max (flow_of b p -ℤ top b p) (bottom b p -ℤ flow_of b p))

-- whether a sheet for period p passes the test now
abbrev pub passing : Meaning → Sheet → ℤ → Bool
passing b sheet p = in_day (days_length b) p && b.passes sheet b.schedule p

-- the moves that can be taken
abbrev pub CanTake : Meaning → ℤ → ℤ → Type 0
CanTake b p m = ((pos 0 <ℤ m) × (m ≤ℤ forward_of b p)) ⊎ ((m <ℤ pos 0) × (neg_ℤ m ≤ℤ backward_of b p))

-- the direction in which a move goes: forward at 0
abbrev pub direction_of : ℤ → Direction
direction_of m = cond (int_lt m (pos 0)) Backward Forward

-- the margin that a move meets: forward at 0
abbrev pub margin_met : Meaning → ℤ → ℤ → ℤ
margin_met b p m = cond (int_lt m (pos 0)) (backward_of b p) (forward_of b p)

-- the schedules that are admitted: one flow for each period of a day that has some, within ±30,000, and within their own limits
pub record Admitted (b : Meaning) (s : Schedule) : Type 0 where
  pub some : 1 ≤ length s
  pub as_long : length s ≡ days_length b
  pub within : Within s
  pub under : (p : ℤ) → Period (days_length b) p → figure_in s p ≤ℤ b.upper s p
  pub over : (p : ℤ) → Period (days_length b) p → b.lower s p ≤ℤ figure_in s p

-- the border with another schedule: rules, test and statement stay
abbrev pub with_schedule : Meaning → Schedule → Meaning
with_schedule b s = record { schedule = s; lower = b.lower; upper = b.upper; passes = b.passes; stated = b.stated }

-- the border after it took m in period p
abbrev pub took : Meaning → ℤ → ℤ → Meaning
took b p m = with_schedule b (moved b.schedule p m)

-- a ramp of rate R over a border
abbrev pub ramped_stated : ℤ → Stated → Stated
ramped_stated R t = record { test = t.test; lower = λ sheet a s p. ramped_lower R s p (t.lower sheet a s p); upper = λ sheet a s p. ramped_upper R s p (t.upper sheet a s p) }

abbrev pub ramped : ℤ → Meaning → Meaning
ramped R b = record {
  schedule = b.schedule;
  lower = λ s p. ramped_lower R s p (b.lower s p);
  upper = λ s p. ramped_upper R s p (b.upper s p);
  passes = b.passes;
  stated = option_map (ramped_stated R) b.stated;
}
