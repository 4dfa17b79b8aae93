-- The laws that bind every make of border.
use Rattle.std.specs.Prelude.{◌≡◌, ◌≤◌, List, [], ◌∷◌, ℤ, ◌≤ℤ◌, IfSome}
use Rattle.borders.specs.declared.Sheet.{Sheet}
use Rattle.borders.specs.Day.{Schedule, Period, figure_in, Within}
use Rattle.borders.specs.Limits.{Limited}
use Rattle.borders.specs.Border.{Meaning, days_length, overrun, CanTake, took}

pub record Known (b : Meaning) : Type 0 where
  -- its day has 1 to 100 periods, so that a period's neighbours are numbers too
  pub day_some : 1 ≤ days_length b
  pub day_short : days_length b ≤ 100
  -- its own flows lie within ±30,000, so that its margins are numbers too
  pub flows_within : Within b.schedule
  -- for schedules within ±30,000 its limits lie within bounds
  pub limits_within : (s : Schedule) (p : ℤ) → Within s → Period (days_length b) p → Limited (b.lower s p) (b.upper s p)
  -- an accepted take enlarges no period's overrun
  pub take_eases : (p m q : ℤ) → CanTake b p m → Period (days_length b) q → overrun (took b p m) q ≤ℤ overrun b q
  -- where it states the limits that a sheet gives, it states the test too
  pub test_stated : (t : Sheet) (s : Schedule) (p : ℤ) → IfSome b.stated (λ rule. b.passes t s p ≡ rule.test t (figure_in s p))

abbrev pub AllKnown : List Meaning → Type 0
AllKnown [] = Unit {0}
AllKnown (b ∷ bs) = Known b × AllKnown bs
