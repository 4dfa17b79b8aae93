-- The periods of a delivery day, and a schedule of flows over them.
use Rattle.std.specs.Prelude.{ℕ, ◌-◌, Bool, cond, ◌&&◌, List, length, ℤ, pos, ◌+ℤ◌, neg_ℤ, ◌≤ℤ◌, int_le, slice_index_or, slice_set, unsigned_abs}

-- one flow for each period, in MW, period 1 first, forward positive
abbrev pub Schedule : Type 0
Schedule = List ℤ

-- p is one of the periods 1 to n
abbrev pub Period : ℕ → ℤ → Type 0
Period n p = (pos 1 ≤ℤ p) × (p ≤ℤ pos n)

abbrev pub in_day : ℕ → ℤ → Bool
in_day n p = int_le (pos 1) p && int_le p (pos n)

-- where the figure of a period stands in a row with one for each period
abbrev pub place : ℤ → ℕ
place p = unsigned_abs p - 1

-- the figure of a period; 0 outside the day
unfoldable pub figure_in : Schedule → ℤ → ℤ
figure_in s p = cond (in_day (length s) p) (slice_index_or s (place p) (pos 0)) (pos 0)

-- a schedule with m more in period p
abbrev pub moved : Schedule → ℤ → ℤ → Schedule
moved s p m = slice_set s (place p) (figure_in s p +ℤ m)

-- flows within ±30,000
pub record Within (s : Schedule) : Type 0 where
  pub least : (p : ℤ) → neg_ℤ (pos 30000) ≤ℤ figure_in s p
  pub most : (p : ℤ) → figure_in s p ≤ℤ pos 30000
