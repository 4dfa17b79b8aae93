-- The margin of deviations: their mean plus the root of their summed squared distances from it over n − 1, rounded to the
-- nearest whole number, halves up. In whole numbers, of n deviations with the sum S and the sum of squares Q.
use Rattle.std.specs.Prelude.{ℕ, Bool, ◌&&◌, ◌⊎◌, List, length, ℤ, pos, ◌+ℤ◌, ◌-ℤ◌, ◌*ℤ◌, neg_ℤ, ◌≤ℤ◌, Option, int_div, nat_le}
use Rattle.equations.specs.Sums.{total}
use Rattle.equations.specs.Ranges.{between}
use Rattle.equations.specs.Grounds.{refused_at}

-- S and Q of a list of deviations
abbrev pub sum_of : List ℤ → ℤ
sum_of ds = total (λ d. d) ds

abbrev pub squares_of : List ℤ → ℤ
squares_of ds = total (λ d. d *ℤ d) ds

-- V = 4 (n Q − S S)
abbrev pub spread : ℤ → ℤ → ℤ → ℤ
spread n S Q = pos 4 *ℤ (n *ℤ Q -ℤ S *ℤ S)

-- B = V + V / (n − 1), the quotient rounded down, since V is not below 0 for sums that are allowed
abbrev pub square_bound_lem : ℤ → ℤ → ℤ → ℤ
square_bound_lem n S Q = spread n S Q +ℤ int_div (spread n S Q) (n -ℤ pos 1)

-- x = (2 t − 1) n − 2 S
abbrev pub excess : ℤ → ℤ → ℤ → ℤ
excess n S t = (pos 2 *ℤ t -ℤ pos 1) *ℤ n -ℤ pos 2 *ℤ S

-- a whole t that does not pass the margin: x is at most 0, or x x at most B
abbrev pub Reached : ℤ → ℤ → ℤ → ℤ → Type 0
Reached n S B t = (excess n S t ≤ℤ pos 0) ⊎ ((excess n S t *ℤ excess n S t) ≤ℤ B)

-- the greatest whole t that is reached
pub record Greatest (n S B t : ℤ) : Type 0 where
  pub reached : Reached n S B t
  pub greatest : (u : ℤ) → Reached n S B u → u ≤ℤ t

-- the margin of n deviations with the sums S and Q
abbrev pub Margin : ℤ → ℤ → ℤ → ℤ → Type 0
Margin n S Q t = Greatest n S (square_bound_lem n S Q) t

-- n is 2 to 44,640, and S and Q lie within what n deviations within ±2,000 come to
pub record SumsInRange (n S Q : ℤ) : Type 0 where
  pub few : pos 2 ≤ℤ n
  pub many : n ≤ℤ pos 44640
  pub sum_least : neg_ℤ (pos 2000 *ℤ n) ≤ℤ S
  pub sum_most : S ≤ℤ (pos 2000 *ℤ n)
  pub squares_least : pos 0 ≤ℤ Q
  pub squares_most : Q ≤ℤ (pos 4000000 *ℤ n)

-- the bounds that n, S and Q of 2 to 44,640 deviations within ±2,000 keep
pub record AllowedSums (n S Q : ℤ) : Type 0 where
  pub in_range : SumsInRange n S Q
  pub covered : (S *ℤ S) ≤ℤ (n *ℤ Q)

-- ---- from deviations
-- within ±2,000
abbrev pub deviation_allowed : ℤ → Bool
deviation_allowed d = between (neg_ℤ (pos 2000)) d (pos 2000)

-- 2 to 44,640
abbrev pub count_allowed : ℕ → Bool
count_allowed n = nat_le 2 n && nat_le n 44640

-- the place at which ground 7 applies to deviations
abbrev pub margin_refused : List ℤ → Option ℕ
margin_refused ds = refused_at (count_allowed (length ds)) deviation_allowed ds

-- t is the margin of these deviations
abbrev pub MarginOf : List ℤ → ℤ → Type 0
MarginOf ds t = Margin (pos (length ds)) (sum_of ds) (squares_of ds) t
