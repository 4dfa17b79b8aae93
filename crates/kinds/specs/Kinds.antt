-- The four kinds: the sheets that pass, and the limits that a sheet gives with the flow a at its acceptance.
use Rattle.std.specs.Prelude.{Bool, ◌&&◌, ℤ, pos, ◌-ℤ◌, neg_ℤ, int_le}
use Rattle.equations.specs.Ranges.{between}
use Rattle.equations.specs.Capacities.{limit_of, net_capacity}
use Rattle.equations.specs.declared.capacity.Side.{Side}
use Rattle.equations.specs.declared.capacity.Direction.{Direction}
use Rattle.equations.specs.declared.capacity.Direction.TheVariants.{Forward, Backward}
use Rattle.equations.specs.declared.capacity.Formula.{Formula}
use Rattle.equations.specs.declared.capacity.Formula.TheVariants.{Cable, Settlement, Line, Given}
use Rattle.borders.specs.declared.Sheet.{Sheet}

-- what is not used must be 0
abbrev pub none : ℤ → Bool
none x = between (pos 0) x (pos 0)

abbrev pub amount : ℤ → Bool
amount x = between (pos 0) x (pos 20000)

-- the ranges of a side, by what the kind uses of it
abbrev pub two_used : Side → Bool
two_used s = amount s.first && amount s.second && none s.margin && none s.reserve

abbrev pub one_used : Side → Bool
one_used s = amount s.first && none s.second && none s.margin && none s.reserve

abbrev pub all_used : Side → Bool
all_used s = amount s.first && amount s.second && between (pos 0) s.margin (pos 2000) && amount s.reserve

-- each figure of a side 0 to its most
abbrev pub side_within : Side → Side → Bool
side_within most s = between (pos 0) s.first most.first && between (pos 0) s.second most.second && between (pos 0) s.margin most.margin && between (pos 0) s.reserve most.reserve

-- how far a flow lies within a lower and an upper limit, in a direction
abbrev pub within_of : ℤ → ℤ → Direction → ℤ → ℤ
within_of lo hi Forward a = hi -ℤ a
within_of lo hi Backward a = a -ℤ lo

-- the limit of a sheet that a direction meets: the upper one forward, the lower one backward
abbrev pub limit_toward : (Sheet → ℤ → ℤ) → (Sheet → ℤ → ℤ) → Direction → Sheet → ℤ → ℤ
limit_toward lo hi Forward t a = hi t a
limit_toward lo hi Backward t a = lo t a

-- cable, settlement and given: the upper limit is the forward NTC, the lower is minus the backward NTC
abbrev pub plain_upper : (Sheet → Formula) → Sheet → ℤ → ℤ
plain_upper f t a = net_capacity (f t) Forward t.forward

abbrev pub plain_lower : (Sheet → Formula) → Sheet → ℤ → ℤ
plain_lower f t a = neg_ℤ (net_capacity (f t) Backward t.backward)

abbrev pub cable_formula : Sheet → Formula
cable_formula t = Cable

abbrev pub settlement_formula : Sheet → Formula
settlement_formula t = Settlement t.circuits

abbrev pub given_formula : Sheet → Formula
given_formula t = Given

-- line: the upper limit is the flow plus the forward ATC, the lower the flow less the backward ATC
abbrev pub line_upper : Sheet → ℤ → ℤ
line_upper t a = limit_of Line Forward t.forward a t.power_flow

abbrev pub line_lower : Sheet → ℤ → ℤ
line_lower t a = limit_of Line Backward t.backward a t.power_flow

-- the tests
abbrev pub cable_test : Sheet → ℤ → Bool
cable_test t a = two_used t.forward && two_used t.backward && none t.power_flow && none t.circuits

abbrev pub settlement_test : Sheet → ℤ → Bool
settlement_test t a = two_used t.forward && two_used t.backward && none t.power_flow && between (pos 1) t.circuits (pos 2)

abbrev pub given_test : Sheet → ℤ → Bool
given_test t a = one_used t.forward && one_used t.backward && none t.power_flow && none t.circuits

-- the line's asks the limits too
abbrev pub line_ranges : Sheet → Bool
line_ranges t = all_used t.forward && all_used t.backward && between (neg_ℤ (pos 20000)) t.power_flow (pos 20000) && none t.circuits

abbrev pub line_test : Sheet → ℤ → Bool
line_test t a = line_ranges t && int_le (line_upper t a) (pos 30000) && int_le (neg_ℤ (pos 30000)) (line_lower t a)
