-- The worked figures as one list: what the written rules ask of each, and the numbers they come to.
use Rattle.std.specs.Prelude.{◌≡◌, List, [], ◌∷◌, ◌++◌, ℤ, pos, neg_ℤ}
use Rattle.equations.specs.declared.capacity.Side.{Side}
use Rattle.equations.specs.declared.capacity.Direction.TheVariants.{Forward}
use Rattle.equations.specs.declared.capacity.Formula.TheVariants.{Settlement, Line}
use Rattle.equations.specs.declared.sources.Source.{Source}
use Rattle.equations.specs.Capacities.{net_capacity, available, cut_at_0}
use Rattle.equations.specs.Margins.{MarginOf}
use Rattle.equations.specs.Reserves.{reserve_of}
use Rattle.borders.specs.declared.Sheet.{Sheet}
use Rattle.borders.specs.Border.{Meaning, Stated, flow_of, forward_of, backward_of, overrun, took, ramped}
use Rattle.borders.specs.Answers.{with_limits}
use Rattle.kinds.specs.Kinds.{plain_upper, plain_lower, cable_test, cable_formula, given_test, given_formula}
use Rattle.kinds.specs.Sheets.{stated_by, sheeted, idle}

-- the side of a sheet with two capacities and nothing else
abbrev pub two_capacities_lem : ℤ → ℤ → Side
two_capacities_lem a b = record { first = a; second = b; margin = pos 0; reserve = pos 0 }

-- the side of the line's sheet
abbrev pub line_side : Side
line_side = record { first = pos 700; second = pos 1000; margin = pos 60; reserve = pos 247 }

-- a source that gives reserve in row 100 alone
abbrev pub full_source_lem : ℤ → ℤ → Source
full_source_lem P k = record { power = P; row100 = k; row50 = pos 0; row0 = pos 0 }

-- a sheet with the same capacity in both figures of a side
abbrev pub cable_sheet_lem : ℤ → ℤ → Sheet
cable_sheet_lem f b = record { forward = two_capacities_lem f f; backward = two_capacities_lem b b; power_flow = pos 0; circuits = pos 0 }

-- a sheet of 20,000 both ways for a given border
abbrev pub wide_sheet_lem : Sheet
wide_sheet_lem = record { forward = two_capacities_lem (pos 20000) (pos 0); backward = two_capacities_lem (pos 20000) (pos 0); power_flow = pos 0; circuits = pos 0 }

abbrev pub cable_kind : Stated
cable_kind = stated_by cable_test (plain_lower cable_formula) (plain_upper cable_formula)

abbrev pub given_kind : Stated
given_kind = stated_by given_test (plain_lower given_formula) (plain_upper given_formula)

-- a new border of a kind
abbrev pub new : Stated → Meaning
new kind = sheeted kind idle idle idle

-- a border of a kind with the limits of a sheet for period p
abbrev pub resheeted : Stated → Meaning → Sheet → ℤ → Meaning
resheeted kind b t p = with_limits b p (λ s. kind.lower t (flow_of b p) s p) (λ s. kind.upper t (flow_of b p) s p)

-- a cable of 500 both ways with a flow of 400 in period 1, after a sheet of 300 forward
abbrev pub derated_cable_lem : Meaning
derated_cable_lem = resheeted cable_kind (took (resheeted cable_kind (new cable_kind) (cable_sheet_lem (pos 500) (pos 500)) (pos 1)) (pos 1) (pos 400)) (cable_sheet_lem (pos 300) (pos 500)) (pos 1)

-- a ramp of 200 over wide limits in periods 4 and 5, of which 200 are taken in period 5
abbrev pub ramped_border : Meaning
ramped_border = took (ramped (pos 200) (resheeted given_kind (resheeted given_kind (new given_kind) wide_sheet_lem (pos 4)) wide_sheet_lem (pos 5))) (pos 5) (pos 200)

-- what the rule of each figure asks of it
abbrev pub rules : List (ℤ → Type 0)
rules =
    MarginOf (pos 10 ∷ pos 20 ∷ pos 30 ∷ [])
    ∷ MarginOf (pos 1 ∷ pos 2 ∷ [])
    ∷ MarginOf (pos 1 ∷ pos 1 ∷ pos 1 ∷ neg_ℤ (pos 1) ∷ [])
    ∷ MarginOf (neg_ℤ (pos 5) ∷ neg_ℤ (pos 5) ∷ [])
    ∷ (λ x. x ≡ reserve_of (full_source_lem (pos 100) (pos 62) ∷ full_source_lem (pos 250) (pos 74) ∷ []) (pos 350))
    ∷ (λ x. x ≡ reserve_of (full_source_lem (pos 101) (pos 62) ∷ []) (pos 101))
    ∷ (λ x. x ≡ net_capacity (Settlement (pos 2)) Forward (two_capacities_lem (pos 500) (pos 500)))
    ∷ (λ x. x ≡ net_capacity (Settlement (pos 1)) Forward (two_capacities_lem (pos 500) (pos 500)))
    ∷ (λ x. x ≡ net_capacity (Settlement (pos 2)) Forward (two_capacities_lem (pos 49) (pos 500)))
    ∷ (λ x. x ≡ net_capacity (Settlement (pos 2)) Forward (two_capacities_lem (pos 50) (pos 500)))
    ∷ (λ x. x ≡ net_capacity Line Forward line_side)
    ∷ (λ x. x ≡ available Line Forward line_side (pos 300) (pos 350))
    ∷ (λ x. x ≡ available Line Forward line_side (pos 300) (pos 200))
    ∷ (λ x. x ≡ overrun derated_cable_lem (pos 1))
    ∷ (λ x. x ≡ cut_at_0 (forward_of derated_cable_lem (pos 1)))
    ∷ (λ x. x ≡ cut_at_0 (backward_of derated_cable_lem (pos 1)))
    ∷ (λ x. x ≡ cut_at_0 (forward_of ramped_border (pos 4)))
    ∷ (λ x. x ≡ cut_at_0 (backward_of ramped_border (pos 4)))
    ∷ []

-- the numbers that they come to
abbrev pub expected_margins : List ℤ
expected_margins = pos 30 ∷ pos 2 ∷ pos 2 ∷ neg_ℤ (pos 5) ∷ []

abbrev pub expected_reserves : List ℤ
expected_reserves = pos 247 ∷ pos 62 ∷ []

abbrev pub expected_settlements : List ℤ
expected_settlements = pos 488 ∷ pos 485 ∷ pos 0 ∷ pos 50 ∷ []

abbrev pub expected_lines : List ℤ
expected_lines = pos 887 ∷ pos 537 ∷ pos 647 ∷ []

abbrev pub expected_cable : List ℤ
expected_cable = pos 100 ∷ pos 0 ∷ pos 900 ∷ []

abbrev pub expected_ramp : List ℤ
expected_ramp = pos 200 ∷ pos 0 ∷ []

abbrev pub expected : List ℤ
expected = expected_margins ++ (expected_reserves ++ (expected_settlements ++ (expected_lines ++ (expected_cable ++ expected_ramp))))

-- each figure is what its rule gives, and there are no others
abbrev pub GivenBy : List (ℤ → Type 0) → List ℤ → Type 0
GivenBy [] [] = Unit {0}
GivenBy [] (x ∷ xs) = ⊥
GivenBy (rule ∷ more) [] = ⊥
GivenBy (rule ∷ more) (x ∷ xs) = rule x × GivenBy more xs
