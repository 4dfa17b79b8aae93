-- The limits of a sheet that passes lie within bounds.
use Rattle.std.specs.Prelude.{◌≡◌, Bool, true, false, cond, ◌&&◌, ℤ, pos, ◌+ℤ◌, ◌-ℤ◌, neg_ℤ, ◌≤ℤ◌, ◌<ℤ◌, int_le}
use Rattle.std.proofs.Common.{arith}
use Rattle.std.specs.Int.{int_max, int_min}
use Rattle.std.proofs.lemmas.Int.{ints, clamps, by_lt_z}
use Rattle.std.proofs.lemmas.Bool.{and_parts}
use Rattle.equations.specs.Ranges.{between, Near}
use Rattle.equations.specs.Capacities.{net_capacity, uncut_capacity, line_available, settled_capacity, circuit_cap}
use Rattle.equations.specs.declared.capacity.Side.{Side}
use Rattle.equations.specs.declared.capacity.Direction.{Direction}
use Rattle.equations.specs.declared.capacity.Direction.TheVariants.{Forward, Backward}
use Rattle.equations.specs.declared.capacity.Formula.TheVariants.{Cable, Settlement, Line, Given}
use Rattle.equations.proofs.Available.{with_the_flow, against_the_flow}
use Rattle.borders.specs.declared.Sheet.{Sheet}
use Rattle.borders.specs.Limits.{Limited}
use Rattle.kinds.specs.Kinds.{none, amount, two_used, one_used, all_used, plain_upper, plain_lower, cable_test, cable_formula, settlement_formula, given_test, given_formula, line_ranges, line_test, line_upper, line_lower}

-- ---- the parts of a test
abbrev pub Range : ℤ → ℤ → ℤ → Type 0
Range a x b = (a ≤ℤ x) × (x ≤ℤ b)

in_range : (a x b : ℤ) → between a x b ≡ true → Range a x b
in_range a x b e = let h = and_parts (int_le a x) (int_le x b) e in (omega (arith, ints), omega (arith, ints))

le_true : (a b : ℤ) → int_le a b ≡ true → a ≤ℤ b
le_true a b e = omega (arith, ints)

four : (x y z w : Bool) → (x && y && z && w) ≡ true → (x ≡ true) × (y ≡ true) × (z ≡ true) × (w ≡ true)
four x y z w e =
    let a = and_parts (x && y && z) w e in
    let b = and_parts (x && y) z a.0 in
    let d = and_parts x y b.0 in
    (d.0, d.1, b.1, a.1)

-- ---- the kinds whose limits are their net capacities
plain_limited : (b f : ℤ) → Range (pos 0) b (pos 20000) → Range (pos 0) f (pos 20000) → Limited (neg_ℤ b) f
plain_limited b f hb hf = record { top_most = omega (arith, ints); top_least = omega (arith, ints); bottom_least = omega (arith, ints); bottom_most = omega (arith, ints) }

less_cut : (x y : ℤ) → Range (pos 0) x (pos 20000) → Range (pos 0) (int_max (int_min x y) (pos 0)) (pos 20000)
less_cut x y h = (omega (arith, ints, clamps), omega (arith, ints, clamps))

own_cut : (x : ℤ) → Range (pos 0) x (pos 20000) → Range (pos 0) (int_max x (pos 0)) (pos 20000)
own_cut x h = (omega (arith, ints, clamps), omega (arith, ints, clamps))

capped_cut : (x cap : ℤ) → Range (pos 485) cap (pos 492) → Range (pos 0) (int_max (int_min x cap) (pos 0)) (pos 20000)
capped_cut x cap h = (omega (arith, ints, clamps), omega (arith, ints, clamps))

cap_between : (to : Direction) (n : ℤ) → Range (pos 485) (circuit_cap to n) (pos 492)
cap_between Forward n = elim (between (pos 2) n (pos 2)) as (λ b. Range (pos 485) (cond b (pos 488) (pos 485)) (pos 492)) [ true ↦ (omega (arith, ints), omega (arith, ints)) | false ↦ (omega (arith, ints), omega (arith, ints)) ]
cap_between Backward n = (omega (arith, ints), omega (arith, ints))

two_first : (s : Side) → two_used s ≡ true → Range (pos 0) s.first (pos 20000)
two_first s e = in_range (pos 0) s.first (pos 20000) (four (amount s.first) (amount s.second) (none s.margin) (none s.reserve) e).0

one_first : (s : Side) → one_used s ≡ true → Range (pos 0) s.first (pos 20000)
one_first s e = in_range (pos 0) s.first (pos 20000) (four (amount s.first) (none s.second) (none s.margin) (none s.reserve) e).0

pub cable_limited : (t : Sheet) (a : ℤ) → cable_test t a ≡ true → Limited (plain_lower cable_formula t a) (plain_upper cable_formula t a)
cable_limited t a e =
    let h = four (two_used t.forward) (two_used t.backward) (none t.power_flow) (none t.circuits) e in
    plain_limited (net_capacity Cable Backward t.backward) (net_capacity Cable Forward t.forward)
    (less_cut t.backward.first t.backward.second (two_first t.backward h.1))
    (less_cut t.forward.first t.forward.second (two_first t.forward h.0))

pub settlement_limited : (t : Sheet) (a : ℤ) → Limited (plain_lower settlement_formula t a) (plain_upper settlement_formula t a)
settlement_limited t a =
    plain_limited (net_capacity (Settlement t.circuits) Backward t.backward) (net_capacity (Settlement t.circuits) Forward t.forward)
    (capped_cut (int_min (settled_capacity t.backward.first) (settled_capacity t.backward.second)) (circuit_cap Backward t.circuits) (cap_between Backward t.circuits))
    (capped_cut (int_min (settled_capacity t.forward.first) (settled_capacity t.forward.second)) (circuit_cap Forward t.circuits) (cap_between Forward t.circuits))

pub given_limited : (t : Sheet) (a : ℤ) → given_test t a ≡ true → Limited (plain_lower given_formula t a) (plain_upper given_formula t a)
given_limited t a e =
    let h = four (one_used t.forward) (one_used t.backward) (none t.power_flow) (none t.circuits) e in
    plain_limited (net_capacity Given Backward t.backward) (net_capacity Given Forward t.forward)
    (own_cut t.backward.first (one_first t.backward h.1))
    (own_cut t.forward.first (one_first t.forward h.0))

-- ---- the line
not_below_zero : (x : ℤ) → pos 0 ≤ℤ int_max x (pos 0)
not_below_zero x = omega (arith, ints, clamps)

all_margin : (s : Side) → all_used s ≡ true → pos 0 ≤ℤ s.margin
all_margin s e = (in_range (pos 0) s.margin (pos 2000) (four (amount s.first) (amount s.second) (between (pos 0) s.margin (pos 2000)) (amount s.reserve) e).2).0

-- with capacity c and margin m, at the flow a and the power flow p
module _ (c m a p : ℤ) (hc : pos 0 ≤ℤ c) (hm : pos 0 ≤ℤ m) (ha : Near 30000 a) (hp : Range (neg_ℤ (pos 20000)) p (pos 20000)) where
  top_with : (x : ℤ) → pos 0 <ℤ a → x ≡ int_min (c -ℤ p) (c -ℤ a +ℤ m) → neg_ℤ (pos 50000) ≤ℤ (a +ℤ x)
  top_with x h e = omega (arith, ints, clamps)

  top_against : (x : ℤ) → x ≡ c -ℤ p → neg_ℤ (pos 50000) ≤ℤ (a +ℤ x)
  top_against x e = omega (arith, ints)

  bottom_with : (x : ℤ) → pos 0 <ℤ neg_ℤ a → x ≡ int_min (c -ℤ neg_ℤ p) (c -ℤ neg_ℤ a +ℤ m) → (a -ℤ x) ≤ℤ pos 50000
  bottom_with x h e = omega (arith, ints, clamps)

  bottom_against : (x : ℤ) → x ≡ c -ℤ neg_ℤ p → (a -ℤ x) ≤ℤ pos 50000
  bottom_against x e = omega (arith, ints)

  line_top : neg_ℤ (pos 50000) ≤ℤ (a +ℤ line_available c m a p)
  line_top = by_lt_z (pos 0) a (λ h. top_with (line_available c m a p) h (with_the_flow c m a p h)) (λ h. top_against (line_available c m a p) (against_the_flow c m a p h))

  line_bottom : (a -ℤ line_available c m (neg_ℤ a) (neg_ℤ p)) ≤ℤ pos 50000
  line_bottom =
      by_lt_z (pos 0) (neg_ℤ a)
      (λ h. bottom_with (line_available c m (neg_ℤ a) (neg_ℤ p)) h (with_the_flow c m (neg_ℤ a) (neg_ℤ p) h))
      (λ h. bottom_against (line_available c m (neg_ℤ a) (neg_ℤ p)) (against_the_flow c m (neg_ℤ a) (neg_ℤ p) h))

pub line_limited : (t : Sheet) (a : ℤ) → Near 30000 a → line_test t a ≡ true → Limited (line_lower t a) (line_upper t a)
line_limited t a near e =
    let k = and_parts (line_ranges t && int_le (line_upper t a) (pos 30000)) (int_le (neg_ℤ (pos 30000)) (line_lower t a)) e in
    let j = and_parts (line_ranges t) (int_le (line_upper t a) (pos 30000)) k.0 in
    let h = four (all_used t.forward) (all_used t.backward) (between (neg_ℤ (pos 20000)) t.power_flow (pos 20000)) (none t.circuits) j.0 in
    let flow = in_range (neg_ℤ (pos 20000)) t.power_flow (pos 20000) h.2 in
    record {
      top_most = le_true (line_upper t a) (pos 30000) j.1;
      top_least = line_top (net_capacity Line Forward t.forward) t.forward.margin a t.power_flow (not_below_zero (uncut_capacity Line Forward t.forward)) (all_margin t.forward h.0) near flow;
      bottom_least = le_true (neg_ℤ (pos 30000)) (line_lower t a) k.1;
      bottom_most = line_bottom (net_capacity Line Backward t.backward) t.backward.margin a t.power_flow (not_below_zero (uncut_capacity Line Backward t.backward)) (all_margin t.backward h.1) near flow;
    }
