-- The available capacity of a line, by whether the flow goes that way; and how far from 0 capacities lie.
use Rattle.std.proofs.Common.{◌≡◌, ℕ, Bool, true, false, cond, ◌⊎◌, ℤ, pos, ◌+ℤ◌, ◌-ℤ◌, ◌≤ℤ◌, ◌<ℤ◌, refl, inl, inr, arith, lit<, w32, w64, SFits}
use lib.Signed.{lt_z}
use Rattle.std.specs.Int.{int_min}
use Rattle.std.proofs.lemmas.Int.{ints, clamps}
use Rattle.equations.specs.Ranges.{between, Near, Small}
use Rattle.equations.specs.Capacities.{available, line_available, net_capacity, counted, settled_capacity, circuit_cap}
use Rattle.equations.specs.declared.capacity.Side.{Side}
use Rattle.equations.specs.declared.capacity.Direction.{Direction}
use Rattle.equations.specs.declared.capacity.Direction.TheVariants.{Forward, Backward}
use Rattle.equations.specs.declared.capacity.Formula.{Formula}
use Rattle.equations.specs.declared.capacity.Formula.TheVariants.{Cable, Settlement, Line, Given}

pub with_the_flow : (c m a p : ℤ) → pos 0 <ℤ a → line_available c m a p ≡ int_min (c -ℤ p) (c -ℤ a +ℤ m)
unfolding line_available
with_the_flow c m a p h = grind (arith, ints)

pub against_the_flow : (c m a p : ℤ) → a ≤ℤ pos 0 → line_available c m a p ≡ c -ℤ p
unfolding line_available
against_the_flow c m a p h = grind (arith, ints)

pub counted_small : (to : Direction) (x : ℤ) → SFits w32 x → Small (counted to x)
counted_small Forward x h = omega (arith, ints)
counted_small Backward x h = omega (arith, ints)

-- the parts of a line's capacity fit a machine number
pub record LineFits (x y m r : ℤ) : Type 0 where
  pub first : SFits w64 x
  pub second : SFits w64 y
  pub margin : SFits w64 m
  pub reserve : SFits w64 r
  pub lifted : SFits w64 (x +ℤ r)
  pub first_left : SFits w64 (x +ℤ r -ℤ m)
  pub second_left : SFits w64 (y -ℤ m)

pub line_fits : (x y m r : ℤ) → SFits w32 x → SFits w32 y → SFits w32 m → SFits w32 r → LineFits x y m r
line_fits x y m r hx hy hm hr = record {
  first = omega (arith, ints);
  second = omega (arith, ints);
  margin = omega (arith, ints);
  reserve = omega (arith, ints);
  lifted = omega (arith, ints);
  first_left = omega (arith, ints);
  second_left = omega (arith, ints);
}

-- and those of what is left of it
pub lefts_fit : (c m a p : ℤ) → Small c → Small m → Small a → Small p → SFits w64 (c -ℤ p) × SFits w64 (c -ℤ a) × SFits w64 (c -ℤ a +ℤ m)
lefts_fit c m a p hc hm ha hp = (omega (arith, ints), omega (arith, ints), omega (arith, ints))

pub line_small : (x y m r : ℤ) → SFits w32 x → SFits w32 y → SFits w32 m → SFits w32 r → Small (int_min (x +ℤ r -ℤ m) (y -ℤ m))
line_small x y m r hx hy hm hr = omega (arith, ints, clamps)

-- the kinds but the line
abbrev pub Plain : Formula → Type 0
Plain f = (f ≡ Cable) ⊎ (((n : ℤ) × (f ≡ Settlement n)) ⊎ (f ≡ Given))

pub plain_available : (f : Formula) (to : Direction) (s : Side) (a p : ℤ) → Plain f → available f to s a p ≡ net_capacity f to s -ℤ counted to a
plain_available Cable to s a p h = refl
plain_available (Settlement n) to s a p h = refl
plain_available Given to s a p h = refl
plain_available Line to s a p (inl e) = let z : ◌≡◌ {A = ℕ} 0 1 = cc in absurd (omega arith)
plain_available Line to s a p (inr (inl e)) = let k = e.1 in let z : ◌≡◌ {A = ℕ} 0 1 = cc in absurd (omega arith)
plain_available Line to s a p (inr (inr e)) = let z : ◌≡◌ {A = ℕ} 0 1 = cc in absurd (omega arith)

-- a difference of two that are small
pub less_near : (x y : ℤ) → Small x → Small y → SFits w64 (x -ℤ y) × Near 4000000000000 (x -ℤ y)
less_near x y hx hy = (omega (arith, ints), (omega (arith, ints), omega (arith, ints)))

pub line_near : (c m a p : ℤ) → Small c → Small m → Small a → Small p → Near 4000000000000 (line_available c m a p)
unfolding line_available
line_near c m a p hc hm ha hp = by_way (lt_z (pos 0) a)
  where
    by_way : (t : Bool) → Near 4000000000000 (cond t (int_min (c -ℤ p) (c -ℤ a +ℤ m)) (c -ℤ p))
    by_way true = (omega (arith, ints, clamps), omega (arith, ints, clamps))
    by_way false = (omega (arith, ints), omega (arith, ints))

-- the flow less a capacity that is near
pub backward_fits : (a x : ℤ) → SFits w32 a → Near 4000000000000 x → SFits w64 (a -ℤ x)
backward_fits a x ha hx = omega (arith, ints)

-- a limit is the flow and a capacity that is near
pub limit_fits : (a x : ℤ) → SFits w32 a → Near 4000000000000 x → SFits w64 (a +ℤ x) × SFits w64 (a -ℤ x)
limit_fits a x ha hx = (omega (arith, ints), backward_fits a x ha hx)

-- the capacities of the kinds but the line are small
pub given_small : (x : ℤ) → SFits w32 x → Small x
given_small x h = (omega (arith, ints), omega (arith, ints))

pub cable_small : (x y : ℤ) → SFits w32 x → SFits w32 y → Small (int_min x y)
cable_small x y hx hy = omega (arith, ints, clamps)

settled_fits : (x : ℤ) → SFits w32 x → SFits w32 (settled_capacity x)
settled_fits x h = elim (lt_z x (pos 50)) as (λ b. SFits w32 (cond b (pos 0) x)) [ true ↦ record { sfits = lit< tt } | false ↦ h ]

cap_between : (to : Direction) (n : ℤ) → (pos 485 ≤ℤ circuit_cap to n) × (circuit_cap to n ≤ℤ pos 492)
cap_between Forward n = elim (between (pos 2) n (pos 2)) as (λ b. (pos 485 ≤ℤ cond b (pos 488) (pos 485)) × (cond b (pos 488) (pos 485) ≤ℤ pos 492)) [ true ↦ (omega (arith, ints), omega (arith, ints)) | false ↦ (omega (arith, ints), omega (arith, ints)) ]
cap_between Backward n = (omega (arith, ints), omega (arith, ints))

capped_small : (x y cap : ℤ) → SFits w32 x → SFits w32 y → pos 485 ≤ℤ cap → cap ≤ℤ pos 492 → Small (int_min (int_min x y) cap)
capped_small x y cap hx hy h k = omega (arith, ints, clamps)

pub settlement_small : (x y : ℤ) (to : Direction) (n : ℤ) → SFits w32 x → SFits w32 y → Small (int_min (int_min (settled_capacity x) (settled_capacity y)) (circuit_cap to n))
settlement_small x y to n hx hy = capped_small (settled_capacity x) (settled_capacity y) (circuit_cap to n) (settled_fits x hx) (settled_fits y hy) (cap_between to n).0 (cap_between to n).1
