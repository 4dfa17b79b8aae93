-- Sums of deviations that are in range, and what is made of them, fit a machine number.
use Rattle.std.proofs.Common.{◌*◌, ℤ, pos, negsuc, ◌+ℤ◌, ◌-ℤ◌, ◌*ℤ◌, ◌≤ℤ◌, MatchBool, div-le_self, arith, lit<, w64, SFits}
use lib.Signed.{le_z, quot_z}
use Rattle.std.proofs.lemmas.Int.{ints}
use Rattle.equations.specs.Ranges.{Near}
use Rattle.equations.specs.Margins.{spread, SumsInRange, AllowedSums}
use Rattle.equations.proofs.Products.{near_product, near_fits, when_le}

pub square_least : (a : ℤ) → pos 0 ≤ℤ (a *ℤ a)
square_least (pos a) = omega (arith, ints)
square_least (negsuc a) = omega (arith, ints)

-- sums in range, and their products, fit a machine number
pub record Fitting (n S Q : ℤ) : Type 0 where
  pub count : SFits w64 n
  pub sum : SFits w64 S
  pub squares : SFits w64 Q
  pub product : SFits w64 (n *ℤ Q)
  pub square : SFits w64 (S *ℤ S)
  pub product_near : Near (44640 * 200000000000) (n *ℤ Q)

pub fitting : (n S Q : ℤ) → SumsInRange n S Q → Fitting n S Q
fitting n S Q s =
    let hs : Near 100000000 S = (omega (arith, ints), omega (arith, ints)) in
    let hn : Near 44640 n = (omega (arith, ints), omega (arith, ints)) in
    let hq : Near 200000000000 Q = (omega (arith, ints), omega (arith, ints)) in
    let p = near_product 44640 200000000000 n Q hn hq in
    record {
      count = omega (arith, ints);
      sum = omega (arith, ints);
      squares = omega (arith, ints);
      product = near_fits (n *ℤ Q) (44640 * 200000000000) (lit< tt) p;
      square = near_fits (S *ℤ S) (100000000 * 100000000) (lit< tt) (near_product 100000000 100000000 S S hs hs);
      product_near = p;
    }

-- sums in range are allowed exactly if their spread is not below 0
pub allowed_or_not : (n S Q : ℤ) → SumsInRange n S Q → MatchBool (le_z (S *ℤ S) (n *ℤ Q)) (AllowedSums n S Q) (AllowedSums n S Q → ⊥)
allowed_or_not n S Q b =
    when_le (S *ℤ S) (n *ℤ Q) (AllowedSums n S Q)
    (λ h. record { in_range = b; covered = h })
    (λ h s. absurd (omega (arith, ints, s.covered)))

-- so does every part of the spread of sums that are allowed
pub record Spreading (n S Q : ℤ) : Type 0 where
  pub difference : SFits w64 (n *ℤ Q -ℤ S *ℤ S)
  pub whole : SFits w64 (spread n S Q)
  pub least : pos 0 ≤ℤ spread n S Q
  pub most : spread n S Q ≤ℤ pos 40000000000000000

pub spreading : (n S Q : ℤ) → AllowedSums n S Q → Spreading n S Q
spreading n S Q s =
    let k = parts (n *ℤ Q) (S *ℤ S) (fitting n S Q s.in_range).product_near (square_least S) s.covered in
    record { difference = k.0; whole = k.1; least = k.2; most = k.3 }
  where
    parts : (p q : ℤ) → Near (44640 * 200000000000) p → pos 0 ≤ℤ q → q ≤ℤ p → SFits w64 (p -ℤ q) × SFits w64 (pos 4 *ℤ (p -ℤ q)) × (pos 0 ≤ℤ (pos 4 *ℤ (p -ℤ q))) × ((pos 4 *ℤ (p -ℤ q)) ≤ℤ pos 40000000000000000)
    parts p q h k l = (omega (arith, ints), omega (arith, ints), omega (arith, ints), omega (arith, ints))

pub quotient_between : (v m : ℤ) → pos 0 ≤ℤ v → pos 1 ≤ℤ m → (pos 0 ≤ℤ quot_z v m) × (quot_z v m ≤ℤ v)
quotient_between (pos v) (pos m) h k = let d = div-le_self v m in (omega (arith, ints), omega (arith, ints))
quotient_between (pos v) (negsuc m) h k = absurd k.le
quotient_between (negsuc v) m h k = absurd h.le

-- V, the part of it that n - 1 gives, and their sum fit a machine number
pub record Widened (v m : ℤ) : Type 0 where
  pub fewer : SFits w64 m
  pub value : SFits w64 v
  pub part : SFits w64 (quot_z v m)
  pub whole : SFits w64 (v +ℤ quot_z v m)

pub widened : (n v : ℤ) → pos 2 ≤ℤ n → n ≤ℤ pos 44640 → pos 0 ≤ℤ v → v ≤ℤ pos 40000000000000000 → Widened v (n -ℤ pos 1)
widened n v few many least most =
    let q = quotient_between v (n -ℤ pos 1) least (omega (arith, ints)) in
    record { fewer = omega (arith, ints); value = omega (arith, ints); part = omega (arith, ints); whole = omega (arith, ints) }
