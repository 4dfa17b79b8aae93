-- One step of the search for the margin: the width between what is reached and what is not is halved.
use Rattle.std.proofs.Common.{◌≡◌, ◌<◌, true, false, ℤ, pos, negsuc, ◌+ℤ◌, ◌-ℤ◌, neg_ℤ, nat_abs, ◌≤ℤ◌, ◌<ℤ◌, arith, w32, SFits}
use lib.Signed.{lt_z, quot_z}
use Rattle.std.proofs.lemmas.Int.{ints}
use Rattle.equations.specs.Ranges.{Near}

half_between : (width : ℤ) → pos 1 <ℤ width → (pos 1 ≤ℤ quot_z width (pos 2)) × (quot_z width (pos 2) <ℤ width)
half_between (pos n) h = (omega (arith, ints), omega (arith, ints))
half_between (negsuc n) h = absurd h.lt

-- a width of more than 1 has two halves, h and the rest, each smaller than it
pub record Halves (low width h : ℤ) : Type 0 where
  pub half : SFits w32 h
  pub middle : SFits w32 (low +ℤ h)
  pub rest : SFits w32 (width -ℤ h)
  pub near : Near 10000 (low +ℤ h)
  pub some : pos 1 ≤ℤ h
  pub some_rest : pos 1 ≤ℤ (width -ℤ h)
  pub least : neg_ℤ (pos 2000) ≤ℤ (low +ℤ h)
  pub most : (low +ℤ h) ≤ℤ pos 6192
  pub joined : (low +ℤ h) +ℤ (width -ℤ h) ≡ low +ℤ width
  pub half_falls : nat_abs h < nat_abs width
  pub rest_falls : nat_abs (width -ℤ h) < nat_abs width

pub halves : (low width : ℤ) → lt_z (pos 1) width ≡ true → neg_ℤ (pos 2000) ≤ℤ low → (low +ℤ width) ≤ℤ pos 6192 → Halves low width (quot_z width (pos 2))
halves low width t least most = parts (quot_z width (pos 2)) b.0 b.1
  where
    b : (pos 1 ≤ℤ quot_z width (pos 2)) × (quot_z width (pos 2) <ℤ width)
    b = half_between width (omega (arith, ints))

    parts : (h : ℤ) → pos 1 ≤ℤ h → h <ℤ width → Halves low width h
    parts h some below = record {
      half = omega (arith, ints);
      middle = omega (arith, ints);
      rest = omega (arith, ints);
      near = (omega (arith, ints), omega (arith, ints));
      some = some;
      some_rest = omega (arith, ints);
      least = omega (arith, ints);
      most = omega (arith, ints);
      joined = omega (arith, ints);
      half_falls = omega (arith, ints);
      rest_falls = omega (arith, ints);
    }

-- a width of 1 leads to the next number
pub next_one : (low width : ℤ) → lt_z (pos 1) width ≡ false → pos 1 ≤ℤ width → low +ℤ width ≡ low +ℤ pos 1
next_one low width t some = omega (arith, ints)
