-- Products of whole numbers: how far from 0 they lie, and their order.
use Rattle.std.proofs.Common.{◌≡◌, ℕ, ◌*◌, ◌^◌, ◌<◌, ◌≤◌, Bool, true, false, ℤ, ◌*ℤ◌, nat_abs, ◌≤ℤ◌, ◌<ℤ◌, MatchBool, sym, refl, subst, mul-le-mul, arith, w64, SFits}
use lib.Signed.{le_z}
use Rattle.equations.specs.Ranges.{Near}
use Rattle.std.proofs.lemmas.Int.{ints, unsigned_abs-mul}

abs_near : (A : ℕ) (a : ℤ) → Near A a → nat_abs a ≤ A
abs_near A a h = omega (arith, ints)

near_abs : (A : ℕ) (a : ℤ) → nat_abs a ≤ A → Near A a
near_abs A a h = (omega (arith, ints), omega (arith, ints))

pub near_product : (A B : ℕ) (a b : ℤ) → Near A a → Near B b → Near (A * B) (a *ℤ b)
near_product A B a b ha hb = near_abs (A * B) (a *ℤ b) (subst (λ (n : ℕ). n ≤ A * B) (sym (unsigned_abs-mul a b)) (mul-le-mul (abs_near A a ha) (abs_near B b hb)))

pub near_fits : (a : ℤ) (A : ℕ) → A < 2 ^ 63 → Near A a → SFits w64 a
near_fits a A h n = omega (arith, ints)

-- a test that tells whether P holds
pub when_le : (a b : ℤ) (P : Type 0) → (a ≤ℤ b → P) → (b <ℤ a → P → ⊥) → MatchBool (le_z a b) P (P → ⊥)
when_le a b P holds fails = by_test (le_z a b) refl
  where
    by_test : (t : Bool) → le_z a b ≡ t → MatchBool t P (P → ⊥)
    by_test true e = holds (omega (arith, ints))
    by_test false e = fails (omega (arith, ints))
