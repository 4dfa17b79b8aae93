-- What a test by a range of whole numbers tells.
use Rattle.std.proofs.Common.{◌≡◌, ℕ, ◌≤◌, Bool, true, false, cond, ◌&&◌, ℤ, ◌≤ℤ◌, MatchBool, arith}
use Rattle.std.specs.Ordering.{nat_cmp, int_cmp, is_le, is_lt}
use Rattle.std.proofs.lemmas.Int.{ints}
use Rattle.equations.specs.Ranges.{between}

-- the answer of `(a..=b).contains(&x)`, as the library tells it of a range from s to e
abbrev pub told : ℤ → ℤ → Bool → ℤ → Bool
told s e gone x = is_le (int_cmp s x) && cond gone (is_lt (int_cmp x e)) (is_le (int_cmp x e))

-- it tells whether x lies from a to b
pub tells : (s e a b x : ℤ) (gone r : Bool) → s ≡ a → e ≡ b → gone ≡ false → r ≡ told s e gone x → between a x b ≡ r
tells s e a b x gone r p q g t = grind (arith, ints)

pub within : (s e a b x : ℤ) (gone : Bool) → s ≡ a → e ≡ b → gone ≡ false → true ≡ told s e gone x → (a ≤ℤ x) × (x ≤ℤ b)
within s e a b x gone p q r t = (grind (arith, ints), grind (arith, ints))

pub beyond : (s e a b x : ℤ) (gone : Bool) → s ≡ a → e ≡ b → gone ≡ false → false ≡ told s e gone x → a ≤ℤ x → x ≤ℤ b → ⊥
beyond s e a b x gone p q r t h k = grind (arith, ints)

-- a test that tells whether P holds
pub tells_whether : (s e a b x : ℤ) (gone r : Bool) (P : Type 0) → s ≡ a → e ≡ b → gone ≡ false → r ≡ told s e gone x → (a ≤ℤ x → x ≤ℤ b → P) → (P → (a ≤ℤ x) × (x ≤ℤ b)) → MatchBool r P (P → ⊥)
tells_whether s e a b x gone true P p q r t holds bounds = let k = within s e a b x gone p q r t in holds k.0 k.1
tells_whether s e a b x gone false P p q r t holds bounds = λ h. let k = bounds h in beyond s e a b x gone p q r t k.0 k.1

-- the same at a length
pub within_count : (s e a b n : ℕ) (gone : Bool) → s ≡ a → e ≡ b → gone ≡ false → true ≡ (is_le (nat_cmp s n) && cond gone (is_lt (nat_cmp n e)) (is_le (nat_cmp n e))) → (a ≤ n) × (n ≤ b)
within_count s e a b n gone p q r t = (grind arith, grind arith)
