-- Sums of whole numbers.
use Rattle.std.specs.Prelude.{ℕ, zero, suc, Bool, cond, ℤ, pos, ◌+ℤ◌}

-- m where the test holds, else 0
abbrev pub part : Bool → ℤ → ℤ
part b m = cond b m (pos 0)

-- f 0 + .. + f (n - 1)
unfoldable pub total : ℕ → (ℕ → ℤ) → ℤ
total zero f = pos 0
total (suc n) f = total n f +ℤ f n
