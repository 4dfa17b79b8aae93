-- Ranges.
use Rattle.std.specs.Prelude.{ℕ, Bool, ◌&&◌, ℤ, pos, neg_ℤ, ◌≤ℤ◌, int_le}

-- whether x lies from a to b, both included
abbrev pub between : ℤ → ℤ → ℤ → Bool
between a x b = int_le a x && int_le x b

-- within ±n
abbrev pub Near : ℕ → ℤ → Type 0
Near n x = (neg_ℤ (pos n) ≤ℤ x) × (x ≤ℤ pos n)

-- near enough to 0 for a few of them to be added in a machine number
abbrev pub Small : ℤ → Type 0
Small x = Near 1000000000000 x
