-- A number in its one written form.
use Rattle.std.specs.Prelude.{◌≡◌, ℕ, ◌⊎◌, List, [], ◌∷◌, ℤ, pos, neg_ℤ, ◌≤ℤ◌, slice_index}
use Rattle.std.specs.Fmt.{signed_decimal}
use Rattle.std.specs.Int.{IsInRange}

-- the numbers that may be written: within ±1,000,000
abbrev pub Allowed : ℤ → Type 0
Allowed n = (neg_ℤ (pos 1000000) ≤ℤ n) × (n ≤ℤ pos 1000000)

-- n may be written, and the bytes are its digits, with a `-` in front if n is below zero: no `+`, no leading zero and no `-0`
abbrev pub Writes : List ℕ → ℤ → Type 0
Writes bytes n = Allowed n × (bytes ≡ signed_decimal n)

-- the bytes begin as numbers are written: they are `0` alone, or their first digit, behind a `-` or not, is another
abbrev pub BeginsRight : List ℕ → Type 0
BeginsRight bytes = (bytes ≡ 48 ∷ []) ⊎ (IsInRange 49 57 (slice_index bytes 0) ⊎ ((slice_index bytes 0 ≡ 45) × IsInRange 49 57 (slice_index bytes 1)))
