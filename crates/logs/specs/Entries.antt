-- The records that a memory holds.
use Rattle.std.specs.Prelude.{ℕ, ◌-◌, ◌≤◌, min, cond, List, length, take, None, Option, nat_lt}
use Rattle.std.specs.List.{slice_get}

-- the records entered, in order: the first of the memory that is lent
abbrev pub entries : {X : Type 0} → List X → ℕ → List X
entries slots n = take n slots

-- how many records there is place for in all
abbrev pub capacity_of : {X : Type 0} → List X → ℕ
capacity_of slots = min (length slots) 65536

-- numbers are counted from 1
abbrev pub Numbered : {X : Type 0} → List X → ℕ → Type 0
Numbered xs k = (1 ≤ k) × (k ≤ length xs)

-- the record with the number k, if there is one
abbrev pub record_at : {X : Type 0} → List X → ℕ → Option X
record_at xs k = cond (nat_lt 0 k) (slice_get xs (k - 1)) None
