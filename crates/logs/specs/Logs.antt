-- A log as a whole, and what a call does to it.
use Rattle.std.specs.Prelude.{◌≡◌, ℕ, ◌+◌, ◌-◌, ◌<◌, ◌≤◌, Bool, true, false, List, [], ◌∷◌, ◌++◌, Result, MatchResult, slice_set}
use Rattle.logs.specs.declared.Log.{Log}
use Rattle.logs.specs.declared.LogFull.{LogFull}
use Rattle.logs.specs.Entries.{entries, capacity_of, Numbered}

-- the memory that is lent to the log, all of it
abbrev pub memory : {X : Type 0} → Log X → List X
memory l = l.slots.now

-- the records of the log, in order
abbrev pub records : {X : Type 0} → Log X → List X
records l = entries (memory l) l.count

-- the log still stands in the memory that was lent to it
abbrev pub SameMemory : {X : Type 0} → Log X → Log X → Type 0
SameMemory was new = new.slots.ghost_name ≡ was.slots.ghost_name

-- a record x was entered: it becomes the last, the count is told, and the memory beyond it stays; refused exactly where there is no place
-- left, and then all stays
abbrev pub Entered : {X : Type 0} → Log X → X → Result ℕ LogFull → Log X → Type 0
Entered was x r new =
    MatchResult r
    (λ k. (was.count < capacity_of (memory was)) × (k ≡ was.count + 1) × (new.count ≡ was.count + 1) × (records new ≡ records was ++ (x ∷ [])) × (memory new ≡ slice_set (memory was) was.count x))
    (λ _. (capacity_of (memory was) ≤ was.count) × (new.count ≡ was.count) × (memory new ≡ memory was))

-- the record with the number k was changed where it stands, if there is one: the count and all other memory stay
abbrev pub Changed : {X : Type 0} → Log X → ℕ → X → Bool → Log X → Type 0
Changed was k x true new =
    Numbered (records was) k × (new.count ≡ was.count) × (records new ≡ slice_set (records was) (k - 1) x) × (memory new ≡ slice_set (memory was) (k - 1) x)
Changed was k x false new = (Numbered (records was) k → ⊥) × (new.count ≡ was.count) × (memory new ≡ memory was)
