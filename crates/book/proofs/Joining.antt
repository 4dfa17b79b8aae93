-- A record that joins a log is its last.
use Rattle.std.proofs.Common.{◌≡◌, ℕ, ◌<◌, List, [], ◌∷◌, ◌++◌, min, length, take, add-one, arith}
use Rattle.std.proofs.Math.Seq.{take-suc-set}
use Rattle.logs.specs.Entries.{entries, capacity_of}
use Rattle.book.specs.Views.{Logged}
use Rattle.book.specs.Calls.{joined}

-- the records of a log that has a place left, and of the one that a record joined
pub joins_as_the_last : {X : Type 0} (l : Logged X) (x : X) → l.count < capacity_of l.memory → entries (joined l x).memory (joined l x).count ≡ entries l.memory l.count ++ (x ∷ [])
joins_as_the_last l x left = rw add-one (take-suc-set l.memory l.count x (omega arith))
