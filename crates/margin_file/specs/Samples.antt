-- The deviations of a file, and the answer to it.
use Rattle.std.specs.Prelude.{◌≡◌, ℕ, suc, ◌<◌, List, [], ◌∷◌, ◌++◌, length, take, ℤ, Some, Ok, Err, Result, slice_index_or}
use Rattle.std.specs.List.{AllZip}
use Rattle.equations.specs.Grounds.{Judged}
use Rattle.equations.specs.Margins.{MarginOf, margin_refused}
use Rattle.margin_file.specs.declared.fault.SampleFault.{SampleFault}
use Rattle.margin_file.specs.declared.fault.SampleFault.TheVariants.{Unreadable, Refused, Memory}
use Rattle.margin_file.specs.declared.sample.Sample.{Sample}
use Rattle.margin_file.specs.Faults.{fault_told, no_number, told_at}
use Rattle.text.specs.Lines.{lines, too_long}
use Rattle.text.specs.Numbers.{Writes}

-- at most the first 100,000 lines of a file are read
abbrev pub read_lines : List ℕ → List (List ℕ)
read_lines content = take 100000 (lines content)

-- the lines write the deviations ds, each line its own
abbrev pub Written : List (List ℕ) → List ℤ → Type 0
Written ls ds = AllZip Writes ls ds

-- a line that writes no number
abbrev pub UnreadableLine : List ℕ → Type 0
UnreadableLine l = (n : ℤ) → Writes l n → ⊥

-- the first line that writes no number has k lines before it
pub record FirstUnreadable (ls : List (List ℕ)) (k : ℕ) : Type 0 where
  pub within : k < length ls
  pub earlier : (ds : List ℤ) × Written (take k ls) ds
  pub unreadable : UnreadableLine (slice_index_or ls k [])

-- the deviation that the line l writes is added to those before it
abbrev pub Added : List ℤ → List ℕ → List ℤ → Type 0
Added ds l es = (d : ℤ) × Writes l d × (es ≡ ds ++ (d ∷ []))

-- why the deviation of the line l, with the number n, was not added
abbrev pub LineFault : ℕ → List ℕ → SampleFault → Type 0
LineFault n l (Unreadable at_line over) = UnreadableLine l × (at_line ≡ n) × (over ≡ too_long l)
LineFault n l (Refused e) = ⊥
LineFault n l Memory = Unit {0}

-- the lines write deviations for which P holds
abbrev pub Deviations : List (List ℕ) → (List ℤ → Type 0) → Type 0
Deviations ls P = (ds : List ℤ) × Written ls ds × P ds

-- the fault of the lines, by case: ground 1 is judged over all lines before ground 7, and memory may always be wanting
abbrev pub FaultOf : List (List ℕ) → SampleFault → Type 0
FaultOf ls (Unreadable n over) = (k : ℕ) × FirstUnreadable ls k × (fault_told (Unreadable n over) ≡ Some (told_at (suc k) (no_number (too_long (slice_index_or ls k [])))))
FaultOf ls (Refused e) = Deviations ls (λ ds. Judged (margin_refused ds) (MarginOf ds) (Err e))
FaultOf ls Memory = Unit {0}

-- the answer to the lines: the count of their deviations and the margin, or the fault
abbrev pub Answer : List (List ℕ) → Result Sample SampleFault → Type 0
Answer ls (Ok s) = Deviations ls (λ ds. (s.count ≡ length ds) × Judged (margin_refused ds) (MarginOf ds) (Ok s.margin))
Answer ls (Err e) = FaultOf ls e
