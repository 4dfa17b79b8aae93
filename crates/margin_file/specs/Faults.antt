-- What a fault tells of a file.
use Rattle.std.specs.Prelude.{ℕ, Bool, cond, pos, Some, None, Option}
use Rattle.equations.specs.declared.fault.FigureFault.{FigureFault}
use Rattle.equations.specs.declared.fault.FigureFault.TheVariants.{Overall, Entry}
use Rattle.equations.specs.declared.fault.Told.{Told}
use Rattle.equations.specs.Grounds.{tells, told}
use Rattle.margin_file.specs.declared.fault.Refusal.{Refusal}
use Rattle.margin_file.specs.declared.fault.SampleFault.{SampleFault}
use Rattle.margin_file.specs.declared.fault.SampleFault.TheVariants.{Unreadable, Refused, Memory}

-- ground 1: the place is 0 where the line has too many bytes, else 1
abbrev pub no_number : Bool → Told
no_number over = tells 1 (cond over (pos 0) (pos 1)) (pos 0)

-- ground 7 names the line of the deviation, and 0 where the count of deviations is out of bounds
abbrev pub line_out_of_bounds : FigureFault → ℕ
line_out_of_bounds Overall = 0
line_out_of_bounds (Entry n) = n

-- what is told of the line with the number n
abbrev pub told_at : ℕ → Told → Refusal
told_at n why = record { line = n; told = why }

-- by case, what a fault tells; want of memory tells nothing of the file
abbrev pub fault_told : SampleFault → Option Refusal
fault_told (Unreadable n over) = Some (told_at n (no_number over))
fault_told (Refused e) = Some (told_at (line_out_of_bounds e) (told e))
fault_told Memory = None
