-- How much of a file decides its answer.
use Rattle.std.specs.Prelude.{ℕ, List, take, Result}
use Rattle.margin_file.specs.declared.fault.SampleFault.{SampleFault}
use Rattle.margin_file.specs.declared.sample.Sample.{Sample}
use Rattle.margin_file.specs.Samples.{read_lines, Answer}

-- the first n bytes of any file have the answers of the file, and no others
abbrev pub Enough : ℕ → Type 0
Enough n = (content : List ℕ) (r : Result Sample SampleFault) → (Answer (read_lines (take n content)) r → Answer (read_lines content) r) × (Answer (read_lines content) r → Answer (read_lines (take n content)) r)
