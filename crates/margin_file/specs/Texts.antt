-- The one line of text that an answer is written as.
use Rattle.std.specs.Prelude.{◌≡◌, ℕ, List, [], ◌∷◌, ◌++◌, Ok, Err, codes, decimal, Result}
use Rattle.margin_file.specs.declared.fault.Refusal.{Refusal}
use Rattle.margin_file.specs.declared.fault.SampleFault.{SampleFault}
use Rattle.margin_file.specs.declared.fault.SampleFault.TheVariants.{Memory}
use Rattle.margin_file.specs.declared.sample.Sample.{Sample}
use Rattle.margin_file.specs.Faults.{fault_told}
use Rattle.margin_file.specs.Samples.{read_lines, Answer}
use Rattle.std.specs.Option.{option_map, unwrap_or}
use Rattle.std.specs.Fmt.{signed_decimal}

-- fields with a comma between each two
abbrev pub fields : List (List ℕ) → List ℕ
fields [] = []
fields (x ∷ []) = x
fields (x ∷ (y ∷ ys)) = x ++ (codes "," ++ fields (y ∷ ys))

-- ok,COUNT,MARGIN
abbrev pub sample_text : Sample → List ℕ
sample_text s = fields (codes "ok" ∷ decimal s.count ∷ signed_decimal s.margin ∷ [])

-- no,LINE,NUMBER,PLACE,PERIOD
abbrev pub refusal_text : Refusal → List ℕ
refusal_text r = fields (codes "no" ∷ decimal r.line ∷ decimal r.told.number ∷ signed_decimal r.told.place ∷ signed_decimal r.told.period ∷ [])

-- what the fault tells of the file, or that memory was wanting
abbrev pub fault_text : SampleFault → List ℕ
fault_text e = unwrap_or (option_map refusal_text (fault_told e)) (codes "out of memory")

abbrev pub answer_text : Result Sample SampleFault → List ℕ
answer_text (Ok s) = sample_text s
answer_text (Err e) = fault_text e

-- the bytes are a line that answers the file, with the byte that ends it; a line never tells of memory
pub record AnswerLine (content out : List ℕ) : Type 0 where
  pub verdict : Result Sample SampleFault
  pub answers : Answer (read_lines content) verdict
  pub of_the_file : verdict ≡ Err Memory → ⊥
  pub written_out : out ≡ answer_text verdict ++ (10 ∷ [])
