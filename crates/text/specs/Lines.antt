-- The lines of a file.
use Rattle.std.specs.Prelude.{◌≡◌, ℕ, ◌<◌, Bool, cond, ◌⊎◌, List, [], ◌∷◌, ◌++◌, length, Some, None, Option, IfSome, ◌==◌, ◌≢◌, nat_lt, slice_index}
use Rattle.std.specs.Borrow.{Bor}
use Rattle.std.specs.Option.{option_map}

-- the byte b, put before the first of the lines
abbrev pub begins : ℕ → List (List ℕ) → List (List ℕ)
begins b [] = (b ∷ []) ∷ []
begins b (l ∷ ls) = (b ∷ l) ∷ ls

-- a line ends with the byte 10 or with the file's end; after a last byte 10 there is no further line
unfoldable pub lines : List ℕ → List (List ℕ)
lines [] = []
lines (b ∷ bs) = cond (b == 10) ([] ∷ lines bs) (begins b (lines bs))

-- no line may have more than 200 bytes
abbrev pub too_long : List ℕ → Bool
too_long line = nat_lt 200 (length line)

-- the next line of what is left, and what is left after it; none where no line is left
abbrev pub Next : List ℕ → Option (List ℕ) → List ℕ → Type 0
Next left None after = (lines left ≡ []) × (after ≡ left)
Next left (Some first) after = lines left ≡ first ∷ lines after

-- how a line was cut off the front of what is left: it holds no byte 10, and what stands behind it is a byte 10 and the rest, or nothing
pub record LineCut (left first after : List ℕ) : Type 0 where
  pub unbroken : (k : ℕ) → k < length first → slice_index first k ≢ 10
  pub parts : (left ≡ first ++ (10 ∷ after)) ⊎ ((left ≡ first) × (after ≡ []))

-- what one call hands out of what is left: the next line, cut off its front
pub record HandsOut (left : List ℕ) (given : Option (Bor (List ℕ))) (after : List ℕ) : Type 0 where
  pub next : Next left (option_map (λ line. line.now) given) after
  pub part : IfSome given (λ line. LineCut left line.now after)
