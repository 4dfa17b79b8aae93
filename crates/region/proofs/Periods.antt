-- The numbers of a range from a to b, both included, as it gives them one by one.
use Rattle.std.proofs.Common.{◌≡◌, ℕ, ◌<◌, zero, suc, Bool, true, false, List, [], ◌∷◌, length, get_or, ℤ, pos, ◌+ℤ◌, Some, None, Option, sym, refl, ap, ◌∙◌, arith, add-one}
use Rattle.std.proofs.lemmas.Int.{ints}
use Rattle.std.proofs.lemmas.Iterator.{YieldsList}
use Rattle.std.proofs.lemmas.Iterator.Consumers.{YieldsList-from_shown}
use Rattle.std.specs.Int.{int_gap}
use Rattle.std.specs.Range.{range_inclusive_start, range_inclusive_end, range_inclusive_exhausted, range_inclusive_left, range_inclusive_len, range_inclusive_steps}
use Rattle.std.specs.declared.ops.RangeInclusive.{RangeInclusive}

-- n whole numbers from a on
abbrev pub numbers : ℤ → ℕ → List ℤ
numbers a zero = []
numbers a (suc n) = a ∷ numbers (a +ℤ pos 1) n

pub length-numbers : (a : ℤ) (n : ℕ) → length (numbers a n) ≡ n
length-numbers a zero = refl
length-numbers a (suc n) = ap suc (length-numbers (a +ℤ pos 1) n)

pub get_or-numbers : (a d : ℤ) (n k : ℕ) → k < n → get_or (numbers a n) k d ≡ a +ℤ pos k
get_or-numbers a d zero k l = absurd (omega arith)
get_or-numbers a d (suc n) zero l = omega (arith, ints)
get_or-numbers a d (suc n) (suc k) l = get_or-numbers (a +ℤ pos 1) d n k (omega arith) ∙ omega (arith, ints)

-- what is left of a range
abbrev pub left_of : RangeInclusive ℤ → List ℤ
left_of s = numbers (range_inclusive_start s) (range_inclusive_left int_gap s)

same_rest : (spent : Bool) (a b : ℤ) (n : ℕ) → (spent ≡ true → n ≡ 0) → (spent ≡ false → b ≡ a) → numbers a n ≡ numbers b n
same_rest true a b n none_left next = ap (numbers a) (none_left refl) ∙ sym (ap (numbers b) (none_left refl))
same_rest false a b n none_left next = ap (λ x. numbers x n) (sym (next refl))

abbrev pub steps : RangeInclusive ℤ → Option ℤ → RangeInclusive ℤ → Type 0
steps = range_inclusive_steps int_gap (λ x y. y ≡ x +ℤ pos 1)

pub numbers_come : (s : RangeInclusive ℤ) → YieldsList steps (λ x. x) s (left_of s)
numbers_come s = YieldsList-from_shown steps (λ x. x) left_of ends comes s
  where
    ends : (s t : RangeInclusive ℤ) → steps s None t → length (left_of s) ≡ 0
    ends s t h = length-numbers _ _ ∙ h.1.0

    comes : (s : RangeInclusive ℤ) (x : ℤ) (t : RangeInclusive ℤ) → steps s (Some x) t → left_of s ≡ x ∷ left_of t
    comes s x t h =
        ap (numbers (range_inclusive_start s)) (sym h.1.1 ∙ add-one _)
        ∙ ap (λ xs. range_inclusive_start s ∷ xs)
        (same_rest (range_inclusive_exhausted t) (range_inclusive_start s +ℤ pos 1) (range_inclusive_start t) (range_inclusive_left int_gap t)
        (λ e. ap (λ b. range_inclusive_len int_gap (range_inclusive_start t) (range_inclusive_end t) b) e) h.1.2)
        ∙ ap (λ y. y ∷ left_of t) (sym h.1.0)
