-- Digits read from the left, for `natural`: they are what `decimal` writes, or what it never writes.
use Rattle.std.proofs.Common.{◌≡◌, ℕ, ◌+◌, ◌-◌, ◌*◌, ◌^◌, ◌<◌, ◌≤◌, List, length, get_or, take, decimal, fold, sym, refl, ap, ◌∙◌, inl, inr, arith, rules, below_more}
use Rattle.std.proofs.lemmas.Fmt.{decimal_digit, decimal_nonempty, decimal-digits_value, digits_decimal, first_decimal, length-decimal-le, digits_value-decimal}
use Rattle.std.proofs.lemmas.List.{get_or-take, length-take-le, take_all}
use Rattle.std.proofs.lemmas.Str.Parse.{IsNumeralModel, numerals_by_fold, tells_by_index, digits_value_short}
use Rattle.std.proofs.lemmas.List.Sums.{fold_more}
use Rattle.std.proofs.lemmas.Bool.{cases_lt}
use Rattle.std.specs.Int.{IsInRange}

-- each byte is a digit
abbrev pub AllDigits : List ℕ → Type 0
AllDigits ds = (k : ℕ) → k < length ds → IsInRange 48 57 (get_or ds k 0)

-- the number that the digits write after those of n
abbrev pub read_on : ℕ → List ℕ → ℕ
read_on n ds = fold (λ v d. 10 * v + (d - 48)) n ds

pub own : IsNumeralModel AllDigits (read_on 0)
own = numerals_by_fold AllDigits tells_by_index read_on (search rules)

-- what a loop over the digits of ds knows after i of them
pub record Came (ds : List ℕ) (i v : ℕ) : Type 0 where
  pub digits : (k : ℕ) → k < i → IsInRange 48 57 (get_or ds k 0)
  pub value : v ≡ read_on 0 (take i ds)

pub came_none : (ds : List ℕ) → Came ds 0 0
came_none ds = record { digits = λ k h. absurd (omega arith); value = refl }

pub came_more : (ds : List ℕ) (i v : ℕ) → i < length ds → IsInRange 48 57 (get_or ds i 0) → Came ds i v → Came ds (i + 1) (10 * v + (get_or ds i 0 - 48))
came_more ds i v l here came = record {
  digits = below_more _ i came.digits here;
  value = ap (λ n. 10 * n + (get_or ds i 0 - 48)) came.value ∙ sym (fold_more (λ n d. 10 * n + (d - 48)) 0 ds i 0 l);
}

came_digits : (ds : List ℕ) (i v : ℕ) → i ≤ length ds → Came ds i v → AllDigits (take i ds)
came_digits ds i v l came k h =
    let below : k < i = omega (arith, length-take-le i ds l) in
    rw get_or-take (came.digits k below)

-- seven digits write less than ten million
pub came_below : (ds : List ℕ) (i v : ℕ) → i ≤ length ds → length ds ≤ 7 → Came ds i v → v < 10000000
came_below ds i v l short came =
    omega (arith, came.value, digits_value_short own (take i ds) 7 (came_digits ds i v l came) (omega (arith, length-take-le i ds l)))

-- digits with no leading zero are what `decimal` writes of their number
pub came_all : (ds : List ℕ) (i v : ℕ) → length ds ≤ i → 0 < length ds → length ds ≤ 7 → (get_or ds 0 0 ≡ 48 → length ds ≡ 1) → Came ds i v → ds ≡ decimal v
came_all ds i v end some short lead came =
    let all : AllDigits ds = λ k h. came.digits k (omega arith) in
    let is : v ≡ read_on 0 ds = came.value ∙ ap (read_on 0) (take_all i ds end) in
    let small : read_on 0 ds < 2 ^ 64 = omega (arith, digits_value_short own ds 7 all short) in
    sym (ap decimal is ∙ decimal-digits_value own ds all some lead small)

-- what the digits of a number are not
pub no_decimal_empty : (ds : List ℕ) (n : ℕ) → length ds ≡ 0 → n ≤ 1000000 → ds ≡ decimal n → ⊥
no_decimal_empty ds n none small e = omega (arith, decimal_nonempty n (omega arith), ap length e)

pub no_decimal_long : (ds : List ℕ) (n : ℕ) → 7 < length ds → n ≤ 1000000 → ds ≡ decimal n → ⊥
no_decimal_long ds n long small e = omega (arith, length-decimal-le 7 n (omega arith) (omega arith) (omega arith), ap length e)

pub no_decimal_zero : (ds : List ℕ) (n : ℕ) → get_or ds 0 0 ≡ 48 → 1 < length ds → n ≤ 1000000 → ds ≡ decimal n → ⊥
no_decimal_zero ds n lead more small e =
    elim (cases_lt 0 n) [
      | inl h ↦ omega (arith, first_decimal n h (omega arith), ap (λ ds. get_or ds 0 0) e)
      | inr h ↦ omega (arith, ap length e, ap length (decimal_digit n (omega arith)))
    ]

pub no_decimal_other : (ds : List ℕ) (n i : ℕ) → i < length ds → (IsInRange 48 57 (get_or ds i 0) → ⊥) → n ≤ 1000000 → ds ≡ decimal n → ⊥
no_decimal_other ds n i l other small e =
    let all : AllDigits ds = rw e (digits_decimal own n (omega arith)) in
    other (all i l)

pub no_decimal_large : (ds : List ℕ) (i v n : ℕ) → length ds ≤ i → 1000000 < v → Came ds i v → n ≤ 1000000 → ds ≡ decimal n → ⊥
no_decimal_large ds i v n end large came small e =
    let is : v ≡ n = came.value ∙ ap (read_on 0) (take_all i ds end ∙ e) ∙ digits_value-decimal own n (omega arith) in
    omega arith

pub first_digit : (n : ℕ) → n ≤ 1000000 → IsInRange 48 57 (get_or (decimal n) 0 0)
first_digit n small = digits_decimal own n (omega arith) 0 (decimal_nonempty n (omega arith))
