-- What follows of a field that writes a number, for `number` and for the crates above.
use Rattle.std.proofs.Common.{◌≡◌, ℕ, zero, suc, ◌<◌, ◌≤◌, Bool, true, false, IsTrue, ◌↔◌, List, [], ◌∷◌, length, get_or, drop, ℤ, pos, negsuc, neg_ℤ, decimal, Some, IfSome, MatchOption, Ok, Err, Result, FitsSigned, w32, sym, refl, ap, ◌∙◌, inl, inr, arith}
use lib.Signed.{mag}
use Rattle.std.proofs.lemmas.Bool.{false≢true}
use Rattle.std.proofs.lemmas.Fmt.{IsAscii-signed, decimal_digit, decimal_nonempty, decimal-digits_value, first_decimal, length_signed_le, decimal_injective, parse-signed_decimal, signed_decimal_injective}
use Rattle.std.proofs.lemmas.Int.{ints}
use Rattle.std.proofs.lemmas.Str.{IsUtf8-from_ascii}
use Rattle.std.proofs.lemmas.Str.Parse.{IsNumeralModel, numerals_by_value, parse_signed_minus, parse_signed_plain, tells_by_index}
use Rattle.std.specs.Bool.{then_some}
use Rattle.std.specs.Fmt.{signed_decimal}
use Rattle.std.specs.Int.{IsInRange}
use Rattle.std.specs.Result.{result_ok}
use Rattle.std.specs.Str.{IsUtf8}
use Rattle.std.specs.Str.Parse.{ParsesSigned, digits_value}
use Rattle.text.proofs.DigitLaws.{AllDigits, first_digit}
use Rattle.text.specs.Numbers.{Allowed, BeginsRight, Writes}

allowed_mag : (n : ℤ) → Allowed n → mag n ≤ 1000000
allowed_mag (pos n) h = omega (arith, ints)
allowed_mag (negsuc n) h = omega (arith, ints)

own : IsNumeralModel AllDigits (digits_value 10)
own = numerals_by_value AllDigits tells_by_index

-- a field writes at most one number
pub writes_once : (field : List ℕ) (m n : ℤ) → Writes field m → Writes field n → m ≡ n
writes_once field m n p q =
    signed_decimal_injective m n (omega (arith, allowed_mag m p.0)) (omega (arith, allowed_mag n q.0)) (sym p.1 ∙ q.1)

-- a field that writes a number has at most eight bytes
pub writes_short : (field : List ℕ) (n : ℤ) → Writes field n → length field ≤ 8
writes_short field n p =
    let small = allowed_mag n p.0 in
    omega (arith, ap length p.1, length_signed_le 7 n (omega arith) (omega arith))

-- and at least one
pub writes_some : (field : List ℕ) (n : ℤ) → Writes field n → 0 < length field
writes_some field (pos n) p = omega (arith, ap length p.1, decimal_nonempty n (omega (arith, allowed_mag (pos n) p.0)))
writes_some field (negsuc n) p = omega (arith, ap length p.1)

-- what stands after a `-` in front are the digits of a number other than 0
pub minus_only : (field ds : List ℕ) (b : ℕ) (n : ℤ) → field ≡ b ∷ ds → b ≡ 45 → Writes field n → (m : ℕ) × (0 < m) × (m ≤ 1000000) × (ds ≡ decimal m)
minus_only field ds b (pos n) e minus p =
    absurd (omega (arith, first_digit n (allowed_mag (pos n) p.0), ap (λ bs. get_or bs 0 0) (sym p.1 ∙ e)))
minus_only field ds b (negsuc n) e minus p = (suc n, omega arith, omega (arith, ints, p.0), ap (drop 1) (sym e ∙ p.1))

pub no_minus_zero : (field ds : List ℕ) (b m : ℕ) (n : ℤ) → field ≡ b ∷ ds → b ≡ 45 → ds ≡ decimal m → m ≡ 0 → Writes field n → ⊥
no_minus_zero field ds b m n e minus is none p =
    let k = minus_only field ds b n e minus p in
    omega (arith, decimal_injective k.0 m (omega (arith, k.2)) (omega arith) (sym k.3 ∙ is), k.1)

-- it is a text, and reading it gives the number
pub writes_text : (field : List ℕ) (n : ℤ) → Writes field n → IsUtf8 field
writes_text field n p =
    let small = allowed_mag n p.0 in
    rw p.1 (IsUtf8-from_ascii _ (IsAscii-signed n (omega arith)))

fits : (n : ℤ) → Allowed n → FitsSigned w32 n
fits n h = omega (arith, ints)

pub writes_read : {E : Type 0} (field : List ℕ) (n : ℤ) (r : Result ℤ E) → Writes field n → ParsesSigned w32 10 field r → r ≡ Ok n
writes_read field n r p read =
    let small = allowed_mag n p.0 in
    parse-signed_decimal w32 n field r (fits n p.0) (omega arith) p.1 read

-- the first digit of a number above 0 is not 0
first_above_0 : (n : ℕ) → 0 < n → n ≤ 1000000 → IsInRange 49 57 (get_or (decimal n) 0 0)
first_above_0 n some small =
    let digit = first_digit n small in
    omega (arith, first_decimal n some (omega arith))

pub writes_begins : (field : List ℕ) (n : ℤ) → Writes field n → BeginsRight field
writes_begins field (pos zero) p = inl (p.1 ∙ decimal_digit 0 (omega arith))
writes_begins field (pos (suc n)) p = rw p.1 (inr (inl (first_above_0 (suc n) (omega arith) (omega (arith, ints)))))
writes_begins field (negsuc n) p = rw p.1 (inr (inr (refl, first_above_0 (suc n) (omega arith) (omega (arith, ints)))))

-- the field is read as n, whatever its sign and its leading zeros
abbrev ReadAs : List ℕ → ℤ → Type 0
ReadAs field n = ParsesSigned {E = ℕ} w32 10 field (Ok n)

plain_writes : (field : List ℕ) (n : ℤ) → 48 ≤ get_or field 0 0 → (get_or field 0 0 ≡ 48 → length field ≡ 1) → ReadAs field n → field ≡ signed_decimal n
plain_writes field n digit lead read =
    let parsed = parse_signed_plain own {E = ℕ} w32 field (Ok n) read (omega arith) (omega arith) in
    rw parsed.1 (sym (decimal-digits_value own field parsed.0.0 parsed.0.1 lead (omega (arith, parsed.0.2))))

negated : (ds : List ℕ) (m : ℕ) (n : ℤ) → 49 ≤ get_or ds 0 0 → ds ≡ decimal m → n ≡ neg_ℤ (pos m) → 45 ∷ ds ≡ signed_decimal n
negated ds zero n digit is e = absurd (omega (arith, ap (λ bs. get_or bs 0 0) (is ∙ decimal_digit 0 (omega arith))))
negated ds (suc m) n digit is e = rw (e, is) refl

minus_writes : (field : List ℕ) (n : ℤ) → get_or field 0 0 ≡ 45 → 49 ≤ get_or field 1 0 → ReadAs field n → field ≡ signed_decimal n
minus_writes [] n minus digit read = absurd (omega arith)
minus_writes (b ∷ ds) n minus digit read =
    let parsed = parse_signed_minus own {E = ℕ} w32 (b ∷ ds) (Ok n) read minus in
    let written = sym (decimal-digits_value own ds parsed.0.0 parsed.0.1 (λ h. absurd (omega arith)) (omega (arith, parsed.0.2))) in
    ap (λ c. c ∷ ds) minus ∙ negated ds _ n digit written parsed.1

begun_writes : (field : List ℕ) (n : ℤ) → ReadAs field n → BeginsRight field → field ≡ signed_decimal n
begun_writes field n read (inl only) = plain_writes field n (rw only (omega arith)) (λ h. ap length only) read
begun_writes field n read (inr (inl digit)) = plain_writes field n (omega arith) (λ h. absurd (omega arith)) read
begun_writes field n read (inr (inr (minus, digit))) = minus_writes field n minus digit.0 read

-- what is read of a field that begins as numbers do is the number that it writes
pub read_writes : {E : Type 0} (field : List ℕ) (r : Result ℤ E) → ParsesSigned w32 10 field r → IfSome (result_ok r) (λ n. BeginsRight field → field ≡ signed_decimal n)
read_writes field (Ok n) read = begun_writes field n read
read_writes field (Err e) read = tt

-- of a number that the field was read as, only whether it is allowed is left to tell
pub told_allowed : (field : List ℕ) (n : ℤ) (allowed : Bool) → field ≡ signed_decimal n → ((m : ℤ) → Writes field m → Some n ≡ Some m) → (IsTrue allowed ↔ Allowed n) → MatchOption (then_some allowed n) ((m : ℤ) → Writes field m → ⊥) (λ m. Writes field m)
told_allowed field n true same once tells = (tells.0 refl, same)
told_allowed field n false same once tells = λ m p. false≢true (tells.1 (let e : n ≡ m = cc (once m p) in rw e p.0))
